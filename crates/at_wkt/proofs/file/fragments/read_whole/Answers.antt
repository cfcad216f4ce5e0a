use Rattle.std.proofs.Common.{refl}
use Rattle.at_wkt.proofs.LineMerges.{whole_read}
use Rattle.at_wkt.proofs.file.fragments.read_whole.Goals as goal

pub returns : goal.returns
returns g c = whole_read (g.F.Fold.is_own c.args.fold.now) (g.F.Fold.is_fold c.args.fold.now) c.args.base c.args.piece.now c.args.first _ _ c.in_ok-part.field-0 c.requires.first c.requires.inside c.in_ok-part.ensures
    refl refl refl refl
