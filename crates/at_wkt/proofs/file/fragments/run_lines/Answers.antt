use Rattle.std.proofs.Common.{refl}
use Rattle.at_wkt.proofs.LineMerges.{piece_read}
use Rattle.at_wkt.proofs.file.fragments.run_lines.Goals as goal

pub returns-then-first-piece : goal.returns-then-first-piece
returns-then-first-piece g c = piece_read (g.F.Fold.is_own c.args.fold.now) (g.F.Fold.is_fold c.args.fold.now) c.args.base c.args.piece.now c.first_place-first.result _ c.first_place-first.ensures.first c.if-first-piece.true refl refl
