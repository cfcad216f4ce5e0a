use Rattle.std.proofs.Common.{length, refl}
use Rattle.at_text.specs.Texts.{base_of}
use Rattle.at_wkt.proofs.LineMerges.{whole_stands}
use Rattle.at_wkt_tests.proofs.cut_tests.finish_pair.Goals as goal

pub merge_lines-whole-requires-clause-neighbours : goal.merge_lines-whole-requires-clause-neighbours
merge_lines-whole-requires-clause-neighbours g c κs within =
    let (i, near) = c.requires.neighbours in
    (base_of c.args.bytes.now, i, length c.args.bytes.now, near)

pub finish_lines-requires-clause-whole : goal.finish_lines-requires-clause-whole
finish_lines-requires-clause-whole g c κs within =
    let (i, near) = c.requires.neighbours in
    whole_stands (g.F.Fold.is_own c.args.fold.now) (g.F.Fold.is_fold c.args.fold.now) c.args.bytes.now (base_of c.args.bytes.now) c.merge_lines-whole.result refl
    (c.merge_lines-whole.ensures.merged (base_of c.args.bytes.now) i (length c.args.bytes.now) near)
