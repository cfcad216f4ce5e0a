use Rattle.std.proofs.Common.{ap, arith}
use Rattle.std.proofs.lemmas.List.{drop_more}
use Rattle.at_geom.specs.Shapes.{segments_of_points}
use Rattle.at_geom.proofs.Finding.{passed}
use Rattle.at_geom.proofs.walks.segment_of_points.Goals as goal

pub loop-p-preserved : goal.loop-p-preserved
loop-p-preserved g c = passed c.loop-p.invariant (ap segments_of_points (drop_more c.args.points.now c.loop-p.p-index _ (omega arith))) ((c.requires.points_in_range _ _ (omega arith), c.requires.points_in_range _ _ (omega arith)), rw c.if-test.false at c.test.ensures)
