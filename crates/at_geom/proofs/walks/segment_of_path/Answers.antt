use Rattle.std.proofs.Common.{arith}
use Rattle.at_geom.proofs.Finding.{all_edges, edge_passed}
use Rattle.at_geom.proofs.walks.segment_of_path.Goals as goal

pub loop-to-init : goal.loop-to-init
loop-to-init g c = all_edges c.in-Some.ensures.cases.0 c.requires.path_in_range

pub loop-to-preserved : goal.loop-to-preserved
loop-to-preserved g c = edge_passed _ c.loop-to.invariant (omega arith) ((c.loop-to.invariant.from_in_range, c.loop-to.invariant.rest_in_range _ _ (omega arith)), rw c.if-test.false at c.test.ensures)
