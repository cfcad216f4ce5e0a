use Rattle.std.proofs.Common.{ap, arith}
use Rattle.at_geom.specs.Segments.{edges}
use Rattle.at_geom.proofs.Finding.{item_found, item_passed}
use Rattle.at_geom.proofs.walks.segment_of_paths.Goals as goal

pub returns-then-segment_of_path : goal.returns-then-segment_of_path
returns-then-segment_of_path g c = item_found c.loop-path.invariant c.path-item.is (omega arith) (ap edges c.as_slice.ensures) c.segment_of_path.ensures c.if-segment_of_path.true

pub loop-path-preserved : goal.loop-path-preserved
loop-path-preserved g c = item_passed c.loop-path.invariant c.path-item.is (omega arith) (ap edges c.as_slice.ensures) c.segment_of_path.ensures c.if-segment_of_path.false
