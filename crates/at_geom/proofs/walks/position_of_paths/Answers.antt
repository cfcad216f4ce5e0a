use Rattle.std.proofs.Common.{arith}
use Rattle.at_geom.proofs.Finding.{item_found, item_passed}
use Rattle.at_geom.proofs.walks.position_of_paths.Goals as goal

pub returns-then-position_of_path : goal.returns-then-position_of_path
returns-then-position_of_path g c = item_found c.loop-path.invariant c.path-item.is (omega arith) c.as_slice.ensures c.position_of_path.ensures c.if-position_of_path.true

pub loop-path-preserved : goal.loop-path-preserved
loop-path-preserved g c = item_passed c.loop-path.invariant c.path-item.is (omega arith) c.as_slice.ensures c.position_of_path.ensures c.if-position_of_path.false
