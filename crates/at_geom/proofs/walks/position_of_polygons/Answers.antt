use Rattle.std.proofs.Common.{ap, arith}
use Rattle.at_geom.specs.Shapes.{joined}
use Rattle.at_geom.proofs.Finding.{item_found, item_passed}
use Rattle.at_geom.proofs.walks.position_of_polygons.Goals as goal

pub returns-then-position_of_paths : goal.returns-then-position_of_paths
returns-then-position_of_paths g c = item_found c.loop-polygon.invariant c.polygon-item.is (omega arith) (ap joined c.as_slice.ensures) c.position_of_paths.ensures c.if-position_of_paths.true

pub loop-polygon-preserved : goal.loop-polygon-preserved
loop-polygon-preserved g c = item_passed c.loop-polygon.invariant c.polygon-item.is (omega arith) (ap joined c.as_slice.ensures) c.position_of_paths.ensures c.if-position_of_paths.false
