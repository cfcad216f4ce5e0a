use Rattle.std.proofs.Common.{ap, arith}
use Rattle.std.specs.Prelude.{flat_map}
use Rattle.at_geom.specs.Segments.{edges}
use Rattle.at_geom.proofs.Finding.{item_found, item_passed}
use Rattle.at_geom.proofs.walks.segment_of_polygons.Goals as goal

pub returns-then-segment_of_paths : goal.returns-then-segment_of_paths
returns-then-segment_of_paths g c = item_found c.loop-polygon.invariant c.polygon-item.is (omega arith) (ap (flat_map edges) c.as_slice.ensures) c.segment_of_paths.ensures c.if-segment_of_paths.true

pub loop-polygon-preserved : goal.loop-polygon-preserved
loop-polygon-preserved g c = item_passed c.loop-polygon.invariant c.polygon-item.is (omega arith) (ap (flat_map edges) c.as_slice.ensures) c.segment_of_paths.ensures c.if-segment_of_paths.false
