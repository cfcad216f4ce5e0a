use Rattle.std.proofs.Common.{ap}
use Rattle.std.specs.Prelude.{flat_map}
use Rattle.at_geom.specs.Segments.{edges}
use Rattle.at_geom.specs.Shapes.{segments_of_points, segments_of_polygons}
use Rattle.at_geom.proofs.Finding.{found_in_first, found_in_second, in_third}
use Rattle.at_geom.proofs.walks.some_segment.Goals as goal

pub returns-then-segment_of_points : goal.returns-then-segment_of_points
returns-then-segment_of_points g c = found_in_first _ _ (ap segments_of_points c.as_slice.ensures) c.segment_of_points.ensures c.if-segment_of_points.true

pub returns-then-segment_of_paths : goal.returns-then-segment_of_paths
returns-then-segment_of_paths g c = found_in_second _ _ (ap (flat_map edges) c.as_slice-2.ensures) c.segment_of_paths.ensures c.if-segment_of_paths.true

pub returns : goal.returns
returns g c = in_third (ap segments_of_points c.as_slice.ensures) (ap (flat_map edges) c.as_slice-2.ensures) (ap segments_of_polygons c.as_slice-3.ensures) c.segment_of_points.ensures c.if-segment_of_points.false c.segment_of_paths.ensures c.if-segment_of_paths.false c.segment_of_polygons.ensures
