use Rattle.std.proofs.Common.{ap}
use Rattle.at_geom.specs.Shapes.{joined, positions_of_polygons}
use Rattle.at_geom.proofs.Finding.{found_in_first, found_in_second, in_third}
use Rattle.at_geom.proofs.walks.some_position.Goals as goal

pub returns-then-position_of_path : goal.returns-then-position_of_path
returns-then-position_of_path g c = found_in_first _ _ c.as_slice.ensures c.position_of_path.ensures c.if-position_of_path.true

pub returns-then-position_of_paths : goal.returns-then-position_of_paths
returns-then-position_of_paths g c = found_in_second _ _ (ap joined c.as_slice-2.ensures) c.position_of_paths.ensures c.if-position_of_paths.true

pub returns : goal.returns
returns g c = in_third c.as_slice.ensures (ap joined c.as_slice-2.ensures) (ap positions_of_polygons c.as_slice-3.ensures) c.position_of_path.ensures c.if-position_of_path.false c.position_of_paths.ensures c.if-position_of_paths.false c.position_of_polygons.ensures
