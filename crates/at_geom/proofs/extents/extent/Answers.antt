use Rattle.at_geom.specs.Shapes.{joined, positions_of_polygons}
use Rattle.at_geom.proofs.Covering.{extent_of_parts}
use Rattle.at_geom.proofs.extents.extent.Goals as goal

pub returns : goal.returns
returns c =
    rw (c.widened_by_polygons.ensures, c.widened_by_paths-with_lines.ensures, c.widened_by_path-of_points.ensures, c.as_slice.ensures, c.as_slice-2.ensures, c.as_slice-3.ensures)
    (extent_of_parts c.args.shape.now.points (joined c.args.shape.now.lines) (positions_of_polygons c.args.shape.now.polygons))
