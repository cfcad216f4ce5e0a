-- The shape of a geometry, with collections flattened in order, and its faults (OGC 06-103r4 section 6.1).
use Rattle.std.specs.Prelude.{ℕ, List, [], ◌∷◌, ◌++◌, map, flat_map, filter_map, Option, option_to_list}
use Rattle.at_text.specs.declared.faults.Fault.{Fault}
use Rattle.at_fixed.specs.declared.rounding.Coords.{Coords}
use Rattle.at_geom.specs.declared.positions.Pos.{Pos}
use Rattle.at_geom.specs.declared.shapes.Polygon.{Polygon}
use Rattle.at_geom.specs.declared.shapes.Shape.{Shape}
use Rattle.at_geom.specs.Shapes.{empty_shape, of_points, of_lines, of_polygons, both}
use Rattle.at_wkt.specs.Positions.{Positions, position_faults, faults_of_line, faults_of_ring, pos_of, path_of}
use Rattle.at_wkt.specs.Geometry.{Geometry, point, line_string, polygon, multi_point, multi_line_string, multi_polygon}
use Rattle.at_wkt.specs.Geometry.{collection, Geometries, no_geometries, geometry_and}

-- the items that are not EMPTY
abbrev pub present : {X : Type 0} → List (Option X) → List X
present items = filter_map (λ o. o) items

module _ (digits : ℕ) (how : Coords) where
  -- an area of no rings is EMPTY, and no polygon
  abbrev pub polygons_of : List Positions → List Polygon
  polygons_of [] = []
  polygons_of (exterior ∷ holes) = record { rings = map (path_of digits how) (exterior ∷ holes) } ∷ []

  abbrev pub faults_of_area : List Positions → List Fault
  faults_of_area rings = flat_map (faults_of_ring digits how) rings

  abbrev mutual
    pub shape_of : Geometry → Shape
    shape_of (point p) = of_points (map (pos_of digits how) (option_to_list p))
    shape_of (line_string ps) = of_lines (map (path_of digits how) (option_to_list ps))
    shape_of (polygon rings) = of_polygons (polygons_of rings)
    shape_of (multi_point ps) = of_points (map (pos_of digits how) (present ps))
    shape_of (multi_line_string ls) = of_lines (map (path_of digits how) (present ls))
    shape_of (multi_polygon areas) = of_polygons (flat_map polygons_of areas)
    shape_of (collection gs) = shape_of_all gs

    pub shape_of_all : Geometries → Shape
    shape_of_all no_geometries = empty_shape
    shape_of_all (geometry_and g gs) = both (shape_of g) (shape_of_all gs)

  -- all Short, Ring, Scale and Range faults
  abbrev mutual
    pub faults_of : Geometry → List Fault
    faults_of (point p) = flat_map (position_faults digits how) (option_to_list p)
    faults_of (line_string ps) = flat_map (faults_of_line digits how) (option_to_list ps)
    faults_of (polygon rings) = faults_of_area rings
    faults_of (multi_point ps) = flat_map (position_faults digits how) (present ps)
    faults_of (multi_line_string ls) = flat_map (faults_of_line digits how) (present ls)
    faults_of (multi_polygon areas) = flat_map faults_of_area areas
    faults_of (collection gs) = faults_of_all gs

    pub faults_of_all : Geometries → List Fault
    faults_of_all no_geometries = []
    faults_of_all (geometry_and g gs) = faults_of g ++ faults_of_all gs
