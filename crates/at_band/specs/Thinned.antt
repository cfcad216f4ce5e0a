-- What of a shape is kept for the heights from low to high: the edges that reach into these heights, joined into
-- paths. Where two that are kept don't follow one another, the edge that joins them lies above or below all of
-- these heights.
use Rattle.std.specs.Prelude.{ℤ, Bool, true, false, ◌&&◌, int_le, List, [], ◌∷◌, ◌++◌, flat_map}
use Rattle.std.specs.Int.{int_min, int_max}
use Rattle.std.specs.List.{filter}
use Rattle.at_geom.specs.declared.positions.Pos.{Pos}
use Rattle.at_geom.specs.declared.shapes.Polygon.{Polygon}
use Rattle.at_geom.specs.declared.shapes.Shape.{Shape}

-- the segment has a point whose height is from low to high
abbrev pub spans : ℤ → ℤ → Pos × Pos → Bool
spans low high e = int_le (int_min e.0.y e.1.y) high && int_le low (int_max e.0.y e.1.y)

-- what an edge ab adds: its end where the edge before it was kept as well
abbrev pub edge_ends : Bool → Bool → Pos → Pos → List Pos
edge_ends true true a b = b ∷ []
edge_ends true false a b = a ∷ b ∷ []
edge_ends false joins a b = []

abbrev pub thinned_from : ℤ → ℤ → Bool → Pos → List Pos → List Pos
thinned_from low high joins a [] = []
thinned_from low high joins a (b ∷ rest) =
    edge_ends (spans low high (a, b)) joins a b ++ thinned_from low high (spans low high (a, b)) b rest

-- the path of the edges that are kept
abbrev pub thinned : ℤ → ℤ → List Pos → List Pos
thinned low high [] = []
thinned low high (a ∷ rest) = thinned_from low high false a rest

abbrev pub thinned_points : ℤ → ℤ → List Pos → List Pos
thinned_points low high points = filter (λ (p : Pos). spans low high (p, p)) points

-- the path, unless it has no position
abbrev pub path_if_some : List Pos → List (List Pos)
path_if_some [] = []
path_if_some (p ∷ ps) = (p ∷ ps) ∷ []

abbrev pub thinned_paths : ℤ → ℤ → List (List Pos) → List (List Pos)
thinned_paths low high paths = flat_map (λ (path : List Pos). path_if_some (thinned low high path)) paths

-- the polygon, unless its rings have no position
abbrev pub polygon_if_some : List Pos → List (List Pos) → List Polygon
polygon_if_some [] [] = []
polygon_if_some [] (hole ∷ holes) = record { rings = [] ∷ hole ∷ holes } ∷ []
polygon_if_some (p ∷ ps) holes = record { rings = (p ∷ ps) ∷ holes } ∷ []

abbrev pub thinned_rings : ℤ → ℤ → List (List Pos) → List Polygon
thinned_rings low high [] = []
thinned_rings low high (exterior ∷ holes) = polygon_if_some (thinned low high exterior) (thinned_paths low high holes)

abbrev pub thinned_polygons : ℤ → ℤ → List Polygon → List Polygon
thinned_polygons low high polygons = flat_map (λ (polygon : Polygon). thinned_rings low high polygon.rings) polygons

abbrev pub thinned_shape : ℤ → ℤ → Shape → Shape
thinned_shape low high s = record {
  points = thinned_points low high s.points;
  lines = thinned_paths low high s.lines;
  polygons = thinned_polygons low high s.polygons;
}
