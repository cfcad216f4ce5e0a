-- What is true of all positions of a shape is true of all that are kept.
-- For `copy`, `meets` and `new`.
use Rattle.std.proofs.Common.{ℤ, Bool, true, false, List, [], ◌∷◌}
use Rattle.std.specs.Prelude.{All}
use Rattle.std.proofs.lemmas.List.Elements.{All-nil, All-cons, All-head, All-tail, All-append, All-filter}
use Rattle.at_geom.specs.declared.positions.Pos.{Pos}
use Rattle.at_geom.specs.declared.shapes.Polygon.{Polygon}
use Rattle.at_geom.specs.declared.shapes.Shape.{Shape}
use Rattle.at_geom.specs.Segments.{IsInRange}
use Rattle.at_geom.specs.Shapes.{ArePathsInRange, ArePolygonsInRange, IsShapeInRange}
use Rattle.at_band.specs.Thinned.{spans, edge_ends, thinned_from, thinned, path_if_some, thinned_paths, polygon_if_some, thinned_rings, thinned_polygons, thinned_shape}

all_ends : (P : Pos → Type 0) (s j : Bool) (a b : Pos) → P a → P b → All P (edge_ends s j a b)
all_ends P true true a b h k = All-cons P b [] k (All-nil P)
all_ends P true false a b h k = All-cons P a (b ∷ []) h (All-cons P b [] k (All-nil P))
all_ends P false j a b h k = All-nil P

all_from : (P : Pos → Type 0) (low high : ℤ) (j : Bool) (a : Pos) (rest : List Pos) → P a → All P rest → All P (thinned_from low high j a rest)
all_from P low high j a [] h k = All-nil P
all_from P low high j a (b ∷ rest) h k =
    All-append P (edge_ends (spans low high (a, b)) j a b) (thinned_from low high (spans low high (a, b)) b rest)
    (all_ends P (spans low high (a, b)) j a b h (All-head P b rest k))
    (all_from P low high (spans low high (a, b)) b rest (All-head P b rest k) (All-tail P b rest k))

all_thinned : (P : Pos → Type 0) (low high : ℤ) (path : List Pos) → All P path → All P (thinned low high path)
all_thinned P low high [] h = All-nil P
all_thinned P low high (a ∷ rest) h = all_from P low high false a rest (All-head P a rest h) (All-tail P a rest h)

path_kept : (P : List Pos → Type 0) (path : List Pos) → P path → All P (path_if_some path)
path_kept P [] h = All-nil P
path_kept P (p ∷ ps) h = All-cons P (p ∷ ps) [] h (All-nil P)

paths_ranged : (low high : ℤ) (paths : List (List Pos)) → ArePathsInRange paths → ArePathsInRange (thinned_paths low high paths)
paths_ranged low high [] h = All-nil (All IsInRange)
paths_ranged low high (path ∷ paths) h =
    All-append (All IsInRange) (path_if_some (thinned low high path)) (thinned_paths low high paths)
    (path_kept (All IsInRange) (thinned low high path) (all_thinned IsInRange low high path (All-head (All IsInRange) path paths h)))
    (paths_ranged low high paths (All-tail (All IsInRange) path paths h))

abbrev AreRingsInRange : Polygon → Type 0
AreRingsInRange polygon = ArePathsInRange polygon.rings

polygon_kept : (exterior : List Pos) (holes : List (List Pos)) → All IsInRange exterior → ArePathsInRange holes → ArePolygonsInRange (polygon_if_some exterior holes)
polygon_kept [] [] h k = All-nil AreRingsInRange
polygon_kept exterior holes h k = All-cons AreRingsInRange (record { rings = exterior ∷ holes }) [] (All-cons (All IsInRange) exterior holes h k) (All-nil AreRingsInRange)

rings_ranged : (low high : ℤ) (rings : List (List Pos)) → ArePathsInRange rings → ArePolygonsInRange (thinned_rings low high rings)
rings_ranged low high [] h = All-nil AreRingsInRange
rings_ranged low high (exterior ∷ holes) h =
    polygon_kept (thinned low high exterior) (thinned_paths low high holes)
    (all_thinned IsInRange low high exterior (All-head (All IsInRange) exterior holes h))
    (paths_ranged low high holes (All-tail (All IsInRange) exterior holes h))

polygons_ranged : (low high : ℤ) (polygons : List Polygon) → ArePolygonsInRange polygons → ArePolygonsInRange (thinned_polygons low high polygons)
polygons_ranged low high [] h = All-nil AreRingsInRange
polygons_ranged low high (polygon ∷ polygons) h =
    All-append AreRingsInRange (thinned_rings low high polygon.rings) (thinned_polygons low high polygons)
    (rings_ranged low high polygon.rings (All-head AreRingsInRange polygon polygons h))
    (polygons_ranged low high polygons (All-tail AreRingsInRange polygon polygons h))

pub thinned_ranged : (low high : ℤ) (s : Shape) → IsShapeInRange s → IsShapeInRange (thinned_shape low high s)
thinned_ranged low high s h = record {
  points = All-filter (λ (p : Pos). spans low high (p, p)) IsInRange s.points h.points;
  lines = paths_ranged low high s.lines h.lines;
  polygons = polygons_ranged low high s.polygons h.polygons;
}
