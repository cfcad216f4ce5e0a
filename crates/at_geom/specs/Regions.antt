-- The region of a polygon: its exterior and what it encloses, without the insides of its holes (OGC 06-103r4 section
-- 6.1.11; RFC 7946 section 3.1.6).
use Rattle.std.specs.Prelude.{◌%◌, ℤ, pos, ◌+ℤ◌, ◌-ℤ◌, ◌*ℤ◌, nat_abs, Bool, not, ◌&&◌, ◌||◌, ◌==◌, int_le, int_lt}
use Rattle.std.specs.Prelude.{IsTrue, ◌⊎◌, List, [], ◌∷◌, count_by, map, fold}
use Rattle.std.specs.Int.{w128, int_wrap}
use Rattle.std.specs.List.{AllByRecursion}
use Rattle.at_text.specs.Lists.{SomeOf}
use Rattle.at_geom.specs.declared.positions.Pos.{Pos}
use Rattle.at_geom.specs.declared.shapes.Polygon.{Polygon}
use Rattle.at_geom.specs.Segments.{IsOn, edges, turn}

-- p is on an edge of the ring
abbrev pub IsOnRing : Pos → List Pos → Type 0
IsOnRing p ring = SomeOf (λ (e : Pos × Pos). IsOn p e.0 e.1) (edges ring)

-- ab rises past the height of p: a is at most as high as p, and b is higher
abbrev pub rises_past : Pos → Pos → Pos → Bool
rises_past p a b = int_le a.y p.y && int_lt p.y b.y

-- ab rises past the height of p with p to its left, or falls past it with p to its right: the edge's point at that height
-- is to the right of p
abbrev pub is_crossed : Pos → Pos × Pos → Bool
is_crossed p (a, b) = (rises_past p a b && int_lt (pos 0) (turn a b p)) || (rises_past p b a && int_lt (turn a b p) (pos 0))

-- the ray from p to the right crosses an odd number of the ring's edges
abbrev pub is_odd_for : Pos → List Pos → Bool
is_odd_for p ring = count_by (is_crossed p) (edges ring) % 2 == 1

-- p is on the hole's ring, or crosses an even number of its edges: a hole's edge belongs to the region
abbrev pub IsNotInHole : Pos → List Pos → Type 0
IsNotInHole p hole = IsOnRing p hole ⊎ IsTrue (not (is_odd_for p hole))

abbrev pub IsInRings : Pos → List (List Pos) → Type 0
IsInRings p [] = ⊥
IsInRings p (exterior ∷ holes) = (IsOnRing p exterior ⊎ IsTrue (is_odd_for p exterior))
    × AllByRecursion (IsNotInHole p) holes

-- p belongs to the region of the polygon
abbrev pub IsInPolygon : Pos → Polygon → Type 0
IsInPolygon p polygon = IsInRings p polygon.rings

abbrev pub sum_of : List ℤ → ℤ
sum_of numbers = fold ◌+ℤ◌ (pos 0) numbers

-- twice the signed area of a ring
abbrev pub shoelace : List Pos → ℤ
shoelace ring = sum_of (map (λ (e : Pos × Pos). (e.0.x *ℤ e.1.y) -ℤ (e.1.x *ℤ e.0.y)) (edges ring))

abbrev pub ring_size : List Pos → ℤ
ring_size ring = pos (nat_abs (shoelace ring))

abbrev pub doubled_area_of_rings : List (List Pos) → ℤ
doubled_area_of_rings [] = pos 0
doubled_area_of_rings (exterior ∷ holes) = ring_size exterior -ℤ sum_of (map ring_size holes)

-- twice the area of a polygon: the size of the exterior's sum less the sizes of its holes' sums
abbrev pub doubled_area : Polygon → ℤ
doubled_area polygon = doubled_area_of_rings polygon.rings

-- the same with each sum, size and difference wrapped into 128 bits
abbrev pub wrapped_ring_size : List Pos → ℤ
wrapped_ring_size ring = int_wrap w128 (pos (nat_abs (int_wrap w128 (shoelace ring))))

abbrev pub wrapped_area_of_rings : List (List Pos) → ℤ
wrapped_area_of_rings [] = pos 0
wrapped_area_of_rings (exterior ∷ holes) =
    int_wrap w128 (wrapped_ring_size exterior -ℤ sum_of (map wrapped_ring_size holes))

abbrev pub wrapped_area : Polygon → ℤ
wrapped_area polygon = wrapped_area_of_rings polygon.rings
