-- Shapes that don't meet: one without positions, and two of which the extents are apart.
-- For `shapes_meet`.
use Rattle.std.proofs.Common.{◌≡◌, pos, inl, inr, List, [], ◌∷◌, ◌++◌, Some, None, arith}
use Rattle.std.specs.Prelude.{IsTrue}
use Rattle.std.specs.List.{AllByRecursion}
use Rattle.std.proofs.lemmas.Int.{ints, clamps}
use Rattle.at_text.specs.Lists.{SomeOf}
use Rattle.at_geom.specs.declared.positions.Pos.{Pos}
use Rattle.at_geom.specs.declared.shapes.Polygon.{Polygon}
use Rattle.at_geom.specs.declared.shapes.Shape.{Shape}
use Rattle.at_geom.specs.declared.rectangles.Extent.{Extent}
use Rattle.at_geom.specs.Closed.{HasClosedFirst, HasClosedExterior}
use Rattle.at_geom.specs.Segments.{HaveCommonPoint}
use Rattle.at_geom.specs.Shapes.{joined, positions, positions_of_polygons, segments, MeetsSome, SomeMeet, IsInSome, SomeIsIn, Meet, extent_of, is_within}
use Rattle.at_geom.proofs.CommonPoint.{common_point_out}
use Rattle.at_geom.proofs.ClosedRings.{in_some_closed}
use Rattle.at_geom.proofs.Elements.{some_one}
use Rattle.at_geom.proofs.Found.{AreWithin, IsInside, sides, found_position, found_segment, first_within, second_within, extent_covers, TouchesBox}

-- ---- no position

-- an extent without a place
abbrev void : Extent
void = record { low = record { x = pos 1; y = pos 1 }; high = record { x = pos 0; y = pos 0 } }

nothing_within : (p : Pos) → IsTrue (is_within void p) → ⊥
nothing_within p h = let s = sides void p h in omega (arith, ints, s.left, s.right)

void_rings : (rings : List (List Pos)) → AreWithin void (joined rings) → HasClosedFirst rings
void_rings ((a ∷ rest) ∷ holes) w = absurd (nothing_within a w.0)
void_rings _ w = tt

void_polygons : (polygons : List Polygon) → AreWithin void (positions_of_polygons polygons) → AllByRecursion HasClosedExterior polygons
void_polygons [] w = tt
void_polygons (polygon ∷ polygons) w = (void_rings polygon.rings (first_within void (joined polygon.rings) (positions_of_polygons polygons) w), void_polygons polygons (second_within void (joined polygon.rings) (positions_of_polygons polygons) w))

none_within : (ps : List Pos) → extent_of ps ≡ None → AreWithin void ps
none_within [] h = tt
none_within (p ∷ ps) h = absurd (cc)

no_segment : (s : Shape) (P : Pos × Pos → Type 0) → AreWithin void (positions s) → SomeOf P (segments s) → ⊥
no_segment s P w h = let (e, found) = found_segment void P s w h in nothing_within e.0 found.1

no_position : (s : Shape) (Q : Pos → Type 0) → AreWithin void (positions s) → SomeOf Q (positions s) → ⊥
no_position s Q w h = let (p, found) = found_position void Q (positions s) w h in nothing_within p found.1

no_region : (s : Shape) (ps : List Pos) → AreWithin void (positions s) → SomeIsIn ps s.polygons → ⊥
no_region s ps w h =
    let (p, k) = some_one (λ (p : Pos). IsInSome p s.polygons) ps h in
    let v = second_within void (s.points ++ joined s.lines) (positions_of_polygons s.polygons) w in
    nothing_within p (in_some_closed void p s.polygons v (void_polygons s.polygons v) k)

pub empty_first : (s u : Shape) → extent_of (positions s) ≡ None → Meet s u → ⊥
empty_first s u e (inl h) = no_segment s (λ (e : Pos × Pos). MeetsSome e.0 e.1 (segments u)) (none_within (positions s) e) h
empty_first s u e (inr (inl h)) = no_position s (λ (p : Pos). IsInSome p u.polygons) (none_within (positions s) e) h
empty_first s u e (inr (inr h)) = no_region s (positions u) (none_within (positions s) e) h

pub empty_second : (s u : Shape) → extent_of (positions u) ≡ None → Meet s u → ⊥
empty_second s u e (inl h) =
    let (f, k) = some_one (λ (f : Pos × Pos). MeetsSome f.0 f.1 (segments u)) (segments s) h in
    no_segment u (λ (g : Pos × Pos). HaveCommonPoint f.0 f.1 g.0 g.1) (none_within (positions u) e) k
empty_second s u e (inr (inl h)) = no_region u (positions s) (none_within (positions u) e) h
empty_second s u e (inr (inr h)) = no_position u (λ (p : Pos). IsInSome p s.polygons) (none_within (positions u) e) h

-- ---- extents that are apart

shared_place : (x y : Extent) (p : Pos) → IsInside x p → IsInside y p → TouchesBox x y.low y.high
shared_place x y p s t = record {
  right = omega (arith, ints, clamps, s.right, t.left);
  left = omega (arith, ints, clamps, s.left, t.right);
  above = omega (arith, ints, clamps, s.above, t.below);
  below = omega (arith, ints, clamps, s.below, t.above);
}

shared_point : (x y : Extent) (a b c d : Pos) → HaveCommonPoint a b c d → IsInside x a → IsInside x b → IsInside y c → IsInside y d → TouchesBox x y.low y.high
shared_point x y a b c d h sa sb sc sd =
    let p = common_point_out a b c d h in
    record {
      right = omega (arith, ints, clamps, p.overlap_x, sa.right, sb.right, sc.left, sd.left);
      left = omega (arith, ints, clamps, p.overlap_x, sa.left, sb.left, sc.right, sd.right);
      above = omega (arith, ints, clamps, p.overlap_y, sa.above, sb.above, sc.below, sd.below);
      below = omega (arith, ints, clamps, p.overlap_y, sa.below, sb.below, sc.above, sd.above);
    }

by_segments : (s u : Shape) (x y : Extent) → AreWithin x (positions s) → AreWithin y (positions u) → SomeMeet (segments s) (segments u) → TouchesBox x y.low y.high
by_segments s u x y v w h =
    let (e, here) = found_segment x (λ (e : Pos × Pos). MeetsSome e.0 e.1 (segments u)) s v h in
    let (f, there) = found_segment y (λ (f : Pos × Pos). HaveCommonPoint e.0 e.1 f.0 f.1) u w here.0 in
    shared_point x y e.0 e.1 f.0 f.1 there.0 (sides x e.0 here.1) (sides x e.1 here.2) (sides y f.0 there.1) (sides y f.1 there.2)

by_position : (s u : Shape) (x y : Extent) → AreWithin x (positions s) → AreWithin y (positions u) → AllByRecursion HasClosedExterior u.polygons → SomeIsIn (positions s) u.polygons → (p : Pos) × (IsTrue (is_within x p) × IsTrue (is_within y p))
by_position s u x y v w c h =
    let (p, found) = found_position x (λ (p : Pos). IsInSome p u.polygons) (positions s) v h in
    (p, (found.1, in_some_closed y p u.polygons (second_within y (u.points ++ joined u.lines) (positions_of_polygons u.polygons) w) c found.0))

-- two shapes that meet, of closed rings, have extents that touch
pub meet_touches : (s u : Shape) (x y : Extent) → extent_of (positions s) ≡ Some x → extent_of (positions u) ≡ Some y
    → AllByRecursion HasClosedExterior s.polygons → AllByRecursion HasClosedExterior u.polygons → Meet s u → TouchesBox x y.low y.high
meet_touches s u x y e f c d (inl h) = by_segments s u x y (extent_covers x (positions s) e) (extent_covers y (positions u) f) h
meet_touches s u x y e f c d (inr (inl h)) =
    let (p, found) = by_position s u x y (extent_covers x (positions s) e) (extent_covers y (positions u) f) d h in
    shared_place x y p (sides x p found.0) (sides y p found.1)
meet_touches s u x y e f c d (inr (inr h)) =
    let (p, found) = by_position u s y x (extent_covers y (positions u) f) (extent_covers x (positions s) e) c h in
    shared_place x y p (sides x p found.1) (sides y p found.0)
