-- Where a shape's positions and segments lie: within its extent.
-- For `are_closed`, `reach` and `shapes_meet`.
use Rattle.std.proofs.Common.{◌≡◌, Bool, true, false, ◌&&◌, ◌≤ℤ◌, inl, inr, List, [], ◌∷◌, ◌++◌, Some, arith, refl, sym, ◌∙◌}
use Rattle.std.specs.Prelude.{flat_map, int_le, IsTrue}
use Rattle.std.specs.Int.{int_min, int_max}
use Rattle.std.specs.List.{AllByRecursion, list_all}
use Rattle.std.proofs.lemmas.Int.{ints, clamps}
use Rattle.at_text.specs.Lists.{SomeOf}
use Rattle.at_geom.specs.declared.positions.Pos.{Pos}
use Rattle.at_geom.specs.declared.shapes.Shape.{Shape}
use Rattle.at_geom.specs.declared.rectangles.Extent.{Extent}
use Rattle.at_geom.specs.Segments.{HaveCommonPoint, edges}
use Rattle.at_geom.specs.Shapes.{joined, positions, positions_of_polygons, segments, segments_of_points, segments_of_polygons, MeetsSome, extent_of, is_within, encloses}
use Rattle.at_geom.proofs.CommonPoint.{common_point_out}
use Rattle.at_geom.proofs.Covering.{encloses_extent}
use Rattle.at_geom.proofs.Elements.{some_of_parts}
use Rattle.at_geom.proofs.Comparisons.{le_true, le_from}

-- each position is in the extent
abbrev pub AreWithin : Extent → List Pos → Type 0
AreWithin x ps = AllByRecursion (λ (p : Pos). IsTrue (is_within x p)) ps

pub left_true : (a b : Bool) → (a && b) ≡ true → a ≡ true
left_true true b h = refl
left_true false b h = h

pub right_true : (a b : Bool) → (a && b) ≡ true → b ≡ true
right_true true b h = h
right_true false b h = absurd (cc)

pub both_true : (a b : Bool) → a ≡ true → b ≡ true → (a && b) ≡ true
both_true a b e f = rw (e, f) refl

-- where the first test of two holds, the second decides
pub second_decides : {a b x y : Bool} → x ≡ a → x ≡ true → y ≡ b → y ≡ (a && b)
second_decides {a} {b} {x} {y} e t f = rw (← e, t, f) refl

-- the four sides
pub record IsInside (x : Extent) (p : Pos) : Type 0 where
  pub left : x.low.x ≤ℤ p.x
  pub right : p.x ≤ℤ x.high.x
  pub below : x.low.y ≤ℤ p.y
  pub above : p.y ≤ℤ x.high.y

pub sides : (x : Extent) (p : Pos) → IsTrue (is_within x p) → IsInside x p
sides x p h =
    let along_x = left_true (int_le x.low.x p.x && int_le p.x x.high.x) (int_le x.low.y p.y && int_le p.y x.high.y) h in
    let along_y = right_true (int_le x.low.x p.x && int_le p.x x.high.x) (int_le x.low.y p.y && int_le p.y x.high.y) h in
    record {
      left = le_from x.low.x p.x (left_true (int_le x.low.x p.x) (int_le p.x x.high.x) along_x);
      right = le_from p.x x.high.x (right_true (int_le x.low.x p.x) (int_le p.x x.high.x) along_x);
      below = le_from x.low.y p.y (left_true (int_le x.low.y p.y) (int_le p.y x.high.y) along_y);
      above = le_from p.y x.high.y (right_true (int_le x.low.y p.y) (int_le p.y x.high.y) along_y);
    }

pub from_sides : (x : Extent) (p : Pos) → IsInside x p → IsTrue (is_within x p)
from_sides x p h =
    both_true (int_le x.low.x p.x && int_le p.x x.high.x) (int_le x.low.y p.y && int_le p.y x.high.y)
    (both_true (int_le x.low.x p.x) (int_le p.x x.high.x) (le_true x.low.x p.x h.left) (le_true p.x x.high.x h.right))
    (both_true (int_le x.low.y p.y) (int_le p.y x.high.y) (le_true x.low.y p.y h.below) (le_true p.y x.high.y h.above))

listed : (x : Extent) (ps : List Pos) → list_all (is_within x) ps ≡ true → AreWithin x ps
listed x [] h = tt
listed x (p ∷ ps) h = (left_true (is_within x p) (list_all (is_within x) ps) h, listed x ps (right_true (is_within x p) (list_all (is_within x) ps) h))

pub encloses_itself : (x : Extent) → encloses x x ≡ true
encloses_itself x =
    both_true (int_le x.low.x x.low.x && int_le x.high.x x.high.x) (int_le x.low.y x.low.y && int_le x.high.y x.high.y)
    (both_true (int_le x.low.x x.low.x) (int_le x.high.x x.high.x) (le_true x.low.x x.low.x (omega (arith, ints))) (le_true x.high.x x.high.x (omega (arith, ints))))
    (both_true (int_le x.low.y x.low.y) (int_le x.high.y x.high.y) (le_true x.low.y x.low.y (omega (arith, ints))) (le_true x.high.y x.high.y (omega (arith, ints))))

pub extent_covers : (x : Extent) (ps : List Pos) → extent_of ps ≡ Some x → AreWithin x ps
extent_covers x [] h = tt
extent_covers x (p ∷ ps) h = listed x (p ∷ ps) (sym (encloses_extent x x (p ∷ ps) h) ∙ encloses_itself x)

pub first_within : (x : Extent) (ps qs : List Pos) → AreWithin x (ps ++ qs) → AreWithin x ps
first_within x [] qs h = tt
first_within x (p ∷ ps) qs h = (h.0, first_within x ps qs h.1)

pub second_within : (x : Extent) (ps qs : List Pos) → AreWithin x (ps ++ qs) → AreWithin x qs
second_within x [] qs h = h
second_within x (p ∷ ps) qs h = second_within x ps qs h.1

-- some position of which something holds, in the extent
pub found_position : (x : Extent) (Q : Pos → Type 0) (ps : List Pos) → AreWithin x ps → SomeOf Q ps → (p : Pos) × (Q p × IsTrue (is_within x p))
found_position x Q [] w h = absurd h
found_position x Q (p ∷ ps) w (inl h) = (p, (h, w.0))
found_position x Q (p ∷ ps) w (inr h) = found_position x Q ps w.1 h

-- some segment of which something holds, with both ends in the extent
abbrev pub Found : Extent → (Pos × Pos → Type 0) → Type 0
Found x P = (e : Pos × Pos) × (P e × IsTrue (is_within x e.0) × IsTrue (is_within x e.1))

found_points : (x : Extent) (P : Pos × Pos → Type 0) (ps : List Pos) → AreWithin x ps → SomeOf P (segments_of_points ps) → Found x P
found_points x P [] w h = absurd h
found_points x P (p ∷ ps) w (inl h) = ((p, p), (h, w.0, w.0))
found_points x P (p ∷ ps) w (inr h) = found_points x P ps w.1 h

pub found_edges : (x : Extent) (P : Pos × Pos → Type 0) (path : List Pos) → AreWithin x path → SomeOf P (edges path) → Found x P
found_edges x P (a ∷ b ∷ rest) w (inl h) = ((a, b), (h, w.0, w.1.0))
found_edges x P (a ∷ b ∷ rest) w (inr h) = found_edges x P (b ∷ rest) w.1 h
found_edges x P _ w h = absurd h

found_each : {X : Type 0} (x : Extent) (P : Pos × Pos → Type 0) (f : X → List Pos) (g : X → List (Pos × Pos)) → ((y : X) → AreWithin x (f y) → SomeOf P (g y) → Found x P) → (ys : List X) → AreWithin x (flat_map f ys) → SomeOf P (flat_map g ys) → Found x P
found_each x P f g found [] w h = absurd h
found_each x P f g found (y ∷ ys) w h =
    elim (some_of_parts P (g y) (flat_map g ys) h) [
      | inl k ↦ found y (first_within x (f y) (flat_map f ys) w) k
      | inr k ↦ found_each x P f g found ys (second_within x (f y) (flat_map f ys) w) k
    ]

found_paths : (x : Extent) (P : Pos × Pos → Type 0) (paths : List (List Pos)) → AreWithin x (joined paths) → SomeOf P (flat_map edges paths) → Found x P
found_paths x P = found_each x P (λ path. path) edges (found_edges x P)

pub found_segment : (x : Extent) (P : Pos × Pos → Type 0) (s : Shape) → AreWithin x (positions s) → SomeOf P (segments s) → Found x P
found_segment x P s w h =
    let both = first_within x (s.points ++ joined s.lines) (positions_of_polygons s.polygons) w in
    elim (some_of_parts P (segments_of_points s.points ++ flat_map edges s.lines) (segments_of_polygons s.polygons) h) [
      | inr k ↦ found_each x P (λ polygon. joined polygon.rings) (λ polygon. flat_map edges polygon.rings) (λ polygon. found_paths x P polygon.rings) s.polygons (second_within x (s.points ++ joined s.lines) (positions_of_polygons s.polygons) w) k
      | inl k ↦ elim (some_of_parts P (segments_of_points s.points) (flat_map edges s.lines) k) [
        | inl m ↦ found_points x P s.points (first_within x s.points (joined s.lines) both) m
        | inr m ↦ found_paths x P s.lines (second_within x s.points (joined s.lines) both) m
      ]
    ]

-- a segment that meets some segment of a shape touches the shape's extent
pub record TouchesBox (x : Extent) (a b : Pos) : Type 0 where
  pub right : int_min a.x b.x ≤ℤ x.high.x
  pub left : x.low.x ≤ℤ int_max a.x b.x
  pub above : int_min a.y b.y ≤ℤ x.high.y
  pub below : x.low.y ≤ℤ int_max a.y b.y

touches_by : (x : Extent) (a b c d : Pos) → HaveCommonPoint a b c d → IsInside x c → IsInside x d → TouchesBox x a b
touches_by x a b c d h s t =
    let p = common_point_out a b c d h in
    record {
      right = omega (arith, ints, clamps, p.overlap_x, s.right, t.right);
      left = omega (arith, ints, clamps, p.overlap_x, s.left, t.left);
      above = omega (arith, ints, clamps, p.overlap_y, s.above, t.above);
      below = omega (arith, ints, clamps, p.overlap_y, s.below, t.below);
    }

pub touches : (x : Extent) (a b : Pos) (s : Shape) → extent_of (positions s) ≡ Some x → MeetsSome a b (segments s) → TouchesBox x a b
touches x a b s e h =
    let (f, found) = found_segment x (λ (f : Pos × Pos). HaveCommonPoint a b f.0 f.1) s (extent_covers x (positions s) e) h in
    touches_by x a b f.0 f.1 found.0 (sides x f.0 found.1) (sides x f.1 found.2)
