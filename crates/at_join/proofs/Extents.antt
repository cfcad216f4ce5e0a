-- Extents that touch, enclose one another, and are round the positions of a shape.
-- For `cell_pairs`, `merge`, `new`, `pairs_grid`, `pairs_plain` and `run`.
use Rattle.std.proofs.Common.{◌≡◌, Bool, true, false, ◌&&◌, ◌≤ℤ◌, ◌+ℤ◌, pos, List, [], ◌∷◌, Option, Some, None, arith, refl, subst}
use Rattle.std.specs.Prelude.{int_le, IsTrue}
use Rattle.std.specs.List.{AllByRecursion}
use Rattle.std.proofs.lemmas.Int.{ints, clamps}
use Rattle.std.proofs.lemmas.List.Elements.{recursion_from_All}
use Rattle.std.proofs.lemmas.Bool.{false_from_ne_true, and_parts}
use Rattle.at_geom.specs.declared.positions.Pos.{Pos}
use Rattle.at_geom.specs.declared.shapes.Shape.{Shape}
use Rattle.at_geom.specs.declared.rectangles.Extent.{Extent}
use Rattle.at_geom.specs.Segments.{IsInRange}
use Rattle.at_geom.specs.Shapes.{IsShapeInRange, positions, extent_of, widened, is_within, encloses}
use Rattle.at_geom.proofs.Comparisons.{le_true, le_from}
use Rattle.at_geom.proofs.Found.{left_true, right_true, IsInside, sides, from_sides, encloses_itself}
use Rattle.at_query.proofs.Hulls.{positions_in_range}
use Rattle.at_query.specs.Joined.{upper, around, around_both}
use Rattle.at_geom.proofs.ClosedRings.{clash}
use Rattle.at_join.specs.Boxes.{touch_of, common_of, is_here_of, IsWide, IsSpan}

pub four_true : (a b c d : Bool) → ((a && b) && (c && d)) ≡ true → (a ≡ true) × (b ≡ true) × (c ≡ true) × (d ≡ true)
four_true a b c d h =
    let t = and_parts (a && b) (c && d) h in
    let p = and_parts a b t.0 in
    let q = and_parts c d t.1 in
    (p.0, p.1, q.0, q.1)

from_four : (a b c d : Bool) → a ≡ true → b ≡ true → c ≡ true → d ≡ true → ((a && b) && (c && d)) ≡ true
from_four a b c d e f g h = rw (e, f, g, h) refl

-- a span from a to b and a span from c to d have a common number
pub record Touching (x y : Extent) : Type 0 where
  pub left : x.low.x ≤ℤ y.high.x
  pub right : y.low.x ≤ℤ x.high.x
  pub below : x.low.y ≤ℤ y.high.y
  pub above : y.low.y ≤ℤ x.high.y

pub touching : (x y : Extent) → touch_of x y ≡ true → Touching x y
touching x y h =
    let t = four_true (int_le x.low.x y.high.x) (int_le y.low.x x.high.x) (int_le x.low.y y.high.y) (int_le y.low.y x.high.y) h in
    record { left = le_from _ _ t.0; right = le_from _ _ t.1; below = le_from _ _ t.2; above = le_from _ _ t.3 }

pub from_touching : (x y : Extent) → Touching x y → touch_of x y ≡ true
from_touching x y t =
    from_four (int_le x.low.x y.high.x) (int_le y.low.x x.high.x) (int_le x.low.y y.high.y) (int_le y.low.y x.high.y)
    (le_true _ _ t.left) (le_true _ _ t.right) (le_true _ _ t.below) (le_true _ _ t.above)

-- x encloses y where it touches y with its corners exchanged
abbrev turned : Extent → Extent
turned y = record { low = y.high; high = y.low }

abbrev Enclosing : Extent → Extent → Type 0
Enclosing x y = Touching x (turned y)

enclosing : (x y : Extent) → encloses x y ≡ true → Enclosing x y
enclosing x y h = touching x (turned y) h

from_enclosing : (x y : Extent) → Enclosing x y → encloses x y ≡ true
from_enclosing x y t = from_touching x (turned y) t

-- what is in an extent that is off a window is off the window
pub covered_off : (c y w : Extent) → encloses c y ≡ true → touch_of c w ≡ false → touch_of y w ≡ false
covered_off c y w h off = false_from_ne_true (touch_of y w) (λ t.
    let e = enclosing c y h in
    let i = touching y w t in
    clash (touch_of c w) (from_touching c w (record {
      left = omega (arith, ints, e.left, i.left);
      right = omega (arith, ints, e.right, i.right);
      below = omega (arith, ints, e.below, i.below);
      above = omega (arith, ints, e.above, i.above);
    })) off)

pub around_second : (x y : Extent) → encloses (around x y) y ≡ true
around_second x y = from_enclosing (around x y) y (record {
  left = omega (arith, ints, clamps);
  right = omega (arith, ints, clamps);
  below = omega (arith, ints, clamps);
  above = omega (arith, ints, clamps);
})

pub around_first : (x y z : Extent) → encloses x z ≡ true → encloses (around x y) z ≡ true
around_first x y z h = let e = enclosing x z h in from_enclosing (around x y) z (record {
  left = omega (arith, ints, clamps, e.left);
  right = omega (arith, ints, clamps, e.right);
  below = omega (arith, ints, clamps, e.below);
  above = omega (arith, ints, clamps, e.above);
})

-- an extent that doesn't enclose this one
abbrev pub beside : Extent → Extent
beside x = record { low = record { x = x.low.x +ℤ pos 1; y = x.low.y }; high = x.high }

pub off_itself : (x : Extent) → encloses (beside x) x ≡ true → ⊥
off_itself x h = let e = enclosing (beside x) x h in omega (arith, ints, e.left)

-- ---- pairs of the rectangle

pub here_touches : (rect x y : Extent) → is_here_of rect x y ≡ true → Touching x y
here_touches rect x y h = touching x y (left_true (touch_of x y) (is_within rect (upper x.low y.low)) h)

pub here_inside : (rect x y : Extent) → is_here_of rect x y ≡ true → IsInside rect (upper x.low y.low)
here_inside rect x y h = sides rect (upper x.low y.low) (right_true (touch_of x y) (is_within rect (upper x.low y.low)) h)

-- the first of the two touches the rectangle
pub off_rect : (rect x y : Extent) → IsWide x → touch_of x rect ≡ false → is_here_of rect x y ≡ true → ⊥
off_rect rect x y w off h =
    let t = here_touches rect x y h in
    let i = here_inside rect x y h in
    clash (touch_of x rect) (from_touching x rect (record {
      left = omega (arith, ints, clamps, i.right);
      right = omega (arith, ints, clamps, i.left, w.along_x, t.right);
      below = omega (arith, ints, clamps, i.above);
      above = omega (arith, ints, clamps, i.below, w.along_y, t.above);
    })) off

-- the second touches what the rectangle and an extent round the first have in common
pub near_window : (rect c x y : Extent) → encloses c x ≡ true → IsWide y → is_here_of rect x y ≡ true → touch_of y (common_of c rect) ≡ true
near_window rect c x y round w h =
    let e = enclosing c x round in
    let t = here_touches rect x y h in
    let i = here_inside rect x y h in
    from_touching y (common_of c rect) (record {
      left = omega (arith, ints, clamps, i.right, t.right, e.right);
      right = omega (arith, ints, clamps, i.left, w.along_x, t.left, e.left);
      below = omega (arith, ints, clamps, i.above, t.above, e.above);
      above = omega (arith, ints, clamps, i.below, w.along_y, t.below, e.below);
    })

-- ---- the extent of positions in range

pub around_span : (x y : Extent) → IsSpan x → IsSpan y → IsSpan (around x y)
around_span x y h k = record {
  wide = record { along_x = omega (arith, ints, clamps, h.wide.along_x); along_y = omega (arith, ints, clamps, h.wide.along_y) };
  low = (omega (arith, ints, clamps, h.low.0, k.low.0), omega (arith, ints, clamps, h.low.1, k.low.1));
  high = (omega (arith, ints, clamps, h.high.0, k.high.0), omega (arith, ints, clamps, h.high.1, k.high.1));
}

-- an extent widened by a position is that round both
abbrev point : Pos → Extent
point p = record { low = p; high = p }

point_span : (p : Pos) → IsInRange p → IsSpan (point p)
point_span p r = record { wide = record { along_x = omega (arith, ints); along_y = omega (arith, ints) }; low = r; high = r }

widened_span : (p : Pos) (o : Option Extent) → IsInRange p → ((e : Extent) → o ≡ Some e → IsSpan e) → IsSpan (widened p o)
widened_span p None r h = point_span p r
widened_span p (Some e) r h = around_span (point p) e (point_span p r) (h e refl)

spans : (ps : List Pos) (x : Extent) → AllByRecursion IsInRange ps → extent_of ps ≡ Some x → IsSpan x
spans [] x r e = absurd (cc)
spans (p ∷ ps) x r e =
    let same : widened p (extent_of ps) ≡ x = cc in
    subst IsSpan same (widened_span p (extent_of ps) r.0 (λ y f. spans ps y r.1 f))

pub shape_span : (s : Shape) (x : Extent) → IsShapeInRange s → extent_of (positions s) ≡ Some x → IsSpan x
shape_span s x r e = spans (positions s) x (recursion_from_All IsInRange (positions s) (positions_in_range s r)) e

-- ---- the extent round two, where there are any

pub encloses_through : (x y z : Extent) → encloses x y ≡ true → encloses y z ≡ true → encloses x z ≡ true
encloses_through x y z h k = let e = enclosing x y h in let f = enclosing y z k in from_enclosing x z (record {
  left = omega (arith, ints, e.left, f.left);
  right = omega (arith, ints, e.right, f.right);
  below = omega (arith, ints, e.below, f.below);
  above = omega (arith, ints, e.above, f.above);
})

pub head_has : (x : Extent) (t : Option Extent) → (j : Extent) × (around_both (Some x) t ≡ Some j) × (encloses j x ≡ true)
head_has x None = (x, refl, encloses_itself x)
head_has x (Some y) = (around x y, refl, around_first x y x (encloses_itself x))

pub tail_has : (o : Option Extent) (x : Extent) → (j : Extent) × (around_both o (Some x) ≡ Some j) × (encloses j x ≡ true)
tail_has None x = (x, refl, encloses_itself x)
tail_has (Some y) x = (around y x, refl, around_second y x)

-- the reference point of two extents lies in an extent round both
pub reference_inside : (j x y : Extent) → IsWide x → IsWide y → encloses j x ≡ true → encloses j y ≡ true → IsTrue (is_within j (upper x.low y.low))
reference_inside j x y v w h k = let e = enclosing j x h in let f = enclosing j y k in from_sides j (upper x.low y.low) (record {
  left = omega (arith, ints, clamps, e.left, f.left);
  right = omega (arith, ints, clamps, e.right, f.right, v.along_x, w.along_x);
  below = omega (arith, ints, clamps, e.below, f.below);
  above = omega (arith, ints, clamps, e.above, f.above, v.along_y, w.along_y);
})
