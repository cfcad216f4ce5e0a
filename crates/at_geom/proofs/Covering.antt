-- The least extent of positions, taken one after another, and which extents it lies in.
-- For `all_in`, `are_closed`, `extent`, `reach` and `shapes_meet`.
use Rattle.std.proofs.Common.{◌≡◌, ℤ, Bool, true, false, ◌&&◌, List, [], ◌∷◌, ◌++◌, Option, Some, None, arith, refl, sym, ap, ◌∙◌}
use Rattle.std.specs.Prelude.{fold, int_le}
use Rattle.std.specs.List.{list_all}
use Rattle.std.specs.Int.{int_min, int_max}
use Rattle.std.proofs.lemmas.Int.{ints, clamps}
use Rattle.std.proofs.lemmas.List.Sums.{fold-append}
use Rattle.at_geom.specs.declared.positions.Pos.{Pos}
use Rattle.at_geom.specs.declared.rectangles.Extent.{Extent}
use Rattle.at_geom.specs.Shapes.{widened, extent_of, is_within, encloses, are_all_within}

pub int_min_assoc : (a b c : ℤ) → int_min (int_min a b) c ≡ int_min a (int_min b c)
int_min_assoc a b c = omega (arith, ints, clamps)

pub int_max_assoc : (a b c : ℤ) → int_max (int_max a b) c ≡ int_max a (int_max b c)
int_max_assoc a b c = omega (arith, ints, clamps)

int_min_comm : (a b : ℤ) → int_min a b ≡ int_min b a
int_min_comm a b = omega (arith, ints, clamps)

int_max_comm : (a b : ℤ) → int_max a b ≡ int_max b a
int_max_comm a b = omega (arith, ints, clamps)

-- the least extent round two
abbrev pub both_extents : Option Extent → Option Extent → Option Extent
both_extents None f = f
both_extents (Some e) None = Some e
both_extents (Some e) (Some f) = Some (record {
  low = record { x = int_min e.low.x f.low.x; y = int_min e.low.y f.low.y };
  high = record { x = int_max e.high.x f.high.x; y = int_max e.high.y f.high.y };
})

moved : (e : Option Extent) (p : Pos) (f : Option Extent) → both_extents (Some (widened p e)) f ≡ both_extents e (Some (widened p f))
moved None p None = refl
moved None p (Some f) = refl
moved (Some e) p None = rw (int_min_comm p.x e.low.x, int_min_comm p.y e.low.y, int_max_comm p.x e.high.x, int_max_comm p.y e.high.y)
moved (Some e) p (Some f) = rw (
  int_min_comm p.x e.low.x,
  int_min_comm p.y e.low.y,
  int_max_comm p.x e.high.x,
  int_max_comm p.y e.high.y,
  int_min_assoc e.low.x p.x f.low.x,
  int_min_assoc e.low.y p.y f.low.y,
  int_max_assoc e.high.x p.x f.high.x,
  int_max_assoc e.high.y p.y f.high.y,
)

fold_widened : (e : Option Extent) (ps : List Pos) → fold (λ e p. Some (widened p e)) e ps ≡ both_extents e (extent_of ps)
fold_widened None [] = refl
fold_widened (Some e) [] = refl
fold_widened e (p ∷ ps) = fold_widened (Some (widened p e)) ps ∙ moved e p (extent_of ps)

pub extent_of-fold : (ps : List Pos) → fold (λ e p. Some (widened p e)) None ps ≡ extent_of ps
extent_of-fold ps = fold_widened None ps

-- ---- what lies in an extent

int_le-min : (a b c : ℤ) → int_le a (int_min b c) ≡ (int_le a b && int_le a c)
int_le-min a b c = grind (arith, ints, clamps)

int_le-max : (a b c : ℤ) → int_le (int_max b c) a ≡ (int_le b a && int_le c a)
int_le-max a b c = grind (arith, ints, clamps)

rearranged : (a b c d e f g h : Bool) → (((a && b) && (c && d)) && ((e && f) && (g && h))) ≡ (((a && e) && (b && f)) && ((c && g) && (d && h)))
rearranged true true true true true true true true = refl
rearranged true true true true e f g h = grind arith
rearranged false b c d e f g h = refl
rearranged true false c d e f g h = grind arith
rearranged true true false d e f g h = grind arith
rearranged true true true false e f g h = grind arith

encloses-widened : (e x : Extent) (p : Pos) → encloses e (widened p (Some x)) ≡ (is_within e p && encloses e x)
encloses-widened e x p = rw (int_le-min e.low.x p.x x.low.x, int_le-min e.low.y p.y x.low.y, int_le-max e.high.x p.x x.high.x, int_le-max e.high.y p.y x.high.y)
    (sym (rearranged (int_le e.low.x p.x) (int_le p.x e.high.x) (int_le e.low.y p.y) (int_le p.y e.high.y) (int_le e.low.x x.low.x) (int_le x.high.x e.high.x) (int_le e.low.y x.low.y) (int_le x.high.y e.high.y)))

and_true : (b : Bool) → b ≡ (b && true)
and_true true = refl
and_true false = refl

encloses_all : (e : Extent) (p : Pos) (ps : List Pos) → encloses e (widened p (extent_of ps)) ≡ list_all (is_within e) (p ∷ ps)
encloses_all e p [] = and_true (is_within e p)
encloses_all e p (q ∷ ps) = encloses-widened e (widened q (extent_of ps)) p ∙ ap (λ b. is_within e p && b) (encloses_all e q ps)

-- the extent of positions lies in another exactly where they do
pub encloses_extent : (e x : Extent) (ps : List Pos) → extent_of ps ≡ Some x → encloses e x ≡ are_all_within e ps
encloses_extent e x [] h = absurd (cc)
encloses_extent e x (p ∷ ps) h = let same : widened p (extent_of ps) ≡ x = cc in ap (encloses e) (sym same) ∙ encloses_all e p ps

pub within_none : (e : Extent) (ps : List Pos) → extent_of ps ≡ None → are_all_within e ps ≡ false
within_none e [] h = refl
within_none e (p ∷ ps) h = absurd (cc)

pub extent_of_parts : (a b c : List Pos) → fold (λ e p. Some (widened p e)) (fold (λ e p. Some (widened p e)) (fold (λ e p. Some (widened p e)) None a) b) c ≡ extent_of ((a ++ b) ++ c)
extent_of_parts a b c = rw (← fold-append (λ e p. Some (widened p e)) None a b, ← fold-append (λ e p. Some (widened p e)) None (a ++ b) c) (extent_of-fold ((a ++ b) ++ c))
