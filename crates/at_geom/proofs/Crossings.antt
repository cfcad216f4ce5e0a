-- Where a position is against an edge and a ring: the two tests of heights, the side of the edge's line, and parity.
-- For most public calls of the crate, `are_closed`, `doubled_area`, `in_polygon` among them.
use Rattle.std.proofs.Common.{◌≡◌, ◌≢◌, ℕ, suc, ℤ, pos, ◌+◌, ◌<◌, ◌≤ℤ◌, ◌<ℤ◌, Bool, true, false, not, ◌&&◌, ◌||◌, cond, List, ◌∷◌, length, get_or, drop, zero-add, arith, refl, sym, ap, subst, ◌∙◌}
use mathlib.Core.Bool.{beq}
use Rattle.std.specs.Prelude.{int_le, int_lt, ◌%◌, ◌==◌, count_by, All}
use Rattle.std.proofs.lemmas.Bool.{and_from, and_left, and_right}
use Rattle.std.proofs.lemmas.Int.{ints, clamps, by_lt_z}
use Rattle.at_geom.specs.declared.positions.Pos.{Pos}
use Rattle.std.proofs.lemmas.List.{drop_more}
use Rattle.std.proofs.lemmas.List.Sums.{sum_by-cons}
use Rattle.at_geom.specs.Segments.{IsInRange, IsOn, edges, turn}
use Rattle.at_geom.specs.Regions.{rises_past, is_crossed, is_odd_for}
use Rattle.at_geom.proofs.CommonPoint.{Between, on_out}
use Rattle.at_geom.proofs.Elements.{SomeEdgeIsLeft, not_in_edge}
use Rattle.at_geom.proofs.Comparisons.{le_true, le_false, lt_true, lt_false, le_from}

pick_rising : (u v f g : Bool) → u ≡ true → v ≡ false → ((u && f) || (v && g)) ≡ f
pick_rising true false true g d e = refl
pick_rising true false false g d e = refl
pick_rising false v f g d e = absurd (cc)
pick_rising true true f g d e = absurd (cc)

pick_falling : (u v f g : Bool) → u ≡ false → v ≡ true → ((u && f) || (v && g)) ≡ g
pick_falling u v f g d e = rw (d, e) refl

pick_none : (u v f g : Bool) → u ≡ false → v ≡ false → ((u && f) || (v && g)) ≡ false
pick_none u v f g d e = rw (d, e) refl

-- an edge rises past p, or it doesn't
rises : (p a b : Pos) → a.y ≤ℤ p.y → p.y <ℤ b.y → rises_past p a b ≡ true
rises p a b h k = and_from (int_le a.y p.y) (int_lt p.y b.y) (le_true a.y p.y h) (lt_true p.y b.y k)

begins_higher : (p a b : Pos) → p.y <ℤ a.y → rises_past p a b ≡ false
begins_higher p a b h = and_left (int_le a.y p.y) (int_lt p.y b.y) (le_false a.y p.y h)

ends_low : (p a b : Pos) → b.y ≤ℤ p.y → rises_past p a b ≡ false
ends_low p a b h = and_right (int_le a.y p.y) (int_lt p.y b.y) (lt_false p.y b.y h)

-- an edge that rises past p, and one that falls past it
crossed_up : (p a b : Pos) → a.y ≤ℤ p.y → p.y <ℤ b.y → is_crossed p (a, b) ≡ int_lt (pos 0) (turn a b p)
crossed_up p a b h k = pick_rising (rises_past p a b) (rises_past p b a) (int_lt (pos 0) (turn a b p)) (int_lt (turn a b p) (pos 0)) (rises p a b h k) (begins_higher p b a k)

crossed_down : (p a b : Pos) → p.y <ℤ a.y → b.y ≤ℤ p.y → is_crossed p (a, b) ≡ int_lt (turn a b p) (pos 0)
crossed_down p a b h k = pick_falling (rises_past p a b) (rises_past p b a) (int_lt (pos 0) (turn a b p)) (int_lt (turn a b p) (pos 0)) (begins_higher p a b h) (rises p b a k h)

-- by the four cases of the heights
pub by_heights : {P : Type 0} (p a b : Pos) → (a.y ≤ℤ p.y → p.y <ℤ b.y → P) → (p.y <ℤ a.y → b.y ≤ℤ p.y → P) → (int_le a.y p.y ≡ int_le b.y p.y → P) → P
by_heights p a b up down level =
    by_lt_z p.y a.y
    (λ h. by_lt_z p.y b.y (λ k. level (le_false a.y p.y h ∙ sym (le_false b.y p.y k))) (λ k. down h k))
    (λ h. by_lt_z p.y b.y (λ k. up h k) (λ k. level (le_true a.y p.y h ∙ sym (le_true b.y p.y k))))

-- both ends at most as high as p, and both higher
both_lower : (p a b : Pos) → int_le b.y p.y ≡ true → rises_past p a b ≡ false
both_lower p a b e = ends_low p a b (le_from b.y p.y e)

both_higher : (p a b : Pos) → int_le a.y p.y ≡ false → rises_past p a b ≡ false
both_higher p a b e = and_left (int_le a.y p.y) (int_lt p.y b.y) e

beside_height : (p a b : Pos) → rises_past p a b ≡ false → rises_past p b a ≡ false → is_crossed p (a, b) ≡ false
beside_height p a b h k = pick_none (rises_past p a b) (rises_past p b a) (int_lt (pos 0) (turn a b p)) (int_lt (turn a b p) (pos 0)) h k

pub not_crossed : (p a b : Pos) → int_le a.y p.y ≡ int_le b.y p.y → is_crossed p (a, b) ≡ false
not_crossed p a b e =
    by_lt_z p.y a.y
    (λ h. beside_height p a b (begins_higher p a b h) (both_higher p b a (sym e ∙ le_false a.y p.y h)))
    (λ h. beside_height p a b (both_lower p a b (sym e ∙ le_true a.y p.y h)) (ends_low p b a h))

-- ---- the side

pub side_up : (p a b : Pos) (s : ℤ) → s ≡ turn a b p → a.y ≤ℤ p.y → p.y <ℤ b.y → int_lt (pos 0) s ≡ is_crossed p (a, b)
side_up p a b s e h k = ap (int_lt (pos 0)) e ∙ sym (crossed_up p a b h k)

pub side_down : (p a b : Pos) (s : ℤ) → s ≡ turn a b p → p.y <ℤ a.y → b.y ≤ℤ p.y → int_lt s (pos 0) ≡ is_crossed p (a, b)
side_down p a b s e h k = ap (λ (z : ℤ). int_lt z (pos 0)) e ∙ sym (crossed_down p a b h k)

pub zero_not_crossed : (p a b : Pos) → turn a b p ≡ pos 0 → is_crossed p (a, b) ≡ false
zero_not_crossed p a b e =
    by_heights p a b
    (λ h k. sym (side_up p a b (pos 0) (sym e) h k))
    (λ h k. sym (side_down p a b (pos 0) (sym e) h k))
    (not_crossed p a b)

pub not_level : (p a b : Pos) → ¬ Between a.y b.y p.y → (¬ IsOn p a b) × (is_crossed p (a, b) ≡ false)
not_level p a b f = (
  λ h. f (on_out p a b h).between_y,
  by_heights p a b
      (λ h k. absurd (f (omega (arith, ints, clamps), omega (arith, ints, clamps))))
      (λ h k. absurd (f (omega (arith, ints, clamps), omega (arith, ints, clamps))))
      (not_crossed p a b),
)

-- ---- parity

abbrev pub flip : Bool → Bool → Bool
flip true b = not b
flip false b = b

parity_step : (n : ℕ) → ((1 + n) % 2 == 1) ≡ not (n % 2 == 1)
parity_step n = grind arith

by_crossing : (c : Bool) (n : ℕ) → ((cond c 1 0 + n) % 2 == 1) ≡ flip c (n % 2 == 1)
by_crossing true n = parity_step n
by_crossing false n = ap (λ k. k % 2 == 1) (zero-add n)

pub odd_step : (p a b : Pos) (r : List Pos) → is_odd_for p (a ∷ b ∷ r) ≡ flip (is_crossed p (a, b)) (is_odd_for p (b ∷ r))
odd_step p a b r = rw (sum_by-cons (λ e. cond (is_crossed p e) 1 0) (a, b) (edges (b ∷ r))) (by_crossing (is_crossed p (a, b)) (count_by (is_crossed p) (edges (b ∷ r))))

pub flip_more : (o x : Bool) → flip o (not x) ≡ flip (not o) x
flip_more true true = refl
flip_more _ _ = refl

pub parity_at : (p a : Pos) (rest : List Pos) (i : ℕ) (d : Pos) → i < length rest → is_odd_for p (a ∷ drop i rest) ≡ flip (is_crossed p (a, get_or rest i d)) (is_odd_for p (get_or rest i d ∷ drop (i + 1) rest))
parity_at p a rest i d lt = ap (λ (r : List Pos). is_odd_for p (a ∷ r)) (drop_more rest i d lt) ∙ odd_step p a (get_or rest i d) (drop (i + 1) rest)

pub rest_in_range : (ring : List Pos) (first : Pos) (rest : List Pos) (i : ℕ) (d : Pos) → ring ≡ first ∷ rest → All IsInRange ring → i < length rest → IsInRange (get_or rest i d)
rest_in_range ring first rest i d e h lt = (subst (λ (r : List Pos). All IsInRange r) e h) (suc i) d (omega arith)

-- the parity so far and that of what is left, one edge on
pub parity_kept : (whole o o' c here rest : Bool) → whole ≡ flip o here → here ≡ flip c rest → o' ≡ cond c (not o) o → whole ≡ flip o' rest
parity_kept whole o o' true here rest e f g = e ∙ (ap (flip o) f ∙ (flip_more o rest ∙ ap (λ k. flip k rest) (sym g)))
parity_kept whole o o' false here rest e f g = e ∙ (ap (flip o) f ∙ ap (λ k. flip k rest) (sym g))

-- what a loop over a ring's edges knows of the ring: what is left of it, from the end of the last edge on, decides
pub record IsRingLeft (p : Pos) (ring : List Pos) (a : Pos) (rest : List Pos) (i : ℕ) (is_odd : Bool) : Type 0 where
  pub on_edge : SomeEdgeIsLeft (λ e. IsOn p e.0 e.1) ring a rest i
  pub parity : is_odd_for p ring ≡ flip is_odd (is_odd_for p (a ∷ drop i rest))

pub one_edge_on : {p : Pos} {ring : List Pos} {a : Pos} {rest : List Pos} {i : ℕ} (d : Pos) {o o' : Bool} → IsRingLeft p ring a rest i o → i < length rest → ¬ IsOn p a (get_or rest i d) → o' ≡ cond (is_crossed p (a, get_or rest i d)) (not o) o → IsRingLeft p ring (get_or rest i d) rest (i + 1) o'
one_edge_on {p} {ring} {a} {rest} {i} d {o} {o'} now lt off e = record {
  on_edge = not_in_edge d now.on_edge lt off;
  parity = parity_kept _ o o' _ _ _ now.parity (parity_at p a rest i d lt) e;
}

-- ---- the test as the code has it: the ends lie on two sides of the height, and the position to the left of a rising edge or to the right of a falling one

same_tests : (u v : Bool) → not (beq u v) ≡ false → u ≡ v
same_tests true false h = absurd (cc)
same_tests false true h = absurd (cc)
same_tests _ _ h = refl

pub no_pass : (p a b : Pos) → not (beq (int_le a.y p.y) (int_le b.y p.y)) ≡ false → not (beq (int_le a.y p.y) (int_le b.y p.y)) ≡ is_crossed p (a, b)
no_pass p a b h = h ∙ sym (not_crossed p a b (same_tests (int_le a.y p.y) (int_le b.y p.y) h))

beq_true : (x u : Bool) → u ≡ true → beq x u ≡ x
beq_true true true e = refl
beq_true false true e = refl
beq_true x false e = absurd (cc)

beq_false : (x u : Bool) → u ≡ false → beq x u ≡ not x
beq_false true false e = refl
beq_false false false e = refl
beq_false x true e = absurd (cc)

two_sides : (u v : Bool) → not (beq u v) ≡ true → u ≡ v → ⊥
two_sides true true h e = cc
two_sides false true h e = cc
two_sides _ _ h e = cc

not_above : (s : ℤ) → s ≢ pos 0 → not (int_lt (pos 0) s) ≡ int_lt s (pos 0)
not_above s ne =
    by_lt_z (pos 0) s
    (λ h. ap not (lt_true (pos 0) s h) ∙ sym (lt_false s (pos 0) (omega (arith, ints))))
    (λ h. ap not (lt_false (pos 0) s h) ∙ sym (lt_true s (pos 0) (omega (arith, ints))))

pub passes : (p a b : Pos) (s : ℤ) → s ≡ turn a b p → s ≢ pos 0 → not (beq (int_le a.y p.y) (int_le b.y p.y)) ≡ true → beq (int_lt (pos 0) s) (int_le a.y p.y) ≡ is_crossed p (a, b)
passes p a b s e ne h =
    by_heights p a b
    (λ u v. beq_true (int_lt (pos 0) s) (int_le a.y p.y) (le_true a.y p.y u) ∙ side_up p a b s e u v)
    (λ u v. beq_false (int_lt (pos 0) s) (int_le a.y p.y) (le_false a.y p.y u) ∙ (not_above s ne ∙ side_down p a b s e u v))
    (λ same. absurd (two_sides (int_le a.y p.y) (int_le b.y p.y) h same))
