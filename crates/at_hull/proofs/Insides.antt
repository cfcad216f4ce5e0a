-- Positions inside a hull add nothing to it.
-- For `add`, `covers`, `covers_all` and `join`.
use Rattle.std.proofs.Common.{◌≡◌, ℕ, ◌<◌, ◌≤◌, ℤ, pos, negsuc, suc, ◌≤ℤ◌, ◌<ℤ◌, inl, inr, IsTrue, List, [], ◌∷◌, ◌++◌, All, Contains, length, get_or, arith, sym, subst, refl, true≢false}
use Rattle.std.specs.Prelude.{int_le, int_lt}
use Rattle.std.proofs.lemmas.Int.{ints}
use Rattle.std.proofs.lemmas.List.{append-nil}
use Rattle.std.proofs.lemmas.List.Elements.{All-append, All-contains, All-weaker, All-from_recursion, Contains-get_or, Contains-append_left, Contains-append_cases}
use Rattle.at_geom.specs.declared.positions.Pos.{Pos}
use Rattle.at_geom.specs.Segments.{turn, sign_of}
use Rattle.at_hull.specs.Hulls.{IsAtMost, NoneRight, IsHull, round}
use Rattle.at_hull.specs.Within.{IsInTriangle, IsInOneOf, IsWithin}
use Rattle.at_hull.proofs.Members.{all_by}
use Rattle.at_hull.proofs.Covers.{by_ring, valley}
use Rattle.at_hull.proofs.Laws.{hull_of_both, hull_of_hull}
use Rattle.at_hull.proofs.Joints.{turn_round}

-- ---- what the tests tell

pub left_by_sign : (z r : ℤ) → r ≡ sign_of z → IsTrue (int_lt (pos 0) r) → pos 0 <ℤ z
left_by_sign (pos (suc n)) r e h = omega (arith, ints)
left_by_sign _ r e h = absurd (true≢false (sym (subst (λ w. IsTrue (int_lt (pos 0) w)) e h)))

pub not_right_by_sign : (z r : ℤ) → r ≡ sign_of z → IsTrue (int_le (pos 0) r) → pos 0 ≤ℤ z
not_right_by_sign (pos n) r e h = omega (arith, ints)
not_right_by_sign (negsuc n) r e h = absurd (true≢false (sym (subst (λ w. IsTrue (int_le (pos 0) w)) e h)))

pub within_by : (h : List Pos) (p d d1 d2 d3 : Pos) (i j k : ℕ) → 3 ≤ length h → i < length h → j < length h → k < length h → IsAtMost (get_or h 0 d) p
    → IsInTriangle p (get_or h i d1) (get_or h j d2) (get_or h k d3) → IsWithin h p
within_by (a ∷ b ∷ c ∷ r) p d d1 d2 d3 i j k n u v w m t = (
  m,
  record {
    x = get_or (a ∷ b ∷ c ∷ r) i d1;
    y = get_or (a ∷ b ∷ c ∷ r) j d2;
    z = get_or (a ∷ b ∷ c ∷ r) k d3;
    has_x = Contains-get_or (a ∷ b ∷ c ∷ r) i d1 u;
    has_y = Contains-get_or (a ∷ b ∷ c ∷ r) j d2 v;
    has_z = Contains-get_or (a ∷ b ∷ c ∷ r) k d3 w;
    inside = t;
  },
)
within_by _ p d d1 d2 d3 i j k n u v w m t = absurd (omega (arith, n))

-- ---- what lies in a triangle

-- what isn't to the right of a way at three corners isn't there inside their triangle either
in_triangle_side : (c d p x y z : Pos) → IsInTriangle p x y z → pos 0 ≤ℤ turn c d x → pos 0 ≤ℤ turn c d y → pos 0 ≤ℤ turn c d z → pos 0 ≤ℤ turn c d p
in_triangle_side c d p x y z t h k l =
    let L : (a b : Pos) → pos 0 ≤ℤ turn a b p → (q : Pos) → q ≡ p → pos 0 ≤ℤ turn a b q = λ a b m q e. subst (λ (w : Pos). pos 0 ≤ℤ turn a b w) (sym e) m in
    let once : pos 0 <ℤ turn y z x = subst (λ w. pos 0 <ℤ w) (sym (turn_round x y z)) t.turns in
    let twice : pos 0 <ℤ turn z x y = subst (λ w. pos 0 <ℤ w) (sym (turn_round y z x)) once in
    by_ring (λ q. turn c d q) (λ q. q ≡ p) p x y z [] (λ u v w. valley c d p u v w) refl (t.turns, (once, (twice, tt)))
    (L x y t.first, (L y z t.second, (L z x t.third, (L x y t.first, tt)))) (All-from_recursion (λ q. pos 0 ≤ℤ turn c d q) (x ∷ y ∷ z ∷ []) (h, (k, (l, tt))))

none_right_of_both : (h k l : List Pos) → All (IsInOneOf h) k → NoneRight (Contains h) l → NoneRight (Contains (h ++ k)) l
none_right_of_both h k (a ∷ b ∷ l) f n = (
  λ p m. elim (Contains-append_cases h k p m) [
    | inl i ↦ n.0 p i
    | inr i ↦ let o = All-contains (IsInOneOf h) k p f i in in_triangle_side a b p o.x o.y o.z o.inside (n.0 o.x o.has_x) (n.0 o.y o.has_y) (n.0 o.z o.has_z)
  ],
  none_right_of_both h k (b ∷ l) f n.1,
)
none_right_of_both h k _ f n = tt

pub own_with : (h k : List Pos) → All (IsWithin h) k → IsHull h h → IsHull (h ++ k) h
own_with h [] f o = subst (λ l. IsHull l h) (sym (append-nil h)) o
own_with (a ∷ b ∷ c ∷ r) (p ∷ k) f o = record {
  of_list = all_by (Contains ((a ∷ b ∷ c ∷ r) ++ p ∷ k)) (a ∷ b ∷ c ∷ r) (Contains-append_left (a ∷ b ∷ c ∷ r) (p ∷ k));
  different = o.different;
  lowest = ((0, omega arith, refl), All-append (IsAtMost a) (a ∷ b ∷ c ∷ r) (p ∷ k) o.lowest.1 (All-weaker (IsWithin (a ∷ b ∷ c ∷ r)) (IsAtMost a) (λ q i. i.0) (p ∷ k) f));
  left = o.left;
  none_right = none_right_of_both (a ∷ b ∷ c ∷ r) (p ∷ k) (round a b (c ∷ r)) (All-weaker (IsWithin (a ∷ b ∷ c ∷ r)) (IsInOneOf (a ∷ b ∷ c ∷ r)) (λ q i. i.1) (p ∷ k) f) o.none_right;
}
own_with _ (p ∷ k) f o = absurd (f 0 p (omega arith))

pub covered : (h k : List Pos) → All (IsWithin h) k → (ps qs : List Pos) → IsHull ps h → IsHull qs k → IsHull (ps ++ qs) h
covered h k f ps qs hp hq = hull_of_both ps qs h k h hp hq (own_with h k f (hull_of_hull ps h hp))
