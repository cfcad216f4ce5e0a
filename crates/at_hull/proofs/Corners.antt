-- An extent of which the corners lie within a hull adds nothing to it.
-- For `add`, `covers` and `join`.
use Rattle.std.proofs.Common.{◌≡◌, ℤ, pos, neg_ℤ, ◌+ℤ◌, ◌-ℤ◌, ◌*ℤ◌, ◌≤ℤ◌, inl, inr, IsTrue, List, [], ◌∷◌, ◌++◌, All, Contains, Some, arith, sym, ap, subst, append_assoc}
use Rattle.std.proofs.lemmas.Int.{ints, by_lt_z}
use Rattle.std.proofs.lemmas.List.Elements.{All-nil, All-cons, All-contains, All-weaker, All-from_recursion, Contains-append_left, Contains-append_cases}
use Rattle.at_geom.specs.declared.positions.Pos.{Pos}
use Rattle.at_geom.specs.declared.rectangles.Extent.{Extent}
use Rattle.at_geom.specs.Segments.{turn}
use Rattle.at_geom.specs.Shapes.{is_within, extent_of}
use Rattle.at_geom.proofs.Found.{AreWithin, IsInside, sides, from_sides, extent_covers}
use Rattle.at_geom.proofs.RingLaws.{expand}
use Rattle.at_hull.specs.Hulls.{IsAtMost, IsHull}
use Rattle.at_hull.specs.Within.{IsWithin}
use Rattle.at_hull.specs.Growth.{HaveOneHull, AddsNothing}
use Rattle.at_hull.proofs.Members.{all_by}
use Rattle.at_hull.proofs.Planes.{mul_pos}
use Rattle.at_hull.proofs.Ways.{same_pos}
use Rattle.at_hull.proofs.Covers.{Covers, by_difference, at_most_trans}
use Rattle.at_hull.proofs.Exists.{hull_exists}
use Rattle.at_hull.proofs.Insides.{own_with}
use Rattle.at_hull.proofs.Laws.{hull_of_covered}
use Rattle.at_hull.proofs.OneHull.{one_hull_by, one_hull_own, one_hull_sym, one_hull_trans, one_hull_more, one_hull_both, one_hull_refl, one_hull_swapped}

-- ---- a value that grows by a direction is least at a corner

both_down : (a b : ℤ) → a ≤ℤ pos 0 → b ≤ℤ pos 0 → pos 0 ≤ℤ (a *ℤ b)
both_down a b h k = omega (arith, ints, simp expand at (mul_pos (neg_ℤ a) (neg_ℤ b) (omega (arith, ints, h)) (omega (arith, ints, k))))

first_down : (a b : ℤ) → a ≤ℤ pos 0 → pos 0 ≤ℤ b → (a *ℤ b) ≤ℤ pos 0
first_down a b h k = omega (arith, ints, simp expand at (mul_pos (neg_ℤ a) b (omega (arith, ints, h)) k))

second_down : (a b : ℤ) → pos 0 ≤ℤ a → b ≤ℤ pos 0 → (a *ℤ b) ≤ℤ pos 0
second_down a b h k = omega (arith, ints, simp expand at (mul_pos a (neg_ℤ b) h (omega (arith, ints, k))))

no_less : (t s a b : ℤ) → t ≡ s +ℤ (a -ℤ b) → pos 0 ≤ℤ s → pos 0 ≤ℤ a → b ≤ℤ pos 0 → pos 0 ≤ℤ t
no_less t s a b e h k l = omega (arith, ints, e, h, k, l)

-- the corners, from the lower left round to the left
abbrev pub corners : Extent → List Pos
corners e = e.low ∷ record { x = e.high.x; y = e.low.y } ∷ e.high ∷ record { x = e.low.x; y = e.high.y } ∷ []

corner_side : (c d p : Pos) (e : Extent) → IsInside e p → All (λ v. pos 0 ≤ℤ turn c d v) (corners e) → pos 0 ≤ℤ turn c d p
corner_side c d p e i f =
    by_lt_z (d.x -ℤ c.x) (pos 0)
    (λ h. by_lt_z (d.y -ℤ c.y) (pos 0)
    (λ k. no_less _ _ _ _ (by_difference c d (record { x = e.low.x; y = e.high.y }) p) (f 3 e.low (omega arith))
    (both_down (d.x -ℤ c.x) (p.y -ℤ e.high.y) (omega (arith, ints, h)) (omega (arith, ints, i.above))) (first_down (d.y -ℤ c.y) (p.x -ℤ e.low.x) (omega (arith, ints, k)) (omega (arith, ints, i.left))))
    (λ k. no_less _ _ _ _ (by_difference c d e.high p) (f 2 e.low (omega arith))
    (both_down (d.x -ℤ c.x) (p.y -ℤ e.high.y) (omega (arith, ints, h)) (omega (arith, ints, i.above))) (second_down (d.y -ℤ c.y) (p.x -ℤ e.high.x) k (omega (arith, ints, i.right)))))
    (λ h. by_lt_z (d.y -ℤ c.y) (pos 0)
    (λ k. no_less _ _ _ _ (by_difference c d e.low p) (f 0 e.low (omega arith))
    (mul_pos (d.x -ℤ c.x) (p.y -ℤ e.low.y) h (omega (arith, ints, i.below))) (first_down (d.y -ℤ c.y) (p.x -ℤ e.low.x) (omega (arith, ints, k)) (omega (arith, ints, i.left))))
    (λ k. no_less _ _ _ _ (by_difference c d (record { x = e.high.x; y = e.low.y }) p) (f 1 e.low (omega arith))
    (mul_pos (d.x -ℤ c.x) (p.y -ℤ e.low.y) h (omega (arith, ints, i.below))) (second_down (d.y -ℤ c.y) (p.x -ℤ e.high.x) k (omega (arith, ints, i.right)))))

from_low : (e : Extent) (p : Pos) → IsInside e p → IsAtMost e.low p
from_low e p i =
    by_lt_z e.low.y p.y (λ h. inr (inl h))
    (λ h. by_lt_z e.low.x p.x (λ k. inr (inr (omega (arith, ints, h, i.below), k))) (λ k. inl (same_pos e.low p (omega (arith, ints, k, i.left)) (omega (arith, ints, h, i.below)))))

-- ---- what lies within the extent adds nothing to its corners

corners_cover : (e : Extent) (qs : List Pos) → All (λ q. IsTrue (is_within e q)) qs → Covers (corners e) (corners e ++ qs)
corners_cover e qs w =
    let inside = λ (p : Pos) (m : Contains qs p). sides e p (All-contains (λ q. IsTrue (is_within e q)) qs p w m) in
    record {
      elements = all_by (Contains (corners e ++ qs)) (corners e) (Contains-append_left (corners e) qs);
      sides = λ c d p m f. elim (Contains-append_cases (corners e) qs p m) [ inl i ↦ All-contains (λ v. pos 0 ≤ℤ turn c d v) (corners e) p f i | inr i ↦ corner_side c d p e (inside p i) f ];
      low = λ a p m f. elim (Contains-append_cases (corners e) qs p m) [ inl i ↦ All-contains (IsAtMost a) (corners e) p f i | inr i ↦ at_most_trans a e.low p (f 0 e.low (omega arith)) (from_low e p (inside p i)) ];
    }

corners_add_nothing : (e : Extent) → AddsNothing (corners e) e
corners_add_nothing e qs w =
    let k = hull_exists (corners e) in
    one_hull_by (corners e ++ qs) (corners e) k.list (hull_of_covered (corners e) (corners e ++ qs) k.list (corners_cover e qs w) k.is) k.is

-- ---- what adds nothing to one list adds nothing to another

pub adds_nothing_within : (h : List Pos) (e : Extent) → IsHull h h → All (IsWithin h) (corners e) → AddsNothing h e
adds_nothing_within h e own f qs w =
    let hc : List Pos = h ++ corners e in
    let o = one_hull_by hc h h (own_with h (corners e) f own) own in
    one_hull_trans (h ++ qs) (hc ++ qs) h (one_hull_more h hc qs (one_hull_sym hc h o))
    (one_hull_trans (hc ++ qs) hc h (subst (λ (l : List Pos). HaveOneHull l hc) (sym (append_assoc h (corners e) qs)) (one_hull_both h (corners e ++ qs) h (corners e) (one_hull_refl h) (corners_add_nothing e qs w))) o)

-- more positions behind
pub adds_nothing_more : (ps rs : List Pos) (e : Extent) → AddsNothing ps e → AddsNothing (ps ++ rs) e
adds_nothing_more ps rs e f qs w =
    one_hull_trans ((ps ++ rs) ++ qs) ((ps ++ qs) ++ rs) (ps ++ rs) (one_hull_swapped ps rs qs) (one_hull_more (ps ++ qs) ps rs (f qs w))

pub adds_nothing_same : (ps rs : List Pos) (e : Extent) → HaveOneHull ps rs → AddsNothing ps e → AddsNothing rs e
adds_nothing_same ps rs e o f qs w =
    one_hull_trans (rs ++ qs) (ps ++ qs) rs (one_hull_more rs ps qs (one_hull_sym ps rs o)) (one_hull_trans (ps ++ qs) ps rs (f qs w) o)

-- ---- the positions of an extent

each_within : (e : Extent) (qs : List Pos) → AreWithin e qs → All (λ q. IsTrue (is_within e q)) qs
each_within e [] w = All-nil (λ q. IsTrue (is_within e q))
each_within e (q ∷ qs) w = All-cons (λ p. IsTrue (is_within e p)) q qs w.0 (each_within e qs w.1)

-- positions add nothing where their extent does
pub adds_nothing_round : (ps qs : List Pos) (e : Extent) → extent_of qs ≡ Some e → AddsNothing ps e → HaveOneHull (ps ++ qs) ps
adds_nothing_round ps qs e x f = f qs (each_within e qs (extent_covers e qs x))

-- an extent that lies in one that adds nothing
pub adds_nothing_inside : (ps : List Pos) (e f : Extent) → IsTrue (is_within e f.low) → IsTrue (is_within e f.high) → AddsNothing ps e → AddsNothing ps f
adds_nothing_inside ps e f low high h qs w =
    let a = sides e f.low low in
    let b = sides e f.high high in
    let inside = λ (p : Pos) (c : IsInside f p). from_sides e p (record { left = omega (arith, ints, a.left, c.left); right = omega (arith, ints, b.right, c.right); below = omega (arith, ints, a.below, c.below); above = omega (arith, ints, b.above, c.above) }) in
    h qs (All-weaker (λ q. IsTrue (is_within f q)) (λ q. IsTrue (is_within e q)) (λ p m. inside p (sides f p m)) qs w)

-- the hull of the list and of what waited
pub adds_nothing_settled : (h waiting both : List Pos) (e : Extent) → IsHull (h ++ waiting) both → IsHull both both → AddsNothing h e → AddsNothing both e
adds_nothing_settled h waiting both e k own f = adds_nothing_same (h ++ waiting) both e (one_hull_own (h ++ waiting) both k own) (adds_nothing_more h waiting e f)

-- ---- where the corners are

pub four_within : (h : List Pos) (e : Extent) (right left : Pos) → right ≡ record { x = e.high.x; y = e.low.y } → left ≡ record { x = e.low.x; y = e.high.y }
    → IsWithin h e.low → IsWithin h e.high → IsWithin h right → IsWithin h left → All (IsWithin h) (corners e)
four_within h e right left r l a b c d = All-from_recursion (IsWithin h) (corners e) (a, (subst (IsWithin h) r c, (b, (subst (IsWithin h) l d, tt))))

pub one_within : (h : List Pos) (e : Extent) → e.low ≡ e.high → IsWithin h e.low → All (IsWithin h) (corners e)
one_within h e s a =
    four_within h e e.low e.low (ap (λ (q : Pos). record { x = q.x; y = e.low.y }) s) (ap (λ (q : Pos). record { x = e.low.x; y = q.y }) s) a (subst (IsWithin h) s a) a a
