-- A list has one hull.
-- For `add`, `covers` and `join`.
use Rattle.std.proofs.Common.{◌≡◌, ℤ, pos, ◌+ℤ◌, ◌-ℤ◌, ◌*ℤ◌, ◌≤ℤ◌, ◌<ℤ◌, inl, inr, neg_ℤ, List, [], ◌∷◌, ◌++◌, All, Contains, arith, sym, ap, ◌∙◌, subst, refl}
use Rattle.std.proofs.lemmas.Int.{ints}
use Rattle.std.proofs.lemmas.List.Elements.{All-tail, All-drop, All-contains}
use Rattle.at_geom.specs.declared.positions.Pos.{Pos}
use Rattle.at_geom.specs.Segments.{turn}
use Rattle.at_geom.proofs.RingLaws.{expand}
use Rattle.at_geom.proofs.CommonPoint.{cross}
use Rattle.at_hull.specs.Hulls.{IsBelow, IsAtMost, TurnsLeft, NoneRight, IsRing, AreEnds, IsHull}
use Rattle.at_hull.proofs.Members.{at_first, at_later, in_none}
use Rattle.at_hull.proofs.Planes.{mul_pos, div_pos, by_middle, up_of, IsUp, turned}
use Rattle.at_hull.proofs.Ways.{same_pos, antisym, not_below_self}
use Rattle.at_hull.proofs.Joints.{SeesAll}
use Rattle.at_hull.proofs.Covers.{by_difference, spread, first_axis, second_axis, along_x, along_y, times_zero, first_of}
use Rattle.at_hull.proofs.Laws.{zero_factor, flat_turn, hull_of_both, hull_elements}

-- ---- of two ways on from one edge

by_weights : (p q wq wu uw : ℤ) → pos 0 <ℤ p → pos 0 <ℤ uw → wu ≡ neg_ℤ uw → p *ℤ wq ≡ q *ℤ wu → wu ≤ℤ wq → q ≤ℤ p
by_weights p q wq wu uw l m e f n =
    let a = simp expand at (mul_pos p (wq -ℤ wu) (omega (arith, ints, l)) (omega (arith, ints, n))) in
    let g = ap (λ (t : ℤ). p *ℤ t) e in
    let h = ap (λ (t : ℤ). q *ℤ t) e in
    let b = div_pos uw (p -ℤ q) m (simp expand (omega (arith, ints, a, f, simp expand at g, simp expand at h))) in
    omega (arith, ints, b)

-- u and q lie on one ray to the left of v; behind u the way turns left by w, and q isn't to the right of it: q isn't longer
not_longer : (vx vy ux uy qx qy wx wy : ℤ) → cross ux uy qx qy ≡ pos 0 → pos 0 <ℤ cross vx vy ux uy → pos 0 <ℤ cross ux uy wx wy → cross wx wy ux uy ≤ℤ cross wx wy qx qy → cross vx vy qx qy ≤ℤ cross vx vy ux uy
not_longer vx vy ux uy qx qy wx wy e l m n =
    let z = times_zero (cross wx wy vx vy) (cross qx qy ux uy) (omega (arith, ints, turned ux uy qx qy, e)) in
    by_weights (cross vx vy ux uy) (cross vx vy qx qy) (cross wx wy qx qy) (cross wx wy ux uy) (cross ux uy wx wy) l m (turned ux uy wx wy) (omega (arith, ints, spread wx wy vx vy ux uy qx qy, z)) n

same_axis : (p u q v z : ℤ) → pos 0 <ℤ p → z ≡ pos 0 → p *ℤ q ≡ (p *ℤ u) +ℤ (z *ℤ v) → q ≡ u
same_axis p u q v z l e f =
    let g = times_zero v z e in
    let h = zero_factor p (q -ℤ u) l (simp expand (omega (arith, ints, f, g))) in
    omega (arith, ints, h)

-- p isn't right of c to d, by the vectors from b
from_b : (b c d p : Pos) → turn c d p ≡ cross (d.x -ℤ c.x) (d.y -ℤ c.y) (p.x -ℤ b.x) (p.y -ℤ b.y) -ℤ cross (d.x -ℤ c.x) (d.y -ℤ c.y) (c.x -ℤ b.x) (c.y -ℤ b.y)
from_b b c d p = simp expand (omega (arith, ints))

-- from b over c to d, and over e to f, where both c and e are to the left of v
one_way_on : (vx vy : ℤ) (b c d e f : Pos) → pos 0 <ℤ cross vx vy (c.x -ℤ b.x) (c.y -ℤ b.y) → pos 0 <ℤ cross vx vy (e.x -ℤ b.x) (e.y -ℤ b.y) → pos 0 ≤ℤ turn b c e → pos 0 ≤ℤ turn b e c
    → pos 0 <ℤ turn b c d → pos 0 <ℤ turn b e f → pos 0 ≤ℤ turn c d e → pos 0 ≤ℤ turn e f c → c ≡ e
one_way_on vx vy b c d e f l m h k n q r s =
    let ux = c.x -ℤ b.x in
    let uy = c.y -ℤ b.y in
    let qx = e.x -ℤ b.x in
    let qy = e.y -ℤ b.y in
    let t = turned ux uy qx qy in
    let z : cross ux uy qx qy ≡ pos 0 = omega (arith, ints, t, h, k) in
    let y : cross qx qy ux uy ≡ pos 0 = omega (arith, ints, t, z) in
    let i = not_longer vx vy ux uy qx qy (d.x -ℤ c.x) (d.y -ℤ c.y) z l (omega (arith, ints, by_middle b c d, n)) (omega (arith, ints, from_b b c d e, r)) in
    let j = not_longer vx vy qx qy ux uy (f.x -ℤ e.x) (f.y -ℤ e.y) y m (omega (arith, ints, by_middle b e f, q)) (omega (arith, ints, from_b b e f c, s)) in
    let g : cross vx vy qx qy ≡ cross vx vy ux uy = omega (arith, ints, i, j) in
    let on_x = same_axis (cross vx vy ux uy) ux qx vx (cross qx qy ux uy) l y (subst (λ (w : ℤ). cross vx vy ux uy *ℤ qx ≡ (w *ℤ ux) +ℤ (cross qx qy ux uy *ℤ vx)) g (first_axis vx vy ux uy qx qy)) in
    let on_y = same_axis (cross vx vy ux uy) uy qy vy (cross qx qy ux uy) l y (subst (λ (w : ℤ). cross vx vy ux uy *ℤ qy ≡ (w *ℤ uy) +ℤ (cross qx qy ux uy *ℤ vy)) g (second_axis vx vy ux uy qx qy)) in
    same_pos c e (omega (arith, ints, on_x)) (omega (arith, ints, on_y))

-- ---- corners

record Corner (S : Pos → Type 0) (u v c : Pos) : Type 0 where
  d : Pos
  here : pos 0 <ℤ turn u v c
  next : pos 0 <ℤ turn v c d
  sees : SeesAll S v c
  sees_on : SeesAll S c d

corner : (S : Pos → Type 0) (u v a b : Pos) (xs : List Pos) → TurnsLeft (u ∷ v ∷ (xs ++ a ∷ b ∷ [])) → NoneRight S (u ∷ v ∷ (xs ++ a ∷ b ∷ [])) → Corner S u v (first_of xs a)
corner S u v a b [] t n = record { d = b; here = t.0; next = t.1.0; sees = n.1.0; sees_on = n.1.1.0 }
corner S u v a b (x ∷ []) t n = record { d = a; here = t.0; next = t.1.0; sees = n.1.0; sees_on = n.1.1.0 }
corner S u v a b (x ∷ y ∷ xs) t n = record { d = y; here = t.0; next = t.1.0; sees = n.1.0; sees_on = n.1.1.0 }

one_corner : (S : Pos → Type 0) (u v c e : Pos) → S c → S e → Corner S u v c → Corner S u v e → c ≡ e
one_corner S u v c e m n h k =
    one_way_on (v.x -ℤ u.x) (v.y -ℤ u.y) v c h.d e k.d (omega (arith, ints, by_middle u v c, h.here)) (omega (arith, ints, by_middle u v e, k.here)) (h.sees e n) (k.sees c m) h.next k.next (h.sees_on e n) (k.sees_on c m)

-- the rest of two rings behind one edge
one_rest : (S : Pos → Type 0) (a b u v : Pos) (xs ys : List Pos) → S a → All S xs → All S ys → (Contains xs a → ⊥) → (Contains ys a → ⊥) → TurnsLeft (u ∷ v ∷ (xs ++ a ∷ b ∷ [])) → NoneRight S (u ∷ v ∷ (xs ++ a ∷ b ∷ []))
    → TurnsLeft (u ∷ v ∷ (ys ++ a ∷ b ∷ [])) → NoneRight S (u ∷ v ∷ (ys ++ a ∷ b ∷ [])) → xs ≡ ys
one_rest S a b u v [] [] m f g h k t n p q = refl
one_rest S a b u v [] (y ∷ ys) m f g h k t n p q =
    absurd (k (at_first a y ys (one_corner S u v a y m (g 0 y (omega arith)) (corner S u v a b [] t n) (corner S u v a b (y ∷ ys) p q))))
one_rest S a b u v (x ∷ xs) [] m f g h k t n p q =
    absurd (h (at_first a x xs (one_corner S u v a x m (f 0 x (omega arith)) (corner S u v a b [] p q) (corner S u v a b (x ∷ xs) t n))))
one_rest S a b u v (x ∷ xs) (y ∷ ys) m f g h k t n p q =
    let e = one_corner S u v x y (f 0 x (omega arith)) (g 0 y (omega arith)) (corner S u v a b (x ∷ xs) t n) (corner S u v a b (y ∷ ys) p q) in
    let p' = subst (λ (z : Pos). TurnsLeft (u ∷ v ∷ z ∷ (ys ++ a ∷ b ∷ []))) (sym e) p in
    let q' = subst (λ (z : Pos). NoneRight S (u ∷ v ∷ z ∷ (ys ++ a ∷ b ∷ []))) (sym e) q in
    let r = one_rest S a b v x xs ys m (All-tail S x xs f) (All-tail S y ys g) (λ i. h (at_later a x xs i)) (λ i. k (at_later a y ys i)) t.1 n.1 p'.1 q'.1 in
    subst (λ (z : Pos). x ∷ xs ≡ z ∷ ys) e (ap (λ (l : List Pos). x ∷ l) r)

-- ---- the first edge

above_ones : (x y : ℤ) → pos 1 ≤ℤ x → pos 1 ≤ℤ y → pos 1 ≤ℤ (x *ℤ y)
above_ones x y h k =
    let g = simp expand at (mul_pos (x -ℤ pos 1) (y -ℤ pos 1) (omega (arith, ints, h)) (omega (arith, ints, k))) in
    omega (arith, ints, g, h, k)

-- b is at the height of a, and c above: c is left of a to b
flat_left : (a b c : Pos) → b.y ≡ a.y → a.x <ℤ b.x → a.y <ℤ c.y → pos 0 ≤ℤ turn a c b → ⊥
flat_left a b c e l m h =
    let p = above_ones (b.x -ℤ a.x) (c.y -ℤ a.y) (omega (arith, ints, l)) (omega (arith, ints, m)) in
    omega (arith, ints, flat_turn a b c (sym e), turned (b.x -ℤ a.x) (b.y -ℤ a.y) (c.x -ℤ a.x) (c.y -ℤ a.y), p, h)

one_first : (S : Pos → Type 0) (a b c e f : Pos) → S b → S e → IsBelow a b → IsBelow a e → SeesAll S a b → SeesAll S a e → pos 0 <ℤ turn a b c → pos 0 <ℤ turn a e f → SeesAll S b c → SeesAll S e f → b ≡ e
one_first S a b c e f m n (inl h) (inl k) p q r s t u = one_way_on (pos 1) (pos 0) a b c e f (omega (arith, ints, h)) (omega (arith, ints, k)) (p e n) (q b m) r s (t e n) (u b m)
one_first S a b c e f m n (inl h) (inr k) p q r s t u = absurd (flat_left a e b (sym k.0) k.1 h (p e n))
one_first S a b c e f m n (inr h) (inl k) p q r s t u = absurd (flat_left a b e (sym h.0) h.1 k (q b m))
one_first S a b c e f m n (inr h) (inr k) p q r s t u = one_way_on (pos 0) (neg_ℤ (pos 1)) a b c e f (omega (arith, ints, h.1)) (omega (arith, ints, k.1)) (p e n) (q b m) r s (t e n) (u b m)

-- ---- rings

apart : (ps : List Pos) (a b : Pos) (r : List Pos) → IsRing ps a b r → IsBelow a b
apart ps a b r h = elim (All-contains (IsAtMost a) ps b h.lowest.1 (h.of_list 1 b (omega arith))) [ inl e ↦ absurd (h.different.0 (at_first a b r e)) | inr l ↦ l ]

one_second : (ps : List Pos) (a b e : Pos) (r s : List Pos) → IsRing ps a b r → IsRing ps a e s → b ≡ e
one_second ps a b e r s h k =
    let c = corner (Contains ps) a b a b r h.left h.none_right in
    let d = corner (Contains ps) a e a e s k.left k.none_right in
    one_first (Contains ps) a b (first_of r a) e (first_of s a) (h.of_list 1 b (omega arith)) (k.of_list 1 e (omega arith)) (apart ps a b r h) (apart ps a e s k)
    h.none_right.0 k.none_right.0 c.here d.here c.sees d.sees

-- ---- lists of different kinds

not_nothing : (ps : List Pos) (a : Pos) (h : List Pos) → ps ≡ [] → IsHull ps (a ∷ h) → ⊥
not_nothing ps a h e k = in_none a (subst (λ (l : List Pos). Contains l a) e (hull_elements ps (a ∷ h) k 0 a (omega arith)))

-- a ring has three positions that aren't on one line
not_all_equal : (ps : List Pos) (e a b c : Pos) (r : List Pos) → All (λ p. p ≡ e) ps → IsRing ps a b (c ∷ r) → ⊥
not_all_equal ps e a b c r f h =
    let at = All-contains (λ p. p ≡ e) ps in
    let k = subst (λ (q : Pos). pos 0 <ℤ turn q b c) (at a f (h.of_list 0 a (omega arith))) h.left.0 in
    let l = subst (λ (q : Pos). pos 0 <ℤ turn e q c) (at b f (h.of_list 1 b (omega arith))) k in
    let no_turn : turn e e c ≡ pos 0 = simp expand (omega (arith, ints)) in
    omega (arith, ints, l, no_turn)

parallel : (ux uy px py qx qy : ℤ) → IsUp ux uy → cross ux uy px py ≡ pos 0 → cross ux uy qx qy ≡ pos 0 → cross px py qx qy ≡ pos 0
parallel ux uy px py qx qy u e f =
    let i : cross px py ux uy ≡ pos 0 = omega (arith, ints, turned ux uy px py, e) in
    elim u [
      | inl h ↦ zero_factor uy (cross px py qx qy) h (omega (arith, ints, along_y px py ux uy qx qy, times_zero qy (cross px py ux uy) i, times_zero py (cross ux uy qx qy) f))
      | inr h ↦ zero_factor ux (cross px py qx qy) h.1 (omega (arith, ints, along_x px py ux uy qx qy, times_zero qx (cross px py ux uy) i, times_zero px (cross ux uy qx qy) f))
    ]

not_on_line : (ps : List Pos) (e f a b c : Pos) (r : List Pos) → AreEnds ps e f → IsRing ps a b (c ∷ r) → ⊥
not_on_line ps e f a b c r h k =
    let on = λ (p : Pos). All-contains (λ q. turn e f q ≡ pos 0) ps p h.on_line in
    let x = on a (k.of_list 0 a (omega arith)) in
    let y = on b (k.of_list 1 b (omega arith)) in
    let z = on c (k.of_list 2 c (omega arith)) in
    let s = parallel _ _ (b.x -ℤ a.x) (b.y -ℤ a.y) (c.x -ℤ a.x) (c.y -ℤ a.y) (up_of e f h.apart) (omega (arith, ints, x, y, by_difference e f a b)) (omega (arith, ints, x, z, by_difference e f a c)) in
    omega (arith, ints, s, k.left.0)

not_equal_ends : (ps : List Pos) (c a b : Pos) → All (λ p. p ≡ c) ps → AreEnds ps a b → ⊥
not_equal_ends ps c a b f h = not_below_self a (subst (λ (z : Pos). IsBelow a z) (All-contains (λ p. p ≡ c) ps b f h.upper ∙ sym (All-contains (λ p. p ≡ c) ps a f h.lower)) h.apart)

-- a list has one hull
pub one_hull : (ps h k : List Pos) → IsHull ps h → IsHull ps k → h ≡ k
one_hull ps [] [] h k = refl
one_hull ps [] (a ∷ s) h k = absurd (not_nothing ps a s h k)
one_hull ps (a ∷ r) [] h k = absurd (not_nothing ps a r k h)
one_hull ps (a ∷ []) (e ∷ []) h k = ap (λ (z : Pos). z ∷ []) (All-contains (λ p. p ≡ e) ps a k.1 h.0)
one_hull ps (a ∷ []) (e ∷ f ∷ []) h k = absurd (not_equal_ends ps a e f h.1 k)
one_hull ps (a ∷ []) (e ∷ f ∷ g ∷ s) h k = absurd (not_all_equal ps a e f g s h.1 k)
one_hull ps (a ∷ b ∷ []) (e ∷ []) h k = absurd (not_equal_ends ps e a b k.1 h)
one_hull ps (a ∷ b ∷ []) (e ∷ f ∷ []) h k =
    let i = antisym a e (All-contains (IsAtMost a) ps e h.from_lower k.lower) (All-contains (IsAtMost e) ps a k.from_lower h.lower) in
    let j = antisym b f (All-contains (λ p. IsAtMost p f) ps b k.to_upper h.upper) (All-contains (λ p. IsAtMost p b) ps f h.to_upper k.upper) in
    ap (λ (z : Pos). z ∷ b ∷ []) i ∙ ap (λ (z : Pos). e ∷ z ∷ []) j
one_hull ps (a ∷ b ∷ []) (e ∷ f ∷ g ∷ s) h k = absurd (not_on_line ps a b e f g s h k)
one_hull ps (a ∷ b ∷ c ∷ r) (e ∷ []) h k = absurd (not_all_equal ps e a b c r k.1 h)
one_hull ps (a ∷ b ∷ c ∷ r) (e ∷ f ∷ []) h k = absurd (not_on_line ps e f a b c r k h)
one_hull ps (a ∷ b ∷ c ∷ r) (e ∷ f ∷ g ∷ s) h k =
    let i = antisym a e (All-contains (IsAtMost a) ps e h.lowest.1 k.lowest.0) (All-contains (IsAtMost e) ps a k.lowest.1 h.lowest.0) in
    let k1 = subst (λ (z : Pos). IsRing ps z f (g ∷ s)) (sym i) k in
    let j = one_second ps a b f (c ∷ r) (g ∷ s) h k1 in
    let k2 = subst (λ (z : Pos). IsRing ps a z (g ∷ s)) (sym j) k1 in
    let l = one_rest (Contains ps) a b a b (c ∷ r) (g ∷ s) h.lowest.0 (All-drop (Contains ps) 2 (a ∷ b ∷ c ∷ r) h.of_list) (All-drop (Contains ps) 2 (a ∷ b ∷ g ∷ s) k2.of_list)
    (λ i. h.different.0 (at_later a b (c ∷ r) i)) (λ i. k2.different.0 (at_later a b (g ∷ s) i)) h.left h.none_right k2.left k2.none_right in
    ap (λ (t : List Pos). a ∷ b ∷ t) l ∙ ap (λ (z : Pos). a ∷ z ∷ g ∷ s) j ∙ ap (λ (z : Pos). z ∷ f ∷ g ∷ s) i

-- the hull of two lists together is that of their hulls together
pub hull_of_joined : (ps qs a b h k : List Pos) → IsHull ps a → IsHull qs b → IsHull (a ++ b) h → IsHull (ps ++ qs) k → h ≡ k
hull_of_joined ps qs a b h k l m n o = one_hull (ps ++ qs) h k (hull_of_both ps qs a b h l m n) o
