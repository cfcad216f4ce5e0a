-- What holds of a list where it holds of its hull, and the hull of lists that have the same hull.
-- For most public calls of the crate, `add`, `covers`, `covers_all` among them.
use Rattle.std.proofs.Common.{◌≡◌, ℤ, pos, ◌+ℤ◌, ◌-ℤ◌, ◌*ℤ◌, ◌≤ℤ◌, ◌<ℤ◌, ◌⊎◌, inl, inr, List, [], ◌∷◌, ◌++◌, All, Contains, arith, sym, ap, subst, refl}
use Rattle.std.proofs.lemmas.Int.{ints, by_lt_z}
use Rattle.std.proofs.lemmas.List.Elements.{All-nil, All-tail, All-append, All-take, All-drop, All-contains, All-from_recursion}
use Rattle.at_geom.specs.declared.positions.Pos.{Pos}
use Rattle.at_geom.specs.Segments.{turn}
use Rattle.at_geom.proofs.RingLaws.{expand, products}
use Rattle.at_geom.proofs.CommonPoint.{cross}
use Rattle.at_hull.specs.Hulls.{IsAtMost, TurnsLeft, NoneRight, IsHull, round}
use Rattle.at_hull.proofs.Planes.{mul_pos, div_pos, up_or_none, up_of, height_of, IsUp, IsUpOrNone}
use Rattle.at_hull.proofs.Ways.{at_most_below, end_of}
use Rattle.at_hull.proofs.Members.{in_none}

-- ---- a value that grows by a direction, at a position between others

pub at_most_trans : (a b c : Pos) → IsAtMost a b → IsAtMost b c → IsAtMost a c
at_most_trans a b c h (inl e) = subst (λ (z : Pos). IsAtMost a z) e h
at_most_trans a b c h (inr k) = inr (at_most_below a b c h k)

pub first_axis : (wx wy ux uy px py : ℤ) → cross wx wy ux uy *ℤ px ≡ (cross wx wy px py *ℤ ux) +ℤ (cross px py ux uy *ℤ wx)
first_axis wx wy ux uy px py = simp expand (omega (arith, products))

pub second_axis : (wx wy ux uy px py : ℤ) → cross wx wy ux uy *ℤ py ≡ (cross wx wy px py *ℤ uy) +ℤ (cross px py ux uy *ℤ wy)
second_axis wx wy ux uy px py = simp expand (omega (arith, products))

on_axes : (a b c dx dy px py ux uy wx wy : ℤ) → a *ℤ px ≡ (b *ℤ ux) +ℤ (c *ℤ wx) → a *ℤ py ≡ (b *ℤ uy) +ℤ (c *ℤ wy) → a *ℤ cross dx dy px py ≡ (b *ℤ cross dx dy ux uy) +ℤ (c *ℤ cross dx dy wx wy)
on_axes a b c dx dy px py ux uy wx wy e f =
    let g = simp expand at (ap (λ t. dy *ℤ t) e) in
    let h = simp expand at (ap (λ t. dx *ℤ t) f) in
    simp expand (omega (arith, products, g, h))

pub spread : (dx dy wx wy ux uy px py : ℤ) → cross wx wy ux uy *ℤ cross dx dy px py ≡ (cross wx wy px py *ℤ cross dx dy ux uy) +ℤ (cross px py ux uy *ℤ cross dx dy wx wy)
spread dx dy wx wy ux uy px py = on_axes (cross wx wy ux uy) (cross wx wy px py) (cross px py ux uy) dx dy px py ux uy wx wy (first_axis wx wy ux uy px py) (second_axis wx wy ux uy px py)

-- the turn at v by the vectors from v
at_corner : (ux uy vx vy wx wy : ℤ) → cross (wx -ℤ vx) (wy -ℤ vy) (ux -ℤ vx) (uy -ℤ vy) ≡ cross (vx -ℤ ux) (vy -ℤ uy) (wx -ℤ ux) (wy -ℤ uy)
at_corner ux uy vx vy wx wy = simp expand (omega (arith, ints))

pub by_difference : (c d v p : Pos) → turn c d p ≡ turn c d v +ℤ cross (d.x -ℤ c.x) (d.y -ℤ c.y) (p.x -ℤ v.x) (p.y -ℤ v.y)
by_difference c d v p = simp expand (omega (arith, ints))

-- at a corner that turns left and is the least of the three, p, which isn't right of its edges, is no less
pub valley : (c d p u v w : Pos) → pos 0 <ℤ turn u v w → pos 0 ≤ℤ turn u v p → pos 0 ≤ℤ turn v w p → turn c d v ≤ℤ turn c d u → turn c d v ≤ℤ turn c d w → pos 0 ≤ℤ turn c d v → pos 0 ≤ℤ turn c d p
valley c d p u v w t f g h k n =
    let e = spread (d.x -ℤ c.x) (d.y -ℤ c.y) (w.x -ℤ v.x) (w.y -ℤ v.y) (u.x -ℤ v.x) (u.y -ℤ v.y) (p.x -ℤ v.x) (p.y -ℤ v.y) in
    let a1 = at_corner u.x u.y v.x v.y w.x w.y in
    let a2 = at_corner u.x u.y v.x v.y p.x p.y in
    let i = by_difference c d v u in
    let j = by_difference c d v w in
    let m = mul_pos (cross (w.x -ℤ v.x) (w.y -ℤ v.y) (p.x -ℤ v.x) (p.y -ℤ v.y)) (cross (d.x -ℤ c.x) (d.y -ℤ c.y) (u.x -ℤ v.x) (u.y -ℤ v.y)) g (omega (arith, ints, i, h)) in
    let q = mul_pos (cross (p.x -ℤ v.x) (p.y -ℤ v.y) (u.x -ℤ v.x) (u.y -ℤ v.y)) (cross (d.x -ℤ c.x) (d.y -ℤ c.y) (w.x -ℤ v.x) (w.y -ℤ v.y)) (subst (λ (z : ℤ). pos 0 ≤ℤ z) (sym a2) f) (omega (arith, ints, j, k)) in
    let r = div_pos (cross (w.x -ℤ v.x) (w.y -ℤ v.y) (u.x -ℤ v.x) (u.y -ℤ v.y)) (cross (d.x -ℤ c.x) (d.y -ℤ c.y) (p.x -ℤ v.x) (p.y -ℤ v.y)) (subst (λ (z : ℤ). pos 0 <ℤ z) (sym a1) t) (omega (arith, ints, e, m, q)) in
    omega (arith, ints, by_difference c d v p, n, r)

-- ---- round a ring there is such a corner

abbrev Least : (Pos → ℤ) → Pos → Type 0
Least g p = (u v w : Pos) → pos 0 <ℤ turn u v w → pos 0 ≤ℤ turn u v p → pos 0 ≤ℤ turn v w p → g v ≤ℤ g u → g v ≤ℤ g w → pos 0 ≤ℤ g v → pos 0 ≤ℤ g p

-- down from v on, all the way, or to a corner
down : (g : Pos → ℤ) (S : Pos → Type 0) (p u v : Pos) (rest : List Pos) (k : ℤ) → Least g p → S p → TurnsLeft (u ∷ v ∷ rest) → NoneRight S (u ∷ v ∷ rest) → All (λ q. pos 0 ≤ℤ g q) (v ∷ rest)
    → g v ≤ℤ g u → g v <ℤ k → (pos 0 ≤ℤ g p) ⊎ (g (end_of v rest) <ℤ k)
down g S p u v [] k least m t n e h l = inr l
down g S p u v (w ∷ rest) k least m t n e h l =
    by_lt_z (g w) (g v)
    (λ f. down g S p v w rest k least m t.1 n.1 (All-tail (λ q. pos 0 ≤ℤ g q) v (w ∷ rest) e) (omega (arith, ints, f)) (omega (arith, ints, f, l)))
    (λ f. inl (least u v w t.0 (n.0 p m) (n.1.0 p m) h f (e 0 v (omega arith))))

abbrev pub first_of : List Pos → Pos → Pos
first_of [] y = y
first_of (x ∷ xs) y = x

up_step : (g : Pos → ℤ) (S : Pos → Type 0) (p u v w y x : Pos) → Least g p → S p → pos 0 <ℤ turn u v w → ((q : Pos) → S q → pos 0 ≤ℤ turn u v q) → ((q : Pos) → S q → pos 0 ≤ℤ turn v w q) → pos 0 ≤ℤ g v
    → (pos 0 ≤ℤ g p) ⊎ ((g v ≤ℤ g y) × (g v <ℤ g w)) → (pos 0 ≤ℤ g p) ⊎ ((g u ≤ℤ g y) × (g u <ℤ g v))
up_step g S p u v w y x least m t a b n (inl h) = inl h
up_step g S p u v w y x least m t a b n (inr h) =
    by_lt_z (g u) (g v)
    (λ f. inr (omega (arith, ints, f, h.0), f))
    (λ f. inl (least u v w t (a p m) (b p m) f (omega (arith, ints, h.1)) n))

-- up to the end, from u on, or a corner
up : (g : Pos → ℤ) (S : Pos → Type 0) (p u y x : Pos) (xs : List Pos) → Least g p → S p → TurnsLeft (u ∷ (xs ++ y ∷ x ∷ [])) → NoneRight S (u ∷ (xs ++ y ∷ x ∷ [])) → All (λ q. pos 0 ≤ℤ g q) (xs ++ y ∷ x ∷ [])
    → g y <ℤ g x → (pos 0 ≤ℤ g p) ⊎ ((g u ≤ℤ g y) × (g u <ℤ g (first_of xs y)))
up g S p u y x [] least m t n e h =
    by_lt_z (g u) (g y)
    (λ f. inr (omega (arith, ints, f), f))
    (λ f. inl (least u y x t.0 (n.0 p m) (n.1.0 p m) f (omega (arith, ints, h)) (e 0 y (omega arith))))
up g S p u y x (v ∷ []) least m t n e h =
    up_step g S p u v y y x least m t.0 n.0 n.1.0 (e 0 v (omega arith)) (up g S p v y x [] least m t.1 n.1 (All-tail (λ q. pos 0 ≤ℤ g q) v (y ∷ x ∷ []) e) h)
up g S p u y x (v ∷ w ∷ xs) least m t n e h =
    up_step g S p u v w y x least m t.0 n.0 n.1.0 (e 0 v (omega arith)) (up g S p v y x (w ∷ xs) least m t.1 n.1 (All-tail (λ q. pos 0 ≤ℤ g q) v (w ∷ (xs ++ y ∷ x ∷ [])) e) h)

last_is : (c a b : Pos) (r : List Pos) → end_of c (r ++ a ∷ b ∷ []) ≡ b
last_is c a b [] = refl
last_is c a b (x ∷ r) = last_is x a b r

pub by_ring : (g : Pos → ℤ) (S : Pos → Type 0) (p a b c : Pos) (r : List Pos) → Least g p → S p → TurnsLeft (round a b (c ∷ r)) → NoneRight S (round a b (c ∷ r)) → All (λ q. pos 0 ≤ℤ g q) (a ∷ b ∷ c ∷ r) → pos 0 ≤ℤ g p
by_ring g S p a b c r least m t n e =
    let two : All (λ q. pos 0 ≤ℤ g q) (a ∷ b ∷ []) = All-take (λ q. pos 0 ≤ℤ g q) 2 (a ∷ b ∷ c ∷ r) e in
    let all : All (λ q. pos 0 ≤ℤ g q) (a ∷ b ∷ c ∷ (r ++ a ∷ b ∷ [])) = All-append (λ q. pos 0 ≤ℤ g q) (a ∷ b ∷ c ∷ r) (a ∷ b ∷ []) e two in
    let on : All (λ q. pos 0 ≤ℤ g q) (c ∷ (r ++ a ∷ b ∷ [])) = All-drop (λ q. pos 0 ≤ℤ g q) 2 (a ∷ b ∷ c ∷ (r ++ a ∷ b ∷ [])) all in
    by_lt_z (g a) (g b)
    (λ f. elim (up g S p b a b (c ∷ r) least m t.1 n.1 on f) [ inl i ↦ i | inr i ↦ absurd (omega (arith, ints, i.0, f)) ])
    (λ f. by_lt_z (g c) (g b)
    (λ h. elim (down g S p b c (r ++ a ∷ b ∷ []) (g b) least m t.1 n.1 on (omega (arith, ints, h)) h) [ inl i ↦ i | inr i ↦ absurd (omega (arith, ints, i, ap g (last_is c a b r))) ])
    (λ h. least a b c t.0 (n.0 p m) (n.1.0 p m) f h (e 1 b (omega arith))))

-- ---- between two ends

pub record Covers (xs ps : List Pos) : Type 0 where
  pub elements : All (Contains ps) xs
  pub sides : (a b p : Pos) → Contains ps p → All (λ v. pos 0 ≤ℤ turn a b v) xs → pos 0 ≤ℤ turn a b p
  pub low : (a p : Pos) → Contains ps p → All (IsAtMost a) xs → IsAtMost a p

pub along_y : (dx dy ux uy qx qy : ℤ) → uy *ℤ cross dx dy qx qy ≡ (qy *ℤ cross dx dy ux uy) +ℤ (dy *ℤ cross ux uy qx qy)
along_y dx dy ux uy qx qy = simp expand (omega (arith, products))

pub along_x : (dx dy ux uy qx qy : ℤ) → ux *ℤ cross dx dy qx qy ≡ (qx *ℤ cross dx dy ux uy) +ℤ (dx *ℤ cross ux uy qx qy)
along_x dx dy ux uy qx qy = simp expand (omega (arith, products))

pub times_zero : (a z : ℤ) → z ≡ pos 0 → a *ℤ z ≡ pos 0
times_zero a z e = rw e (omega (arith, ints))

-- g0 and g0 + gu at the ends, g0 + gq between
weigh : (u q g0 gu gq : ℤ) → pos 0 <ℤ u → pos 0 ≤ℤ q → q ≤ℤ u → u *ℤ gq ≡ q *ℤ gu → pos 0 ≤ℤ g0 → pos 0 ≤ℤ (g0 +ℤ gu) → pos 0 ≤ℤ (g0 +ℤ gq)
weigh u q g0 gu gq l m n e h k =
    let a = simp expand at (mul_pos (u -ℤ q) g0 (omega (arith, ints, n)) h) in
    let b = simp expand at (mul_pos q (g0 +ℤ gu) m k) in
    div_pos u (g0 +ℤ gq) l (simp expand (omega (arith, ints, a, b, e)))

width_of : (x y : ℤ) → IsUpOrNone x y → y ≡ pos 0 → pos 0 ≤ℤ x
width_of x y (inl h) e = absurd (omega (arith, ints, h, e))
width_of x y (inr h) e = h.1

line_side : (c d a b p : Pos) → IsUp (b.x -ℤ a.x) (b.y -ℤ a.y) → IsUpOrNone (p.x -ℤ a.x) (p.y -ℤ a.y) → IsUpOrNone (b.x -ℤ p.x) (b.y -ℤ p.y) → turn a b p ≡ pos 0 → pos 0 ≤ℤ turn c d a → pos 0 ≤ℤ turn c d b → pos 0 ≤ℤ turn c d p
line_side c d a b p (inl u) q r e h k =
    let z = times_zero (d.y -ℤ c.y) (turn a b p) e in
    let y = along_y (d.x -ℤ c.x) (d.y -ℤ c.y) (b.x -ℤ a.x) (b.y -ℤ a.y) (p.x -ℤ a.x) (p.y -ℤ a.y) in
    let i = height_of _ _ r in
    subst (λ (t : ℤ). pos 0 ≤ℤ t) (sym (by_difference c d a p))
    (weigh (b.y -ℤ a.y) (p.y -ℤ a.y) (turn c d a) _ _ u (height_of _ _ q) (omega (arith, ints, i)) (omega (arith, ints, y, z)) h (subst (λ (t : ℤ). pos 0 ≤ℤ t) (by_difference c d a b) k))
line_side c d a b p (inr u) q r e h k =
    let z = times_zero (d.x -ℤ c.x) (turn a b p) e in
    let y = along_x (d.x -ℤ c.x) (d.y -ℤ c.y) (b.x -ℤ a.x) (b.y -ℤ a.y) (p.x -ℤ a.x) (p.y -ℤ a.y) in
    let i = height_of _ _ r in
    let j = height_of _ _ q in
    let flat : p.y -ℤ a.y ≡ pos 0 = omega (arith, ints, i, j, u.0) in
    let flat_r : b.y -ℤ p.y ≡ pos 0 = omega (arith, ints, i, j, u.0) in
    let n = width_of _ _ r flat_r in
    subst (λ (t : ℤ). pos 0 ≤ℤ t) (sym (by_difference c d a p))
    (weigh (b.x -ℤ a.x) (p.x -ℤ a.x) (turn c d a) _ _ u.1 (width_of _ _ q flat) (omega (arith, ints, n)) (omega (arith, ints, y, z)) h (subst (λ (t : ℤ). pos 0 ≤ℤ t) (by_difference c d a b) k))

-- ---- a hull covers its list

pub hull_covers : (ps h : List Pos) → IsHull ps h → Covers h ps
hull_covers ps [] h =
    let none = λ (p : Pos) (m : Contains ps p). in_none p (subst (λ (l : List Pos). Contains l p) h m) in
    record { elements = All-nil (Contains ps); sides = λ a b p m g. absurd (none p m); low = λ a p m g. absurd (none p m) }
hull_covers ps (a ∷ []) h = record {
  elements = All-from_recursion (Contains ps) (a ∷ []) (h.0, tt);
  sides = λ c d p m g. subst (λ (z : Pos). pos 0 ≤ℤ turn c d z) (sym (All-contains (λ q. q ≡ a) ps p h.1 m)) (g 0 a (omega arith));
  low = λ c p m g. subst (λ (z : Pos). IsAtMost c z) (sym (All-contains (λ q. q ≡ a) ps p h.1 m)) (g 0 a (omega arith));
}
hull_covers ps (a ∷ b ∷ []) h = record {
  elements = All-from_recursion (Contains ps) (a ∷ b ∷ []) (h.lower, (h.upper, tt));
  sides = λ c d p m g. line_side c d a b p (up_of a b h.apart) (up_or_none a p (All-contains (IsAtMost a) ps p h.from_lower m)) (up_or_none p b (All-contains (λ q. IsAtMost q b) ps p h.to_upper m))
      (All-contains (λ q. turn a b q ≡ pos 0) ps p h.on_line m) (g 0 a (omega arith)) (g 1 b (omega arith));
  low = λ c p m g. at_most_trans c a p (g 0 a (omega arith)) (All-contains (IsAtMost a) ps p h.from_lower m);
}
hull_covers ps (a ∷ b ∷ c ∷ r) h = record {
  elements = h.of_list;
  sides = λ x y p m g. by_ring (λ q. turn x y q) (Contains ps) p a b c r (λ u v w. valley x y p u v w) m h.left h.none_right g;
  low = λ e p m g. at_most_trans e a p (g 0 a (omega arith)) (All-contains (IsAtMost a) ps p h.lowest.1 m);
}
