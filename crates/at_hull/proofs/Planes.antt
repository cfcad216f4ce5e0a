-- Directions of the upper half of the plane: to turn left is transitive there, and what follows for positions in order.
-- For most public calls of the crate, `add`, `covers`, `covers_all` among them.
use Rattle.std.proofs.Common.{◌≡◌, zero, suc, ℤ, pos, negsuc, ◌-ℤ◌, ◌*ℤ◌, ◌≤ℤ◌, ◌<ℤ◌, ◌⊎◌, inl, inr, Bool, true, false, neg_ℤ, arith, sym, ap, ◌∙◌, subst}
use Rattle.std.proofs.Math.IntN.{pos-*ℤ-pos}
use Rattle.std.proofs.lemmas.Int.{ints}
use Rattle.at_geom.specs.declared.positions.Pos.{Pos}
use Rattle.at_geom.specs.Segments.{turn}
use Rattle.at_geom.proofs.RingLaws.{neg_mul, expand, products}
use Rattle.at_geom.proofs.CommonPoint.{cross, nat_of}
use Rattle.at_hull.specs.Hulls.{IsBelow, IsAtMost}

-- ---- signs of products

pub mul_pos : (a b : ℤ) → pos 0 ≤ℤ a → pos 0 ≤ℤ b → pos 0 ≤ℤ (a *ℤ b)
mul_pos a b h k =
    let (n, e) = nat_of a h in
    let (m, f) = nat_of b k in
    rw (e, f, pos-*ℤ-pos n m) (omega (arith, ints))

pub div_pos : (a b : ℤ) → pos 0 <ℤ a → pos 0 ≤ℤ (a *ℤ b) → pos 0 ≤ℤ b
div_pos (pos zero) b h k = absurd (omega (arith, ints, h))
div_pos (pos (suc n)) (pos m) h k = omega (arith, ints)
div_pos (pos (suc n)) (negsuc m) h k = absurd (omega (arith, ints, k))
div_pos (negsuc n) b h k = absurd (omega (arith, ints, h))

-- ---- a vector up, or to the right

abbrev pub IsUp : ℤ → ℤ → Type 0
IsUp x y = (pos 0 <ℤ y) ⊎ ((y ≡ pos 0) × (pos 0 <ℤ x))

abbrev pub IsUpOrNone : ℤ → ℤ → Type 0
IsUpOrNone x y = (pos 0 <ℤ y) ⊎ ((y ≡ pos 0) × (pos 0 ≤ℤ x))

-- the same height of three vectors
by_heights : (ux uy wx wy qx qy : ℤ) → uy *ℤ cross wx wy qx qy ≡ (cross ux uy qx qy *ℤ wy) -ℤ (cross ux uy wx wy *ℤ qy)
by_heights ux uy wx wy qx qy = simp expand (omega (arith, products))

pub height_of : (x y : ℤ) → IsUpOrNone x y → pos 0 ≤ℤ y
height_of x y (inl h) = omega (arith, ints)
height_of x y (inr h) = omega (arith, ints, h.0)

less_pos : (a b c d e : ℤ) → e ≡ (a *ℤ b) -ℤ (c *ℤ d) → pos 0 ≤ℤ a → pos 0 ≤ℤ b → c ≤ℤ pos 0 → pos 0 ≤ℤ d → pos 0 ≤ℤ e
less_pos a b c d e is f g h k =
    let ab = mul_pos a b f g in
    let cd = mul_pos (neg_ℤ c) d (omega (arith, ints)) k in
    let m = neg_mul c d in
    omega (arith, ints, is, ab, cd, m)

flat_cross : (ux wx wy : ℤ) → cross ux (pos 0) wx wy ≡ ux *ℤ wy
flat_cross ux wx wy = omega (arith, ints)

-- with uy = 0
flat : (ux wx wy qx qy : ℤ) → pos 0 <ℤ ux → IsUpOrNone wx wy → IsUpOrNone qx qy → cross ux (pos 0) wx wy ≤ℤ pos 0 → pos 0 ≤ℤ cross wx wy qx qy
flat ux wx wy qx qy r (inl w) q h =
    let d = simp expand at (mul_pos ux (wy -ℤ pos 1) (omega (arith, ints)) (omega (arith, ints))) in
    absurd (omega (arith, ints, flat_cross ux wx wy, h, d, r))
flat ux wx wy qx qy r (inr w) q h = omega (arith, ints, mul_pos wx qy w.1 (height_of qx qy q), ap (λ t. cross wx t qx qy) w.0 ∙ flat_cross wx qx qy)

-- of directions of the upper half: where w isn't left of u, and q isn't right of u, q isn't right of w
pub left_of : (ux uy wx wy qx qy : ℤ) → IsUp ux uy → IsUpOrNone wx wy → IsUpOrNone qx qy → cross ux uy wx wy ≤ℤ pos 0 → pos 0 ≤ℤ cross ux uy qx qy → pos 0 ≤ℤ cross wx wy qx qy
left_of ux uy wx wy qx qy (inl u) w q h k =
    div_pos uy (cross wx wy qx qy) u (less_pos (cross ux uy qx qy) wy (cross ux uy wx wy) qy _ (by_heights ux uy wx wy qx qy) k (height_of wx wy w) h (height_of qx qy q))
left_of ux uy wx wy qx qy (inr u) w q h k =
    flat ux wx wy qx qy u.1 w q (subst (λ (t : ℤ). cross ux t wx wy ≤ℤ pos 0) u.0 h)

-- ---- positions in order

pub up_of : (a b : Pos) → IsBelow a b → IsUp (b.x -ℤ a.x) (b.y -ℤ a.y)
up_of a b (inl h) = inl (omega (arith, ints))
up_of a b (inr h) = inr (omega (arith, ints, h.0), omega (arith, ints, h.1))

pub up_or_none : (a b : Pos) → IsAtMost a b → IsUpOrNone (b.x -ℤ a.x) (b.y -ℤ a.y)
up_or_none a b (inl e) = inr (omega (arith, ints, ap (λ (p : Pos). p.y) e), omega (arith, ints, ap (λ (p : Pos). p.x) e))
up_or_none a b (inr (inl h)) = inl (omega (arith, ints))
up_or_none a b (inr (inr h)) = inr (omega (arith, ints, h.0), omega (arith, ints, h.1))

-- turns by the vectors of positions
abbrev pub across : Pos → Pos → Pos → Pos → ℤ
across a b c d = cross (b.x -ℤ a.x) (b.y -ℤ a.y) (d.x -ℤ c.x) (d.y -ℤ c.y)

pub turned : (ux uy wx wy : ℤ) → cross wx wy ux uy ≡ neg_ℤ (cross ux uy wx wy)
turned ux uy wx wy = omega (arith, ints)

pub swapped : (a b c d : Pos) → across c d a b ≡ neg_ℤ (across a b c d)
swapped a b c d = turned (b.x -ℤ a.x) (b.y -ℤ a.y) (d.x -ℤ c.x) (d.y -ℤ c.y)

reversed : (a b c d : Pos) → across b a d c ≡ across a b c d
reversed a b c d = simp expand (omega (arith, ints))

pub by_last : (a b p : Pos) → across a b p b ≡ neg_ℤ (turn a b p)
by_last a b p = simp expand (omega (arith, ints))

pub by_middle : (a b p : Pos) → across a b b p ≡ turn a b p
by_middle a b p = simp expand (omega (arith, ints))

pub back_first : (b c p : Pos) → across p b b c ≡ turn b c p
back_first b c p = simp expand (omega (arith, ints))

-- ---- up, or down

abbrev pub Before : Bool → Pos → Pos → Type 0
Before true a b = IsBelow a b
Before false a b = IsBelow b a

abbrev pub NotAfter : Bool → Pos → Pos → Type 0
NotAfter true a b = IsAtMost a b
NotAfter false a b = IsAtMost b a

pub weaker : (u : Bool) (a b : Pos) → Before u a b → NotAfter u a b
weaker true a b h = inr h
weaker false a b h = inr h

-- where c to d isn't left of a to b, and e to f isn't right of it, e to f isn't right of c to d
pub between : (u : Bool) (a b c d e f : Pos) → Before u a b → NotAfter u c d → NotAfter u e f → across a b c d ≤ℤ pos 0 → pos 0 ≤ℤ across a b e f → pos 0 ≤ℤ across c d e f
between true a b c d e f h k l s t = left_of _ _ _ _ _ _ (up_of a b h) (up_or_none c d k) (up_or_none e f l) s t
between false a b c d e f h k l s t =
    subst (λ (z : ℤ). pos 0 ≤ℤ z) (reversed c d e f)
    (left_of _ _ _ _ _ _ (up_of b a h) (up_or_none d c k) (up_or_none f e l) (subst (λ (z : ℤ). z ≤ℤ pos 0) (sym (reversed a b c d)) s) (subst (λ (z : ℤ). pos 0 ≤ℤ z) (sym (reversed a b e f)) t))

-- b goes, since the way a, b, c doesn't turn left: what isn't right of a to b and not before a isn't right of a to c
pub drop_by : (u : Bool) (a b c p : Pos) → Before u a b → Before u a c → NotAfter u a p → turn a b c ≤ℤ pos 0 → pos 0 ≤ℤ turn a b p → pos 0 ≤ℤ turn a c p
drop_by u a b c p h k l t s = between u a b a c a p h (weaker u a c k) l t s

-- what isn't right of a to b and not after b isn't right of b to c, where a, b, c doesn't turn right
pub next_by : (u : Bool) (a b c p : Pos) → Before u a b → Before u b c → NotAfter u p b → pos 0 ≤ℤ turn a b c → pos 0 ≤ℤ turn a b p → pos 0 ≤ℤ turn b c p
next_by u a b c p h k l t s =
    subst (λ (z : ℤ). pos 0 ≤ℤ z) (back_first b c p) (between u a b p b b c h l (weaker u b c k) (omega (arith, ints, by_last a b p, s)) (omega (arith, ints, by_middle a b c, t)))

-- what isn't right of b to c and not before b isn't right of a to b, where a, b, c doesn't turn right
pub before_by : (u : Bool) (a b c p : Pos) → Before u a b → Before u b c → NotAfter u b p → pos 0 ≤ℤ turn a b c → pos 0 ≤ℤ turn b c p → pos 0 ≤ℤ turn a b p
before_by u a b c p h k l t s =
    subst (λ (z : ℤ). pos 0 ≤ℤ z) (by_middle a b p) (between u b c a b b p k (weaker u a b h) l (omega (arith, ints, swapped a b b c, by_middle a b c, t)) s)
