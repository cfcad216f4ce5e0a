-- Where the way up and the way down meet: the end of one and the beginning of the other turn left, unless both are one edge.
-- For most public calls of the crate, `add`, `covers`, `covers_all` among them.
use Rattle.std.proofs.Common.{◌≡◌, pos, ◌≤ℤ◌, ◌<ℤ◌, ◌⊎◌, inl, inr, Bool, true, false, not, arith, sym, ◌∙◌, subst}
use Rattle.std.proofs.lemmas.Int.{ints, by_lt_z}
use Rattle.at_geom.specs.declared.positions.Pos.{Pos}
use Rattle.at_geom.specs.Segments.{turn}
use Rattle.at_geom.proofs.RingLaws.{expand}
use Rattle.at_hull.specs.Hulls.{IsBelow}
use Rattle.at_hull.proofs.Planes.{Before, NotAfter, weaker, between, across, swapped, by_last, by_middle, back_first}
use Rattle.at_hull.proofs.Ways.{by_order, below_trans, not_below_self, at_most_below}

-- ---- turns by other vectors

falling : (t y z : Pos) → across y t z y ≡ turn t y z
falling t y z = simp expand (omega (arith, ints))

from_middle : (y z x : Pos) → across z y x y ≡ turn y z x
from_middle y z x = simp expand (omega (arith, ints))

pub turn_round : (a b c : Pos) → turn b c a ≡ turn a b c
turn_round a b c = simp expand (omega (arith, ints))

-- y lies beyond x on the way back from t
beyond : (u : Bool) (w x t y : Pos) → Before u w x → Before u x t → Before u y x → pos 0 <ℤ turn w x t → turn x t y ≡ pos 0 → pos 0 ≤ℤ turn w x y → ⊥
beyond u w x t y h k l f e g =
    let z = between u y x x t w x l (weaker u x t k) (weaker u w x h) (omega (arith, ints, back_first x t y, e)) (omega (arith, ints, by_last w x y, swapped w x y x, g)) in
    omega (arith, ints, z, by_middle w x t, swapped w x x t, f)

-- x lies beyond y on the way from t
short : (u : Bool) (t y z x : Pos) → Before u y t → Before u z y → Before u x y → pos 0 <ℤ turn t y z → turn t y x ≡ pos 0 → pos 0 ≤ℤ turn y z x → ⊥
short u t y z x h k l f e g =
    let s = between u x y z y y t l (weaker u z y k) (weaker u y t h) (omega (arith, ints, from_middle y z x, swapped z y x y, g)) (omega (arith, ints, falling t y x, swapped y t x y, e)) in
    omega (arith, ints, s, falling t y z, swapped y t z y, f)

-- one position on the way up and on the way down, with its neighbours
pub not_on_both : (w v x k m : Pos) → IsBelow w v → IsBelow v x → IsBelow k v → IsBelow v m → pos 0 <ℤ turn w v x → pos 0 <ℤ turn m v k → pos 0 ≤ℤ turn v x m → pos 0 ≤ℤ turn v k w → ⊥
not_on_both w v x k m wv vx kv vm f g h i =
    let e = between true v m v x k v vm (inr vx) (inr kv) (omega (arith, ints, swapped v x v m, h)) (omega (arith, ints, falling m v k, g)) in
    let l = between true k v v x w v kv (inr vx) (inr wv) (omega (arith, ints, swapped v x k v, e)) (omega (arith, ints, from_middle v k w, i)) in
    omega (arith, ints, l, swapped w v v x, by_middle w v x, f)

-- ---- the joint

abbrev pub IsFirst : Bool → (Pos → Type 0) → Pos → Type 0
IsFirst u S x = (p : Pos) → S p → NotAfter u x p

abbrev pub SeesAll : (Pos → Type 0) → Pos → Pos → Type 0
SeesAll S a b = (p : Pos) → S p → pos 0 ≤ℤ turn a b p

-- the edge that leads to the edge from x to t
pub record EdgeTo (u : Bool) (S : Pos → Type 0) (x t : Pos) : Type 0 where
  pub w : Pos
  pub member : S w
  pub order : Before u w x
  pub left : pos 0 <ℤ turn w x t
  pub sees : SeesAll S w x

-- the edge behind the edge from x to y
pub record EdgeOn (u : Bool) (S : Pos → Type 0) (x y : Pos) : Type 0 where
  pub z : Pos
  pub member : S z
  pub order : Before u y z
  pub left : pos 0 <ℤ turn x y z
  pub sees : SeesAll S y z

-- y is the last of the way from x, or an edge goes on from it
abbrev pub IsLastOrOn : Bool → (Pos → Type 0) → Pos → Pos → Type 0
IsLastOrOn u S x y = ((p : Pos) → S p → NotAfter u p y) ⊎ EdgeOn u S x y

-- the other way
turned_way : (u : Bool) (a b : Pos) → Before (not u) a b → Before u b a
turned_way true a b h = h
turned_way false a b h = h

by_before : {P : Type 0} (u : Bool) (a b : Pos) → (Before u a b → P) → (a ≡ b → P) → (Before u b a → P) → P
by_before true a b f g h = by_order a b f g h
by_before false a b f g h = by_order a b h g f

pub not_both : (u : Bool) (a b : Pos) → NotAfter u a b → Before u b a → ⊥
not_both true a b h k = not_below_self a (at_most_below a b a h k)
not_both false a b (inl e) k = not_below_self a (subst (λ (z : Pos). IsBelow a z) e k)
not_both false a b (inr h) k = not_below_self a (below_trans a b a k h)

abbrev pub Joint : Bool → (Pos → Type 0) → Pos → Pos → Pos → Type 0
Joint u S x t y = (pos 0 <ℤ turn x t y) ⊎ (IsFirst u S x × IsFirst u S y)

y_farther : (u : Bool) (S : Pos → Type 0) (x t y : Pos) → Before u x t → S y → turn x t y ≡ pos 0 → IsFirst u S x ⊎ EdgeTo u S x t → Before u y x → ⊥
y_farther u S x t y h my e (inl f) k = not_both u x y (f y my) k
y_farther u S x t y h my e (inr w) k = beyond u w.w x t y w.order h k w.left e (w.sees y my)

x_farther : (u : Bool) (S : Pos → Type 0) (x t y : Pos) → Before u y t → S x → turn x t y ≡ pos 0 → IsFirst u S y ⊎ EdgeOn (not u) S t y → Before u x y → ⊥
x_farther u S x t y h mx e (inl f) k = not_both u y x (f x mx) k
x_farther u S x t y h mx e (inr z) k = short u t y z.z x h (turned_way u y z.z z.order) k z.left (turn_round x t y ∙ e) (z.sees x mx)

same_end : (u : Bool) (S : Pos → Type 0) (x t y : Pos) → SeesAll S t y → x ≡ y → IsFirst u S x ⊎ EdgeTo u S x t → IsFirst u S y ⊎ EdgeOn (not u) S t y → Joint u S x t y
same_end u S x t y sees e (inl f) (inl g) = inr (f, g)
same_end u S x t y sees e (inl f) (inr z) = absurd (not_both u y z.z (subst (λ (q : Pos). NotAfter u q z.z) e (f z.z z.member)) (turned_way u y z.z z.order))
same_end u S x t y sees e (inr w) k =
    let s = subst (λ (q : Pos). pos 0 ≤ℤ turn t q w.w) (sym e) (sees w.w w.member) in
    absurd (omega (arith, ints, simp expand at s, simp expand at w.left))

pub joint : (u : Bool) (S : Pos → Type 0) (x t y : Pos) → Before u x t → Before u y t → S x → S y → SeesAll S x t → SeesAll S t y
    → IsFirst u S x ⊎ EdgeTo u S x t → IsFirst u S y ⊎ EdgeOn (not u) S t y → Joint u S x t y
joint u S x t y h k mx my f g to from =
    by_lt_z (pos 0) (turn x t y) (λ l. inl l) (λ l.
    let e : turn x t y ≡ pos 0 = omega (arith, ints, f y my, l) in
    by_before u x y (λ b. absurd (x_farther u S x t y k mx e from b)) (λ b. same_end u S x t y g b to from) (λ b. absurd (y_farther u S x t y h my e to b)))
