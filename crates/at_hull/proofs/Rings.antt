-- The way up and the way down, without the last of each, are the hull.
-- For most public calls of the crate, `add`, `covers`, `covers_all` among them.
use Rattle.std.proofs.Common.{◌≡◌, pos, ◌+◌, ◌≤◌, ◌≤ℤ◌, ◌<ℤ◌, ◌⊎◌, inl, inr, neg_ℤ, Bool, true, false, not, List, [], ◌∷◌, ◌++◌, reverse, length, All, Contains, arith, sym, ap, ◌∙◌, subst, refl}
use Rattle.std.proofs.lemmas.Int.{ints}
use Rattle.std.proofs.lemmas.List.{append_assoc, length-append, length-reverse}
use Rattle.std.proofs.lemmas.List.Elements.{Contains-append_cases}
use Rattle.at_geom.specs.declared.positions.Pos.{Pos}
use Rattle.at_geom.specs.Segments.{turn}
use Rattle.at_geom.proofs.RingLaws.{expand}
use Rattle.at_hull.specs.Hulls.{IsBelow, IsAtMost, AreDifferent, TurnsLeft, NoneRight, IsHull, IsLowest}
use Rattle.at_hull.proofs.Members.{at_later, first_or_later, in_none, only_one, all_by, in_reverse, unreel, different_parts, different_reverse}
use Rattle.at_hull.proofs.Planes.{Before, NotAfter}
use Rattle.at_hull.proofs.Ways.{Falls, Lefts, Clear, bottom, Way, itself, before_trans}
use Rattle.at_hull.proofs.Joints.{IsFirst, SeesAll, EdgeTo, EdgeOn, IsLastOrOn, Joint, joint, not_both, not_on_both}

-- ---- a stack let down on a list

pub turns_down : (s : List Pos) (b a : Pos) (f : List Pos) → Lefts (b ∷ a ∷ s) → TurnsLeft (a ∷ b ∷ f) → TurnsLeft (reverse s ++ a ∷ b ∷ f)
turns_down [] b a f h k = k
turns_down (z ∷ s) b a f h k = subst TurnsLeft (sym (unreel z s (a ∷ b ∷ f))) (turns_down s a z (b ∷ f) h.1 (h.0, k))

pub clear_down : (S : Pos → Type 0) (s : List Pos) (b : Pos) (f : List Pos) → Clear S (b ∷ s) → NoneRight S (b ∷ f) → NoneRight S (reverse s ++ b ∷ f)
clear_down S [] b f h k = k
clear_down S (a ∷ s) b f h k = subst (NoneRight S) (sym (unreel a s (b ∷ f))) (clear_down S s a (b ∷ f) h.1 (h.0, k))

-- ---- all of a stack are before its end

pub all_before : (u : Bool) (c p : Pos) (s : List Pos) → Falls u (c ∷ s) → Contains s p → Before u p c
all_before u c p [] f h = absurd (in_none p h)
all_before u c p (b ∷ s) f h =
    elim (first_or_later p b s h) [
      | inl e ↦ subst (λ (q : Pos). Before u q c) (sym e) f.0
      | inr m ↦ before_trans u p b c (all_before u b p s f.1 m) f.0
    ]

pub stack_different : (u : Bool) (c : Pos) (s : List Pos) → Falls u (c ∷ s) → AreDifferent (c ∷ s)
stack_different u c [] f = (λ h. in_none c h, tt)
stack_different u c (b ∷ s) f = (λ h. not_both u c c (itself u c) (all_before u c c (b ∷ s) f h), stack_different u b s f.1)

-- ---- an inner position of a stack

record Inner (u : Bool) (S : Pos → Type 0) (v : Pos) : Type 0 where
  w : Pos
  x : Pos
  w_in : S w
  x_in : S x
  up_to : Before u w v
  up_from : Before u v x
  left : pos 0 <ℤ turn w v x
  sees : SeesAll S v x

inner : (u : Bool) (S : Pos → Type 0) (t v : Pos) (s : List Pos) → Falls u (t ∷ s) → Lefts (t ∷ s) → Clear S (t ∷ s) → ((p : Pos) → Contains (t ∷ s) p → S p) → Contains s v → (v ≡ bottom t s) ⊎ Inner u S v
inner u S t v [] f l c m h = absurd (in_none v h)
inner u S t v (b ∷ []) f l c m h = inl (only_one b v h)
inner u S t v (b ∷ a ∷ s) f l c m h =
    elim (first_or_later v b (a ∷ s) h) [
      | inl e ↦ inr (subst (Inner u S) (sym e) (record { w = a; x = t; w_in = m a (2, omega arith, refl); x_in = m t (0, omega arith, refl); up_to = f.1.0; up_from = f.0; left = l.0; sees = c.0 }))
      | inr k ↦ inner u S b v (a ∷ s) f.1 l.1 c.1 (λ p n. m p (at_later p t (b ∷ a ∷ s) n)) k
    ]

-- ---- the foot of a stack

record Foot (u : Bool) (S : Pos → Type 0) (low : Pos) (A : Pos → Type 0) (f : List Pos) : Type 0 where
  second : Pos
  more : List Pos
  is : f ≡ low ∷ second ∷ more
  order : Before u low second
  member : S second
  sees : SeesAll S low second
  after : A second

foot : (u : Bool) (S : Pos → Type 0) (c b : Pos) (s f : List Pos) → Falls u (c ∷ b ∷ s) → Lefts (c ∷ b ∷ s) → Clear S (c ∷ b ∷ s) → ((p : Pos) → Contains (c ∷ b ∷ s) p → S p) → EdgeOn u S b c
    → Foot u S (bottom b s) (EdgeOn u S (bottom b s)) (reverse s ++ b ∷ c ∷ f)
foot u S c b [] f h l k m on = record { second = c; more = f; is = refl; order = h.0; member = m c (0, omega arith, refl); sees = k.0; after = on }
foot u S c b (a ∷ s) f h l k m on =
    subst (Foot u S (bottom a s) (EdgeOn u S (bottom a s))) (sym (unreel a s (b ∷ c ∷ f)))
    (foot u S b a s (c ∷ f) h.1 l.1 k.1 (λ p n. m p (at_later p c (b ∷ a ∷ s) n)) (record { z = c; member = m c (0, omega arith, refl); order = h.0; left = l.0; sees = k.0 }))

-- of a stack of at least three
foot_of_long : (u : Bool) (S : Pos → Type 0) (low t x w : Pos) (s f : List Pos) → Way u S low t (x ∷ w ∷ s) → Foot u S low (EdgeOn u S low) (reverse (w ∷ s) ++ x ∷ t ∷ f)
foot_of_long u S low t x w s f h =
    subst (λ (z : Pos). Foot u S z (EdgeOn u S z) (reverse (w ∷ s) ++ x ∷ t ∷ f)) h.from_low
    (subst (Foot u S (bottom w s) (EdgeOn u S (bottom w s))) (sym (unreel w s (x ∷ t ∷ f)))
    (foot u S x w s (t ∷ f) h.falls.1 h.lefts.1 h.clear.1 (λ p n. h.seen p (at_later p t (x ∷ w ∷ s) n)) (record { z = t; member = h.seen t (0, omega arith, refl); order = h.falls.0; left = h.lefts.0; sees = h.clear.0 })))

abbrev on_long : (u : Bool) (S : Pos → Type 0) (low : Pos) (f : List Pos) → Foot u S low (EdgeOn u S low) f → Foot u S low (IsLastOrOn u S low) f
on_long u S low f g = record { second = g.second; more = g.more; is = g.is; order = g.order; member = g.member; sees = g.sees; after = inr g.after }

foot_of : (u : Bool) (S : Pos → Type 0) (low t x : Pos) (s f : List Pos) → Way u S low t (x ∷ s) → Foot u S low (IsLastOrOn u S low) (reverse s ++ x ∷ t ∷ f)
foot_of u S low t x [] f h =
    subst (λ (z : Pos). Foot u S z (IsLastOrOn u S z) (x ∷ t ∷ f)) h.from_low
    (record { second = t; more = f; is = refl; order = h.falls.0; member = h.seen t (0, omega arith, refl); sees = h.clear.0; after = inl h.highest })
foot_of u S low t x (w ∷ s) f h = on_long u S low (reverse (w ∷ s) ++ x ∷ t ∷ f) (foot_of_long u S low t x w s f h)

-- ---- the end of a stack

top_edge : (u : Bool) (S : Pos → Type 0) (low t x : Pos) (s : List Pos) → Way u S low t (x ∷ s) → IsFirst u S x ⊎ EdgeTo u S x t
top_edge u S low t x [] h = inl (λ p m. subst (λ (z : Pos). NotAfter u z p) (sym h.from_low) (h.lowest p m))
top_edge u S low t x (w ∷ s) h = inr (record { w = w; member = h.seen w (2, omega arith, refl); order = h.falls.1.0; left = h.lefts.0; sees = h.clear.1.0 })

-- the joint at the end t
meet : (u : Bool) (S : Pos → Type 0) (low t x y : Pos) (s : List Pos) → Way u S low t (x ∷ s) → Before u y t → S y → SeesAll S t y → IsFirst u S y ⊎ EdgeOn (not u) S t y → Joint u S x t y
meet u S low t x y s h o m sees on = joint u S x t y h.falls.0 o (h.seen x (1, omega arith, refl)) m h.clear.0 sees (top_edge u S low t x s h) on

-- ---- the ring

-- what the list with its first two positions behind it has to have
record Closed (ps : List Pos) (a b : Pos) (h : List Pos) : Type 0 where
  of_list : All (Contains ps) h
  different : AreDifferent h
  lowest : IsLowest a ps
  left : TurnsLeft (h ++ a ∷ b ∷ [])
  none_right : NoneRight (Contains ps) (h ++ a ∷ b ∷ [])

-- the list begins with a and b
finish : (ps : List Pos) (a b : Pos) (h more : List Pos) → h ++ a ∷ b ∷ [] ≡ a ∷ b ∷ more → 3 ≤ length h → Closed ps a b h → IsHull ps h
finish ps a b (p ∷ q ∷ c ∷ r) more e n k =
    let i : p ≡ a = cc in
    let j : q ≡ b = cc in
    let m = rw (i, j) at k in
    rw (i, j) (record { of_list = m.of_list; different = m.different; lowest = m.lowest; left = m.left; none_right = m.none_right })
finish ps a b _ more e n k = absurd (omega (arith, n))

-- both stacks, from the bottom of the one to that of the other
abbrev pub joined_ways : List Pos → List Pos → List Pos
joined_ways rr lr = reverse rr ++ reverse lr

common : (ps : List Pos) (a t v : Pos) (rr lr : List Pos) → Way true (Contains ps) a t rr → Way false (Contains ps) t a lr → Contains rr v → Contains lr v → ⊥
common ps a t v rr lr h k m n =
    elim (inner true (Contains ps) t v rr h.falls h.lefts h.clear h.seen m) [
      | inl e ↦ not_both false a v (inl (e ∙ h.from_low)) (all_before false a v lr k.falls n)
      | inr i ↦ elim (inner false (Contains ps) a v lr k.falls k.lefts k.clear k.seen n) [
        | inl e ↦ not_both true t v (inl (sym (e ∙ k.from_low))) (all_before true t v rr h.falls m)
        | inr j ↦ not_on_both i.w v i.x j.x j.w i.up_to i.up_from j.up_from j.up_to i.left j.left (i.sees j.w j.w_in) (j.sees i.w i.w_in)
      ]
    ]

-- the whole list, where each way is seen from its end to its second position and the way on turns left
hull_by : (ps : List Pos) (a t x z : Pos) (rr lr : List Pos) (r : Foot true (Contains ps) a (IsLastOrOn true (Contains ps) a) (reverse rr ++ x ∷ t ∷ []))
    → (l : Foot false (Contains ps) t (IsLastOrOn false (Contains ps) t) (reverse lr ++ z ∷ a ∷ r.second ∷ [])) → Way true (Contains ps) a t (x ∷ rr) → Way false (Contains ps) t a (z ∷ lr)
    → (IsFirst true (Contains ps) x × IsFirst true (Contains ps) l.second → ⊥) → (IsFirst false (Contains ps) z × IsFirst false (Contains ps) r.second → ⊥)
    → 3 ≤ length (x ∷ rr) + length (z ∷ lr) → IsHull ps (joined_ways (x ∷ rr) (z ∷ lr))
hull_by ps a t x z rr lr r l h k not_lowest not_highest n =
    let b = r.second in
    let y = l.second in
    let jt : pos 0 <ℤ turn x t y = elim (meet true (Contains ps) a t x y rr h l.order l.member l.sees l.after) [ inl i ↦ i | inr i ↦ absurd (not_lowest i) ] in
    let ja : pos 0 <ℤ turn z a b = elim (meet false (Contains ps) t a z b lr k r.order r.member r.sees r.after) [ inl i ↦ i | inr i ↦ absurd (not_highest i) ] in
    let down = turns_down lr a z (b ∷ []) k.lefts (ja, tt) in
    let clear = subst (NoneRight (Contains ps)) (unreel z lr (a ∷ b ∷ []) ∙ l.is) (clear_down (Contains ps) (z ∷ lr) a (b ∷ []) k.clear (r.sees, tt)) in
    let all = subst (NoneRight (Contains ps)) (unreel x rr (t ∷ y ∷ l.more)) (clear_down (Contains ps) (x ∷ rr) t (y ∷ l.more) h.clear clear) in
    let same = append_assoc (reverse (x ∷ rr)) (reverse (z ∷ lr)) (a ∷ b ∷ []) ∙ ap (λ (w : List Pos). reverse (x ∷ rr) ++ w) (unreel z lr (a ∷ b ∷ []) ∙ l.is) ∙ unreel x rr (t ∷ y ∷ l.more) in
    let begins = sym (append_assoc (reverse rr) (x ∷ t ∷ []) (y ∷ l.more)) ∙ ap (λ (w : List Pos). w ++ y ∷ l.more) r.is in
    finish ps a b (joined_ways (x ∷ rr) (z ∷ lr)) (r.more ++ y ∷ l.more) (same ∙ begins) (omega (arith, n, length-append (reverse (x ∷ rr)) (reverse (z ∷ lr)), length-reverse (x ∷ rr), length-reverse (z ∷ lr)))
    (record {
      of_list = all_by (Contains ps) (joined_ways (x ∷ rr) (z ∷ lr)) (λ p m. elim (Contains-append_cases (reverse (x ∷ rr)) (reverse (z ∷ lr)) p m) [
        | inl i ↦ h.seen p (at_later p t (x ∷ rr) (in_reverse p (x ∷ rr) i))
        | inr i ↦ k.seen p (at_later p a (z ∷ lr) (in_reverse p (z ∷ lr) i))
      ]);
      different = different_parts (reverse (x ∷ rr)) (reverse (z ∷ lr)) (different_reverse (x ∷ rr) (stack_different true t (x ∷ rr) h.falls).1)
          (different_reverse (z ∷ lr) (stack_different false a (z ∷ lr) k.falls).1) (λ p m n. common ps a t p (x ∷ rr) (z ∷ lr) h k (in_reverse p (x ∷ rr) m) (in_reverse p (z ∷ lr) n));
      lowest = (k.seen a (0, omega arith, refl), all_by (IsAtMost a) ps (λ p m. h.lowest p m));
      left = subst TurnsLeft (sym same) (turns_down rr t x (y ∷ l.more) h.lefts (jt, subst TurnsLeft l.is down));
      none_right = subst (NoneRight (Contains ps)) (sym same) all;
    })

-- the way up has at least three positions
hull_up : (ps : List Pos) (a t x w z : Pos) (rr lr : List Pos) → Way true (Contains ps) a t (x ∷ w ∷ rr) → Way false (Contains ps) t a (z ∷ lr) → IsHull ps (joined_ways (x ∷ w ∷ rr) (z ∷ lr))
hull_up ps a t x w z rr lr h k =
    let g = foot_of_long true (Contains ps) a t x w rr [] h in
    hull_by ps a t x z (w ∷ rr) lr (on_long true (Contains ps) a _ g) (foot_of false (Contains ps) t a z lr (g.second ∷ []) k) h k
    (λ f. not_both true x w (f.0 w (h.seen w (2, omega arith, refl))) h.falls.1.0) (λ f. not_both false g.second g.after.z (f.1 g.after.z g.after.member) g.after.order) (omega arith)

-- the way down has
hull_down : (ps : List Pos) (a t x w z : Pos) (lr : List Pos) → Way true (Contains ps) a t (x ∷ []) → Way false (Contains ps) t a (z ∷ w ∷ lr) → IsHull ps (joined_ways (x ∷ []) (z ∷ w ∷ lr))
hull_down ps a t x w z lr h k =
    let r = foot_of true (Contains ps) a t x [] [] h in
    let g = foot_of_long false (Contains ps) t a z w lr (r.second ∷ []) k in
    hull_by ps a t x z [] (w ∷ lr) r (on_long false (Contains ps) t _ g) h k
    (λ f. not_both true g.second g.after.z (f.1 g.after.z g.after.member) g.after.order) (λ f. not_both false z w (f.0 w (k.seen w (2, omega arith, refl))) k.falls.1.0) (omega arith)

pub turn_swap : (a b p : Pos) → turn b a p ≡ neg_ℤ (turn a b p)
turn_swap a b p = simp expand (omega (arith, ints))

pub on_one_line : (a b p : Pos) → pos 0 ≤ℤ turn a b p → pos 0 ≤ℤ turn b a p → turn a b p ≡ pos 0
on_one_line a b p h k = omega (arith, ints, h, k, turn_swap a b p)

-- both are one edge
hull_of_line : (ps : List Pos) (a t x z : Pos) → x ≡ a → z ≡ t → Way true (Contains ps) a t (x ∷ []) → Way false (Contains ps) t a (z ∷ []) → IsHull ps (x ∷ z ∷ [])
hull_of_line ps a t x z e f h0 k0 =
    let h = subst (λ (q : Pos). Way true (Contains ps) a t (q ∷ [])) e h0 in
    let k = subst (λ (q : Pos). Way false (Contains ps) t a (q ∷ [])) f k0 in
    rw (e, f) (record {
      lower = k.seen a (0, omega arith, refl);
      upper = h.seen t (0, omega arith, refl);
      apart = h.falls.0;
      on_line = all_by (λ p. turn a t p ≡ pos 0) ps (λ p m. on_one_line a t p (h.clear.0 p m) (k.clear.0 p m));
      from_lower = all_by (IsAtMost a) ps (λ p m. h.lowest p m);
      to_upper = all_by (λ p. IsAtMost p t) ps (λ p m. h.highest p m);
    })

pub hull_of_ways : (ps : List Pos) (a t : Pos) (rr lr : List Pos) → IsBelow a t → Way true (Contains ps) a t rr → Way false (Contains ps) t a lr → IsHull ps (joined_ways rr lr)
hull_of_ways ps a t [] lr o h k = absurd (not_both true t a (inl h.from_low) o)
hull_of_ways ps a t (x ∷ rr) [] o h k = absurd (not_both true t a (inl (sym k.from_low)) o)
hull_of_ways ps a t (x ∷ []) (z ∷ []) o h k = hull_of_line ps a t x z h.from_low k.from_low h k
hull_of_ways ps a t (x ∷ []) (z ∷ w ∷ lr) o h k = hull_down ps a t x w z lr h k
hull_of_ways ps a t (x ∷ w ∷ rr) (z ∷ lr) o h k = hull_up ps a t x w z rr lr h k
