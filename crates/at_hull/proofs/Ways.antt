-- A chain of the walk, as a stack with its end first: it turns left, and nothing that was seen is to the right of it.
-- A chain goes up, or down: the same facts of the order stand for both.
-- For most public calls of the crate, `add`, `covers`, `covers_all` among them.
use Rattle.std.proofs.Common.{◌≡◌, ℤ, pos, ◌≤ℤ◌, ◌<ℤ◌, ◌⊎◌, inl, inr, Bool, true, false, List, [], ◌∷◌, fold, Contains, arith, sym, ap, ◌∙◌, subst, refl}
use Rattle.std.specs.Prelude.{if◌then◌else◌}
use Rattle.std.proofs.lemmas.Int.{ints, by_lt_z}
use Rattle.at_geom.specs.declared.positions.Pos.{Pos}
use Rattle.at_geom.specs.Segments.{turn}
use Rattle.at_geom.proofs.RingLaws.{expand}
use Rattle.at_geom.proofs.Comparisons.{le_true, le_false}
use Rattle.at_hull.specs.Hulls.{IsBelow, IsAtMost}
use Rattle.at_hull.specs.Walks.{popped, pushed}
use Rattle.at_hull.proofs.Members.{at_first, at_later, first_or_later, in_none, only_one}
use Rattle.at_hull.proofs.Planes.{Before, NotAfter, weaker, drop_by, next_by, before_by}

-- ---- the order of positions

pub below_trans : (a b c : Pos) → IsBelow a b → IsBelow b c → IsBelow a c
below_trans a b c (inl h) (inl k) = inl (omega (arith, ints))
below_trans a b c (inl h) (inr k) = inl (omega (arith, ints, k.0))
below_trans a b c (inr h) (inl k) = inl (omega (arith, ints, h.0))
below_trans a b c (inr h) (inr k) = inr (h.0 ∙ k.0, omega (arith, ints, h.1, k.1))

pub not_below_self : (a : Pos) → IsBelow a a → ⊥
not_below_self a (inl h) = omega (arith, ints)
not_below_self a (inr h) = omega (arith, ints, h.1)

pub same_pos : (a b : Pos) → a.x ≡ b.x → a.y ≡ b.y → a ≡ b
same_pos a b e f = ap (λ (x : ℤ). record { x = x; y = a.y }) e ∙ ap (λ (y : ℤ). record { x = b.x; y = y }) f

-- by where two positions are against one another
pub by_order : {P : Type 0} (a b : Pos) → (IsBelow a b → P) → (a ≡ b → P) → (IsBelow b a → P) → P
by_order a b f g h =
    by_lt_z a.y b.y (λ l. f (inl l)) (λ l. by_lt_z b.y a.y (λ m. h (inl m)) (λ m.
    let e : a.y ≡ b.y = omega (arith, ints) in
    by_lt_z a.x b.x (λ n. f (inr (e, n))) (λ n. by_lt_z b.x a.x (λ q. h (inr (sym e, q))) (λ q. g (same_pos a b (omega (arith, ints)) e)))))

pub antisym : (a b : Pos) → IsAtMost a b → IsAtMost b a → a ≡ b
antisym a b (inl e) k = e
antisym a b (inr h) (inl e) = sym e
antisym a b (inr h) (inr k) = absurd (not_below_self a (below_trans a b a h k))

pub at_most_below : (a b c : Pos) → IsAtMost a b → IsBelow b c → IsBelow a c
at_most_below a b c (inl e) k = subst (λ (z : Pos). IsBelow z c) (sym e) k
at_most_below a b c (inr h) k = below_trans a b c h k

pub below_at_most : (a b c : Pos) → IsBelow a b → IsAtMost b c → IsBelow a c
below_at_most a b c h (inl e) = subst (λ (z : Pos). IsBelow a z) e h
below_at_most a b c h (inr k) = below_trans a b c h k

-- ---- up, or down

pub itself : (u : Bool) (a : Pos) → NotAfter u a a
itself true a = inl refl
itself false a = inl refl

pub before_trans : (u : Bool) (a b c : Pos) → Before u a b → Before u b c → Before u a c
before_trans true a b c h k = below_trans a b c h k
before_trans false a b c h k = below_trans c b a k h

pub not_after_before : (u : Bool) (a b c : Pos) → NotAfter u a b → Before u b c → Before u a c
not_after_before true a b c h k = at_most_below a b c h k
not_after_before false a b c h k = below_at_most c b a k h

pub both_ways : (u : Bool) (a b : Pos) → NotAfter u a b → NotAfter u b a → a ≡ b
both_ways true a b h k = antisym a b h k
both_ways false a b h k = antisym a b k h

pub one_way : (u : Bool) (a b : Pos) → NotAfter u a b ⊎ NotAfter u b a
one_way true a b = by_order a b (λ h. inl (inr h)) (λ e. inl (inl e)) (λ h. inr (inr h))
one_way false a b = by_order a b (λ h. inr (inr h)) (λ e. inr (inl e)) (λ h. inl (inr h))

-- ---- stacks

abbrev pub Falls : Bool → List Pos → Type 0
Falls u (c ∷ b ∷ rest) = Before u b c × Falls u (b ∷ rest)
Falls u _ = Unit {0}

abbrev pub Lefts : List Pos → Type 0
Lefts (c ∷ b ∷ a ∷ rest) = (pos 0 <ℤ turn a b c) × Lefts (b ∷ a ∷ rest)
Lefts _ = Unit {0}

abbrev pub Clear : (Pos → Type 0) → List Pos → Type 0
Clear S (c ∷ b ∷ rest) = ((p : Pos) → S p → pos 0 ≤ℤ turn b c p) × Clear S (b ∷ rest)
Clear S _ = Unit {0}

abbrev pub bottom : Pos → List Pos → Pos
bottom c [] = c
bottom c (b ∷ rest) = bottom b rest

clear_of_fewer : (S T : Pos → Type 0) (s : List Pos) → ((p : Pos) → T p → S p) → Clear S s → Clear T s
clear_of_fewer S T (c ∷ b ∷ rest) f h = (λ p k. h.0 p (f p k), clear_of_fewer S T (b ∷ rest) f h.1)
clear_of_fewer S T _ f h = tt

clear_of_both : (S T : Pos → Type 0) (s : List Pos) → Clear S s → Clear T s → Clear (λ p. S p ⊎ T p) s
clear_of_both S T (c ∷ b ∷ rest) h k = (λ p m. elim m [ inl i ↦ h.0 p i | inr i ↦ k.0 p i ], clear_of_both S T (b ∷ rest) h.1 k.1)
clear_of_both S T _ h k = tt

before_not_after : (u : Bool) (a b c : Pos) → Before u a b → NotAfter u b c → Before u a c
before_not_after true a b c h k = below_at_most a b c h k
before_not_after false a b c h k = at_most_below c b a k h

-- c, which isn't right of the last edge a to b and isn't before b, isn't right of any
after_all : (u : Bool) (c a b : Pos) (rest : List Pos) → NotAfter u b c → pos 0 ≤ℤ turn a b c → Falls u (b ∷ a ∷ rest) → Lefts (b ∷ a ∷ rest) → Clear (λ p. p ≡ c) (b ∷ a ∷ rest)
after_all u c a b [] h t f l = (λ p e. subst (λ (q : Pos). pos 0 ≤ℤ turn a b q) (sym e) t, tt)
after_all u c a b (z ∷ rest) h t f l =
    let k : NotAfter u a c = weaker u a c (before_not_after u a b c f.0 h) in
    let s = before_by u z a b c f.1.0 f.0 k (omega (arith, ints, l.0)) t in
    (λ p e. subst (λ (q : Pos). pos 0 ≤ℤ turn a b q) (sym e) t, after_all u c z a rest k s f.1 l.1)

own_clear : (u : Bool) (c : Pos) (s : List Pos) → Falls u (c ∷ s) → Lefts (c ∷ s) → Clear (λ p. p ≡ c) (c ∷ s)
own_clear u c [] f l = tt
own_clear u c (b ∷ rest) f l = after_all u c b c rest (itself u c) (simp expand (omega (arith, ints))) f l

-- what a stack is once c is on it: s is what was left of the stack below
record Fits (u : Bool) (S : Pos → Type 0) (low c : Pos) (s : List Pos) : Type 0 where
  falls : Falls u (c ∷ s)
  lefts : Lefts (c ∷ s)
  clear : Clear S (c ∷ s)
  from_low : bottom c s ≡ low
  seen : (p : Pos) → Contains s p → S p

lefts_below : (b a : Pos) (rest : List Pos) → Lefts (b ∷ a ∷ rest) → Lefts (a ∷ rest)
lefts_below b a [] l = tt
lefts_below b a (z ∷ rest) l = l.1

fits : (u : Bool) (S : Pos → Type 0) (low c b : Pos) (rest : List Pos) → Before u b c → Falls u (b ∷ rest) → Lefts (b ∷ rest) → Clear S (b ∷ rest) → ((p : Pos) → S p → NotAfter u b p → pos 0 ≤ℤ turn b c p)
    → bottom b rest ≡ low → ((p : Pos) → S p → NotAfter u low p) → ((p : Pos) → Contains (b ∷ rest) p → S p) → Fits u S low c (popped c (b ∷ rest))
fits u S low c b [] h f l clear k e from_low seen =
    record { falls = (h, tt); lefts = tt; clear = (λ p m. k p m (subst (λ (z : Pos). NotAfter u z p) (sym e) (from_low p m)), tt); from_low = e; seen = seen }
fits u S low c b (a ∷ rest) h f l clear k e from_low seen =
    by_lt_z (pos 0) (turn a b c)
    (λ t. subst (λ (z : Bool). Fits u S low c (if z then popped c (a ∷ rest) else (b ∷ a ∷ rest))) (sym (le_false (turn a b c) (pos 0) t))
    -- b stays: the way a, b, c turns left
    (record {
      falls = (h, f);
      lefts = (t, l);
      clear = (λ p m. elim (one_way u b p) [ inl n ↦ k p m n | inr n ↦ next_by u a b c p f.0 h n (omega (arith, ints)) (clear.0 p m) ], clear);
      from_low = e;
      seen = seen;
    }))
    (λ t. subst (λ (z : Bool). Fits u S low c (if z then popped c (a ∷ rest) else (b ∷ a ∷ rest))) (sym (le_true (turn a b c) (pos 0) t))
    (let g = before_trans u a b c f.0 h in
    fits u S low c a rest g f.1 (lefts_below b a rest l) clear.1 (λ p m n. drop_by u a b c p f.0 g n t (clear.0 p m)) e from_low (λ p m. seen p (at_later p b (a ∷ rest) m))))

-- ---- the whole walk

-- a stack with the end t over the positions with S
pub record Way (u : Bool) (S : Pos → Type 0) (low t : Pos) (rest : List Pos) : Type 0 where
  pub falls : Falls u (t ∷ rest)
  pub lefts : Lefts (t ∷ rest)
  pub clear : Clear S (t ∷ rest)
  pub from_low : bottom t rest ≡ low
  pub lowest : (p : Pos) → S p → NotAfter u low p
  pub highest : (p : Pos) → S p → NotAfter u p t
  pub seen : (p : Pos) → Contains (t ∷ rest) p → S p

abbrev or_at : (Pos → Type 0) → Pos → Pos → Type 0
or_at S c p = S p ⊎ (p ≡ c)

step : (u : Bool) (S : Pos → Type 0) (low t : Pos) (rest : List Pos) (c : Pos) → Way u S low t rest → Before u t c → Way u (or_at S c) low c (popped c (t ∷ rest))
step u S low t rest c w h =
    let at_end = λ (p : Pos) (m : S p) (n : NotAfter u t p). subst (λ (z : Pos). pos 0 ≤ℤ turn t c z) (both_ways u t p n (w.highest p m)) (simp expand (omega (arith, ints))) in
    let f = fits u S low c t rest h w.falls w.lefts w.clear at_end w.from_low w.lowest w.seen in
    let up = weaker u low c (not_after_before u low t c (w.lowest t (w.seen t (at_first t t rest refl))) h) in
    record {
      falls = f.falls;
      lefts = f.lefts;
      clear = clear_of_both S (λ p. p ≡ c) (c ∷ popped c (t ∷ rest)) f.clear (own_clear u c (popped c (t ∷ rest)) f.falls f.lefts);
      from_low = f.from_low;
      lowest = λ p m. elim m [ inl i ↦ w.lowest p i | inr e ↦ subst (λ (z : Pos). NotAfter u low z) (sym e) up ];
      highest = λ p m. elim m [ inl i ↦ weaker u p c (not_after_before u p t c (w.highest p i) h) | inr e ↦ subst (λ (z : Pos). NotAfter u z c) (sym e) (itself u c) ];
      seen = λ p m. elim (first_or_later p c (popped c (t ∷ rest)) m) [ inl e ↦ inr e | inr n ↦ inl (f.seen p n) ];
    }

abbrev pub Rises : Bool → Pos → List Pos → Type 0
Rises u t [] = Unit {0}
Rises u t (c ∷ rest) = Before u t c × Rises u c rest

-- the end of a walk from t over cs
abbrev pub end_of : Pos → List Pos → Pos
end_of t [] = t
end_of t (c ∷ cs) = end_of c cs

pub record Walked (u : Bool) (S : Pos → Type 0) (low high : Pos) (s : List Pos) : Type 0 where
  pub rest : List Pos
  pub is : s ≡ high ∷ rest
  pub way : Way u S low high rest

abbrev or_in : (Pos → Type 0) → List Pos → Pos → Type 0
or_in S cs p = S p ⊎ Contains cs p

-- T holds of what was seen and of what is still to be walked over
walked : (u : Bool) (S T : Pos → Type 0) (low t : Pos) (rest cs : List Pos) → ((p : Pos) → T p → or_in S cs p) → ((p : Pos) → or_in S cs p → T p) → Way u S low t rest → Rises u t cs
    → Walked u T low (end_of t cs) (fold pushed (t ∷ rest) cs)
walked u S T low t rest [] f g w h =
    let down : (p : Pos) → T p → S p = λ p m. elim (f p m) [ inl i ↦ i | inr i ↦ absurd (in_none p i) ] in
    record {
      rest = rest;
      is = refl;
      way = record {
        falls = w.falls;
        lefts = w.lefts;
        clear = clear_of_fewer S T (t ∷ rest) down w.clear;
        from_low = w.from_low;
        lowest = λ p m. w.lowest p (down p m);
        highest = λ p m. w.highest p (down p m);
        seen = λ p m. g p (inl (w.seen p m));
      };
    }
walked u S T low t rest (c ∷ cs) f g w h =
    walked u (or_at S c) T low c (popped c (t ∷ rest)) cs
    (λ p m. elim (f p m) [ inl i ↦ inl (inl i) | inr i ↦ elim (first_or_later p c cs i) [ inl e ↦ inl (inr e) | inr n ↦ inr n ] ])
    (λ p m. g p (elim m [ inl i ↦ elim i [ inl n ↦ inl n | inr e ↦ inr (at_first p c cs e) ] | inr n ↦ inr (at_later p c cs n) ]))
    (step u S low t rest c w h.0) h.1

-- the walk over a list of which each is before the next
pub walk_of : (u : Bool) (T : Pos → Type 0) (a : Pos) (cs : List Pos) → ((p : Pos) → T p → Contains (a ∷ cs) p) → ((p : Pos) → Contains (a ∷ cs) p → T p) → Rises u a cs
    → Walked u T a (end_of a cs) (fold pushed [] (a ∷ cs))
walk_of u T a cs f g h =
    walked u (λ p. p ≡ a) T a a [] cs (λ p m. first_or_later p a cs (f p m)) (λ p m. g p (elim m [ inl e ↦ at_first p a cs e | inr n ↦ at_later p a cs n ]))
    (record {
      falls = tt;
      lefts = tt;
      clear = tt;
      from_low = refl;
      lowest = λ p e. subst (λ (z : Pos). NotAfter u a z) (sym e) (itself u a);
      highest = λ p e. subst (λ (z : Pos). NotAfter u z a) (sym e) (itself u a);
      seen = λ p m. only_one a p m;
    })
    h
