-- How what a text spells from a place on follows from what it spells from a later place on.
-- For `read_line`, `read_geometry` and `Room::check_line`: all readers below them are told by it.
use Rattle.std.proofs.Common.{◌≡◌, ℕ, ◌+◌, ◌<◌, ◌≤◌, ◌⊎◌, inl, inr, Bool, true, List, [], ◌∷◌, ◌++◌, length, take, refl, sym, ◌∙◌, ap, subst, arith, add-one, take-suc, append_assoc, length-append, length-take}
use native.Mathlib.Decide.{dec_lt}
use Rattle.std.proofs.lemmas.List.{drop-append-le, append_cancel_left}
use Rattle.at_wkt.proofs.Names.{Dimension, Open, Fixed, between, next, Allows, Spelt, Leads}
use Rattle.at_fixed.proofs.DigitParts.{part-none, part-length, part-part}

-- ---- parts of a list

pub part-more : (w : List ℕ) (i j : ℕ) → i ≤ j → j < length w → between w i (j + 1) ≡ between w i j ++ (next w j ∷ [])
part-more w i j h k =
    let fits : i ≤ length (take j w) = omega (arith, length-take j w) in
    rw (add-one j, take-suc w j 256 k) (drop-append-le i (take j w) (next w j ∷ []) fits)

pub part-cons : (w : List ℕ) (i j : ℕ) → i < j → j ≤ length w → between w i j ≡ next w i ∷ between w (i + 1) j
part-cons w i j h k =
    let first : between w i (i + 1) ≡ next w i ∷ [] = part-more w i i (omega arith) (omega arith) ∙ ap (λ x. x ++ (next w i ∷ [])) (part-none w i (omega arith)) in
    part-part w i (i + 1) j (omega arith) (omega arith) k ∙ ap (λ x. x ++ between w (i + 1) j) first

pub part-one : (w : List ℕ) (i : ℕ) → i < length w → between w i (i + 1) ≡ next w i ∷ []
part-one w i h = part-cons w i (i + 1) (omega arith) (omega arith) ∙ ap (λ x. next w i ∷ x) (part-none w (i + 1) (omega arith))

-- an offset behind a part
pub offset : (base : ℕ) (w : List ℕ) (i j : ℕ) → i ≤ j → j ≤ length w → (base + i) + length (between w i j) ≡ base + j
offset base w i j h k = omega (arith, part-length w i j h k)

-- the text goes on with the byte at its place
abbrev pub Ahead : List ℕ → ℕ → List ℕ → Type 0
Ahead w j s = (t : List ℕ) × (s ≡ next w j ∷ t)

pub ahead_stuck : (w : List ℕ) (j n : ℕ) (s : List ℕ) → j ≤ n → n ≤ length w → (j ≡ n) ⊎ (j < n) → Ahead w j (between w j n ++ (next w n ∷ s))
ahead_stuck w j n s h k (inl e) = let P : ℕ → Type 0 = λ m. Ahead w j (between w j m ++ (next w m ∷ s)) in
    subst P e (s, ap (λ x. x ++ (next w j ∷ s)) (part-none w j (omega arith)))
ahead_stuck w j n s h k (inr l) = (between w (j + 1) n ++ (next w n ∷ s), ap (λ x. x ++ (next w n ∷ s)) (part-cons w j n l k))

pub same_or_less : (j n : ℕ) → j ≤ n → (j ≡ n) ⊎ (j < n)
same_or_less j n h = elim (dec_lt j n) [ yes l ↦ inr l | no f ↦ inl (omega arith) ]

-- ---- words that agree

-- of two lists that begin a third, one begins the other
pub append_cases : (a s b t : List ℕ) → a ++ s ≡ b ++ t
    → ((a ≡ b) × (s ≡ t)) ⊎ (((e : ℕ) × (es : List ℕ) × (b ≡ a ++ (e ∷ es)) × (s ≡ (e ∷ es) ++ t)) ⊎ ((e : ℕ) × (es : List ℕ) × (a ≡ b ++ (e ∷ es)) × (t ≡ (e ∷ es) ++ s)))
append_cases [] s [] t h = inl (refl, h)
append_cases [] s (b ∷ bs) t h = inr (inl (b, bs, refl, h))
append_cases (a ∷ az) s [] t h = inr (inr (a, az, refl, sym h))
append_cases (a ∷ az) s (b ∷ bs) t h =
    let head : a ≡ b = cc in
    let tails : az ++ s ≡ bs ++ t = cc in
    elim (append_cases az s bs t tails) [
      | inl (e, f) ↦ inl (cc, f)
      | inr (inl (e, es, f, g)) ↦ inr (inl (e, es, cc, g))
      | inr (inr (e, es, f, g)) ↦ inr (inr (e, es, cc, g))
    ]

pub same_length : (a s b t : List ℕ) → length a ≡ length b → a ++ s ≡ b ++ t → a ≡ b
same_length a s b t n h = elim (append_cases a s b t h) [
  | inl (e, f) ↦ e
  | inr (inl (e, es, f, g)) ↦ absurd (omega (arith, ap length f, length-append a (e ∷ es)))
  | inr (inr (e, es, f, g)) ↦ absurd (omega (arith, ap length f, length-append b (e ∷ es)))
]

-- ---- leading on

module _ {X Y : Type 0} (P : ℕ → X → ℕ → List ℕ → Type 0) (Q : ℕ → Y → ℕ → List ℕ → Type 0) (base : ℕ) (w : List ℕ) (i : ℕ) (c : Dimension) (j : ℕ) (c' : Dimension) (f : Y → X) (T : List ℕ → Type 0) where
  -- what is to be shown of the bytes between, where the rest of the text satisfies T
  abbrev pub Comes : Type 0
  Comes = (d : ℕ) (x : X) (v r s : List ℕ) → Allows c d → P d x (base + i) v → T s → v ++ r ≡ between w i j ++ s
      → (y : Y) × (u : List ℕ) × (v ≡ between w i j ++ u) × (x ≡ f y) × Q d y (base + j) u × Allows c' d

  abbrev pub Goes : Type 0
  Goes = (d : ℕ) (y : Y) (r : List ℕ) → Allows c' d → Q d y (base + j) r → P d (f y) (base + i) (between w i j ++ r)

  pub leads_by : i ≤ j → j ≤ length w → ((d : ℕ) → Allows c' d → Allows c d) → Goes → Comes
      → ((k : ℕ) (c'' : Dimension) (y : Y) (s : List ℕ) → Spelt Q base w j c' k c'' y → T (between w j k ++ s))
      → ((n : ℕ) (s : List ℕ) → j ≤ n → n ≤ length w → T (between w j n ++ (next w n ∷ s)))
      → Leads P Q base w i c j c' f
  leads_by order within narrows goes comes words ends = record {
    spelt = λ k c'' y q.
        let joint : between w i k ≡ between w i j ++ between w j k = part-part w i j k order q.order q.within in
        let small : i ≤ k = omega (arith, q.order) in
        record {
          order = small;
          within = q.within;
          some = q.some;
          narrows = λ d a. narrows d (q.narrows d a);
          sound = λ d a. subst (P d (f y) (base + i)) (sym joint) (goes d y (between w j k) (q.narrows d a) (q.sound d a));
          only = λ d x v r s a p e.
              let split : v ++ r ≡ between w i j ++ (between w j k ++ s) = e ∙ (ap (λ z. z ++ s) joint ∙ append_assoc (between w i j) (between w j k) s) in
              let (y', u, ev, ex, q', a') = comes d x v r (between w j k ++ s) a p (words k c'' y s q) split in
              let rest : u ++ r ≡ between w j k ++ s = append_cancel_left (between w i j) (u ++ r) (between w j k ++ s) (sym (append_assoc (between w i j) u r) ∙ (ap (λ z. z ++ r) (sym ev) ∙ split)) in
              let (ey, eu, a'') = q.only d y' u r s a' q' rest in
              (ex ∙ ap f ey, ev ∙ (ap (λ z. between w i j ++ z) eu ∙ sym joint), a'');
        };
    stuck = λ n q.
        let joint : between w i n ≡ between w i j ++ between w j n = part-part w i j n order q.order q.within in
        let small : i ≤ n = omega (arith, q.order) in
        record {
          order = small;
          within = q.within;
          viable = (let (d, y, more, a, p) = q.viable in
              (d, f y, more, narrows d a, subst (P d (f y) (base + i)) (sym (ap (λ z. z ++ more) joint ∙ append_assoc (between w i j) (between w j n) more)) (goes d y (between w j n ++ more) a p)));
          dead = λ d x v r s a p e.
              let split : v ++ r ≡ between w i j ++ (between w j n ++ (next w n ∷ s)) = e ∙ (ap (λ z. z ++ (next w n ∷ s)) joint ∙ append_assoc (between w i j) (between w j n) (next w n ∷ s)) in
              let (y', u, ev, ex, q', a') = comes d x v r (between w j n ++ (next w n ∷ s)) a p (ends n s q.order q.within) split in
              let rest : u ++ r ≡ between w j n ++ (next w n ∷ s) = append_cancel_left (between w i j) (u ++ r) (between w j n ++ (next w n ∷ s)) (sym (append_assoc (between w i j) u r) ∙ (ap (λ z. z ++ r) (sym ev) ∙ split)) in
              q.dead d y' u r s a' q' rest;
        };
  }

abbrev pub Always : List ℕ → Type 0
Always s = Unit {0}

-- the words of a part begin with a byte that passes
abbrev pub Begins : {X : Type 0} → (ℕ → Bool) → (ℕ → X → ℕ → List ℕ → Type 0) → Type 0
Begins {X} test P = (d : ℕ) (x : X) (at : ℕ) (v : List ℕ) → P d x at v → (b : ℕ) × (t : List ℕ) × (v ≡ b ∷ t) × (test b ≡ true)

-- some word of the part, at each count of numbers and each offset
abbrev pub Inhabited : {X : Type 0} → (ℕ → X → ℕ → List ℕ → Type 0) → Type 0
Inhabited {X} P = (d : ℕ) (at : ℕ) → (2 ≤ d) × (d ≤ 4) → (x : X) × (v : List ℕ) × P d x at v

pub counts : (c : Dimension) (d : ℕ) → Allows c d → (2 ≤ d) × (d ≤ 4)
counts Open d h = h
counts (Fixed n) d (e, h, k) = (h, k)

module _ {X Y : Type 0} (P : ℕ → X → ℕ → List ℕ → Type 0) (Q : ℕ → Y → ℕ → List ℕ → Type 0) (base : ℕ) (w : List ℕ) (i : ℕ) (c : Dimension) (j : ℕ) (c' : Dimension) (f : Y → X) where
  -- with no look at the rest
  pub leads_plain : i ≤ j → j ≤ length w → ((d : ℕ) → Allows c' d → Allows c d)
      → Goes P Q base w i c j c' f Always → Comes P Q base w i c j c' f Always → Leads P Q base w i c j c' f
  leads_plain order within narrows goes comes = leads_by P Q base w i c j c' f Always order within narrows goes comes (λ k c'' y s q. tt) (λ n s h k. tt)

  -- with a look at the next byte, where words of Q have a byte
  pub leads_ahead : (test : ℕ → Bool) → Begins test Q → i ≤ j → j ≤ length w → ((d : ℕ) → Allows c' d → Allows c d)
      → Goes P Q base w i c j c' f (Ahead w j) → Comes P Q base w i c j c' f (Ahead w j) → Leads P Q base w i c j c' f
  leads_ahead test begins order within narrows goes comes = leads_by P Q base w i c j c' f (Ahead w j) order within narrows goes comes
      (λ k c'' y s q.
      let (d, a) = q.some in
      let (b, t, e, h) = begins d y (base + j) (between w j k) (q.sound d a) in
      let long : j < k = omega (arith, part-length w j k q.order q.within, ap length e) in
      (between w (j + 1) k ++ s, ap (λ z. z ++ s) (part-cons w j k long q.within)))
      (λ n s h k. ahead_stuck w j n s h k (same_or_less j n h))
