-- What leads on to what: blanks, words, numbers, parts behind one another, and parts told in another way.
-- For `read_line`, `read_geometry` and `Room::check_line`: the steps that all other lemmas take.
use Rattle.std.proofs.Common.{◌≡◌, ℕ, ◌+◌, ◌<◌, ◌≤◌, ◌⊎◌, inl, inr, Bool, true, false, not, IsTrue, List, [], ◌∷◌, ◌++◌, length, refl, sym, ◌∙◌, ap, subst, arith, append_assoc, true≢false}
use Rattle.std.specs.List.{AllByRecursion}
use Rattle.std.proofs.lemmas.Bool.{not-true}
use Rattle.std.proofs.lemmas.List.{append_cancel_left}
use Rattle.at_wkt.proofs.Names.{Many, OneOrMore, ◌▸◌, Dimension, is_blank, between, next, Allows, Spelt, Stuck, Leads}
use Rattle.at_fixed.proofs.DigitParts.{part-none}
use Rattle.at_wkt.proofs.Leads.{offset, Ahead, Begins, Inhabited, same_length, leads_plain, leads_ahead, counts}
use Rattle.at_wkt.proofs.Agreement.{one_front}

pub trans_leads : {X Y Z : Type 0} {P : ℕ → X → ℕ → List ℕ → Type 0} {Q : ℕ → Y → ℕ → List ℕ → Type 0} {R : ℕ → Z → ℕ → List ℕ → Type 0} {base : ℕ} {w : List ℕ}
    {i j k : ℕ} {c c' c'' : Dimension} {f : Y → X} {g : Z → Y} → Leads P Q base w i c j c' f → Leads Q R base w j c' k c'' g → Leads P R base w i c k c'' (λ z. f (g z))
trans_leads {g = g} a b = record {
  spelt = λ k c'' z q. a.spelt k c'' (g z) (b.spelt k c'' z q);
  stuck = λ n q. a.stuck n (b.stuck n q);
}

-- ---- a part of one length

module _ {Y : Type 0} (E : ℕ → List ℕ → Type 0) (Q : ℕ → Y → ℕ → List ℕ → Type 0) (base : ℕ) (w : List ℕ) (i : ℕ) (c : Dimension) (j : ℕ) where
  pub fixed_leads : i ≤ j → j ≤ length w → E (base + i) (between w i j) → ((v : List ℕ) → E (base + i) v → length v ≡ length (between w i j))
      → Leads (λ d y. E ▸ Q d y) Q base w i c j c (λ y. y)
  fixed_leads order within here long = leads_plain (λ d y. E ▸ Q d y) Q base w i c j c (λ y. y) order within (λ d a. a)
      (λ d y r a q. (between w i j, r, refl, here, subst (λ o. Q d y o r) (sym (offset base w i j order within)) q))
      (λ d y v r s a (v1, v2, ev, p, q) t e.
      let same : v1 ≡ between w i j = same_length v1 (v2 ++ r) (between w i j) s (long v1 p) (sym (append_assoc v1 v2 r) ∙ (ap (λ z. z ++ r) (sym ev) ∙ e)) in
      let place : (base + i) + length v1 ≡ base + j = ap (λ z. (base + i) + length z) same ∙ offset base w i j order within in
      (y, v2, ev ∙ ap (λ z. z ++ v2) same, refl, subst (λ o. Q d y o v2) place q, a))

-- ---- blanks

abbrev pub no_blank : ℕ → Bool
no_blank b = not (is_blank b)

abbrev pub AreBlanks : List ℕ → Type 0
AreBlanks w = AllByRecursion (λ b. IsTrue (is_blank b)) w

pub not_blank : (b : ℕ) → no_blank b ≡ true → is_blank b ≡ true → ⊥
not_blank b h k = true≢false (sym k ∙ not-true (is_blank b) h)

pub one_blanks : (a u : List ℕ) (b h : ℕ) (x y : List ℕ) → AreBlanks a → AreBlanks u → no_blank b ≡ true → no_blank h ≡ true → a ++ (b ∷ x) ≡ u ++ (h ∷ y) → a ≡ u
one_blanks a u b h x y ha hu nb nh e = one_front is_blank a u b h x y ha hu (not-true (is_blank b) nb) (not-true (is_blank h) nh) e

-- and the bytes behind them are the same
pub one_byte : (a u : List ℕ) (b h : ℕ) (x y : List ℕ) → AreBlanks a → AreBlanks u → no_blank b ≡ true → no_blank h ≡ true → a ++ (b ∷ x) ≡ u ++ (h ∷ y) → (a ≡ u) × (b ≡ h) × (x ≡ y)
one_byte a u b h x y ha hu nb nh e =
    let same = one_blanks a u b h x y ha hu nb nh e in
    let rest : b ∷ x ≡ h ∷ y = append_cancel_left u _ _ (ap (λ z. z ++ (b ∷ x)) (sym same) ∙ e) in
    (same, cc, cc)

module _ {Y : Type 0} (Q : ℕ → Y → ℕ → List ℕ → Type 0) (base : ℕ) (w : List ℕ) (i : ℕ) (c : Dimension) (j : ℕ) where
  same_blanks : AreBlanks (between w i j) → Begins no_blank Q → no_blank (next w j) ≡ true
      → (d : ℕ) (y : Y) (v1 v2 r s : List ℕ) (at : ℕ) → AreBlanks v1 → Q d y at v2 → Ahead w j s → v1 ++ (v2 ++ r) ≡ between w i j ++ s → v1 ≡ between w i j
  same_blanks blanks begins stops d y v1 v2 r s at hv q (t, es) e =
      let (b, x, eb, nb) = begins d y at v2 q in
      one_blanks v1 (between w i j) b (next w j) (x ++ r) t hv blanks nb stops (ap (λ z. v1 ++ (z ++ r)) (sym eb) ∙ (e ∙ ap (λ z. between w i j ++ z) es))

  pub pad_leads : i ≤ j → j ≤ length w → AreBlanks (between w i j) → no_blank (next w j) ≡ true → Begins no_blank Q
      → Leads (λ d y. Many is_blank ▸ Q d y) Q base w i c j c (λ y. y)
  pad_leads order within blanks stops begins = leads_ahead (λ d y. Many is_blank ▸ Q d y) Q base w i c j c (λ y. y) no_blank begins order within (λ d a. a)
      (λ d y r a q. (between w i j, r, refl, blanks, subst (λ o. Q d y o r) (sym (offset base w i j order within)) q))
      (λ d y v r s a (v1, v2, ev, p, q) t e.
      let same : v1 ≡ between w i j = same_blanks blanks begins stops d y v1 v2 r s ((base + i) + length v1) p q t (sym (append_assoc v1 v2 r) ∙ (ap (λ z. z ++ r) (sym ev) ∙ e)) in
      let place : (base + i) + length v1 ≡ base + j = ap (λ z. (base + i) + length z) same ∙ offset base w i j order within in
      (y, v2, ev ∙ ap (λ z. z ++ v2) same, refl, subst (λ o. Q d y o v2) place q, a))

  pub gap_leads : i < j → j ≤ length w → AreBlanks (between w i j) → no_blank (next w j) ≡ true → Begins no_blank Q
      → Leads (λ d y. OneOrMore is_blank ▸ Q d y) Q base w i c j c (λ y. y)
  gap_leads order within blanks stops begins =
      let low : i ≤ j = omega arith in
      leads_ahead (λ d y. OneOrMore is_blank ▸ Q d y) Q base w i c j c (λ y. y) no_blank begins low within (λ d a. a)
      (λ d y r a q. (between w i j, r, refl, ((λ none. absurd (omega (arith, offset base w i j low within, ap length none))), blanks), subst (λ o. Q d y o r) (sym (offset base w i j low within)) q))
      (λ d y v r s a (v1, v2, ev, p, q) t e.
      let same : v1 ≡ between w i j = same_blanks blanks begins stops d y v1 v2 r s ((base + i) + length v1) p.1 q t (sym (append_assoc v1 v2 r) ∙ (ap (λ z. z ++ r) (sym ev) ∙ e)) in
      let place : (base + i) + length v1 ≡ base + j = ap (λ z. (base + i) + length z) same ∙ offset base w i j low within in
      (y, v2, ev ∙ ap (λ z. z ++ v2) same, refl, subst (λ o. Q d y o v2) place q, a))

-- ---- a part, and behind it another that may depend on its value

abbrev pub Then : {X Y : Type 0} → (ℕ → X → ℕ → List ℕ → Type 0) → (X → ℕ → Y → ℕ → List ℕ → Type 0) → ℕ → X × Y → ℕ → List ℕ → Type 0
Then P Q d p = P d p.0 ▸ Q p.0 d p.1

module _ {X Y : Type 0} (P : ℕ → X → ℕ → List ℕ → Type 0) (Q : X → ℕ → Y → ℕ → List ℕ → Type 0) (base : ℕ) (w : List ℕ) (i : ℕ) (c : Dimension) (j : ℕ) (c' : Dimension) (x : X) where
  pub then_leads : Spelt P base w i c j c' x → Leads (Then P Q) (Q x) base w i c j c' (λ y. (x, y))
  then_leads h = leads_plain (Then P Q) (Q x) base w i c j c' (λ y. (x, y)) h.order h.within h.narrows
      (λ d y r a q. (between w i j, r, refl, h.sound d a, subst (λ o. Q x d y o r) (sym (offset base w i j h.order h.within)) q))
      (λ d p v r s a (v1, v2, ev, p1, q) t e.
      let (ex, same, a') = h.only d p.0 v1 (v2 ++ r) s a p1 (sym (append_assoc v1 v2 r) ∙ (ap (λ z. z ++ r) (sym ev) ∙ e)) in
      let place : (base + i) + length v1 ≡ base + j = ap (λ z. (base + i) + length z) same ∙ offset base w i j h.order h.within in
      (p.1, v2, ev ∙ ap (λ z. z ++ v2) same, ap (λ z. (z, p.1)) ex, subst (λ o. Q x d p.1 o v2) place (subst (λ z. Q z d p.1 ((base + i) + length v1) v2) ex q), a'))

pub then_stuck : {X Y : Type 0} (P : ℕ → X → ℕ → List ℕ → Type 0) (Q : X → ℕ → Y → ℕ → List ℕ → Type 0) (base : ℕ) (w : List ℕ) (i : ℕ) (c : Dimension) (n : ℕ)
    → ((x : X) → Inhabited (Q x)) → Stuck P base w i c n → Stuck (Then P Q) base w i c n
then_stuck P Q base w i c n lives h = record {
  order = h.order;
  within = h.within;
  viable = (let (d, x, more, a, p) = h.viable in
      let (y, u, q) = lives x d ((base + i) + length (between w i n ++ more)) (counts c d a) in
      (d, (x, y), more ++ u, a, (between w i n ++ more, u, sym (append_assoc (between w i n) more u), p, q)));
  dead = λ d p v r s a (v1, v2, ev, p1, q) e. h.dead d p.0 v1 (v2 ++ r) s a p1 (sym (append_assoc v1 v2 r) ∙ (ap (λ z. z ++ r) (sym ev) ∙ e));
}

-- ---- a part told in another way

-- the words of P that begin with a byte that passes are those of Q, with other values
pub record When {X Y : Type 0} (P : ℕ → X → ℕ → List ℕ → Type 0) (Q : ℕ → Y → ℕ → List ℕ → Type 0) (f : ℕ → Y → X) (test : ℕ → Bool) : Type 0 where
  pub to : (d : ℕ) (y : Y) (at : ℕ) (v : List ℕ) → Q d y at v → P d (f at y) at v
  pub from : (d : ℕ) (x : X) (at : ℕ) (v : List ℕ) → P d x at v → ((y : Y) × (x ≡ f at y) × Q d y at v) ⊎ ((b : ℕ) × (t : List ℕ) × (v ≡ b ∷ t) × (test b ≡ false))

pub when_leads : {X Y : Type 0} (P : ℕ → X → ℕ → List ℕ → Type 0) (Q : ℕ → Y → ℕ → List ℕ → Type 0) (f : ℕ → Y → X) (test some : ℕ → Bool) (base : ℕ) (w : List ℕ) (i : ℕ) (c : Dimension)
    → When P Q f test → Begins some Q → i ≤ length w → test (next w i) ≡ true → Leads P Q base w i c i c (f (base + i))
when_leads {X} {Y} P Q f test some base w i c h begins within here =
    let none : between w i i ≡ [] = part-none w i within in
    leads_ahead P Q base w i c i c (f (base + i)) some begins (omega arith) within (λ d a. a)
    (λ d y r a q. subst (P d (f (base + i) y) (base + i)) (ap (λ z. z ++ r) (sym none)) (h.to d y (base + i) r q))
    (λ d x v r s a p (t, es) e.
    elim (h.from d x (base + i) v p) [
      | inl (y, ex, q) ↦ (y, v, ap (λ z. z ++ v) (sym none), ex, q, a)
      | inr (b, u, ev, fails) ↦ absurd (
          let line : (b ∷ u) ++ r ≡ next w i ∷ t = ap (λ z. z ++ r) (sym ev) ∙ (e ∙ (ap (λ z. z ++ s) none ∙ es)) in
          let first : b ≡ next w i = cc in
          true≢false (sym here ∙ (ap test (sym first) ∙ fails)))
    ])

-- the words of P are those of Q, with other values
pub record Same {X Y : Type 0} (P : ℕ → X → ℕ → List ℕ → Type 0) (Q : ℕ → Y → ℕ → List ℕ → Type 0) (f : ℕ → Y → X) : Type 0 where
  pub to : (d : ℕ) (y : Y) (at : ℕ) (v : List ℕ) → Q d y at v → P d (f at y) at v
  pub from : (d : ℕ) (x : X) (at : ℕ) (v : List ℕ) → P d x at v → (y : Y) × (x ≡ f at y) × Q d y at v

pub same_leads : {X Y : Type 0} (P : ℕ → X → ℕ → List ℕ → Type 0) (Q : ℕ → Y → ℕ → List ℕ → Type 0) (f : ℕ → Y → X) (base : ℕ) (w : List ℕ) (i : ℕ) (c : Dimension)
    → Same P Q f → i ≤ length w → Leads P Q base w i c i c (f (base + i))
same_leads {X} {Y} P Q f base w i c h within =
    let none : between w i i ≡ [] = part-none w i within in
    leads_plain P Q base w i c i c (f (base + i)) (omega arith) within (λ d a. a)
    (λ d y r a q. subst (P d (f (base + i) y) (base + i)) (ap (λ z. z ++ r) (sym none)) (h.to d y (base + i) r q))
    (λ d x v r s a p t e. let (y, ex, q) = h.from d x (base + i) v p in (y, v, ap (λ z. z ++ v) (sym none), ex, q, a))

-- ---- no word begins here

pub stuck_first : {X : Type 0} (P : ℕ → X → ℕ → List ℕ → Type 0) (test : ℕ → Bool) (base : ℕ) (w : List ℕ) (i : ℕ) (c : Dimension)
    → Begins test P → Inhabited P → (d : ℕ) → Allows c d → i ≤ length w → test (next w i) ≡ false → Stuck P base w i c i
stuck_first P test base w i c begins lives d0 a0 within fails =
    let none : between w i i ≡ [] = part-none w i within in
    record {
      order = omega arith;
      within = within;
      viable = (let (x, v, p) = lives d0 (base + i) (counts c d0 a0) in (d0, x, v, a0, subst (P d0 x (base + i)) (ap (λ z. z ++ v) (sym none)) p));
      dead = λ d x v r s a p e.
          let (b, u, ev, passes) = begins d x (base + i) v p in
          let line : (b ∷ u) ++ r ≡ next w i ∷ s = ap (λ z. z ++ r) (sym ev) ∙ (e ∙ ap (λ z. z ++ (next w i ∷ s)) none) in
          let first : b ≡ next w i = cc in
          true≢false (sym passes ∙ (ap test first ∙ fails));
    }

-- nothing is left to be spelled
abbrev pub Over : {X : Type 0} → X → ℕ → X → ℕ → List ℕ → Type 0
Over x d y at w = (y ≡ x) × (w ≡ [])

pub spelt_over : {X : Type 0} (x : X) (base : ℕ) (w : List ℕ) (j : ℕ) (c : Dimension) → j ≤ length w → (d : ℕ) × Allows c d → Spelt (Over x) base w j c j c x
spelt_over x base w j c h some = record {
  order = omega arith;
  within = h;
  some = some;
  narrows = λ d a. a;
  sound = λ d a. (refl, part-none w j h);
  only = λ d y v r s a (e, n) f. (e, n ∙ sym (part-none w j h), a);
}
