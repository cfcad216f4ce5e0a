-- Items with their delimiters, one behind another, in brackets.
-- For `read_line`, `read_geometry` and `Room::check_line`: lists in brackets, read on.
use Rattle.std.proofs.Common.{◌≡◌, ℕ, ◌+◌, ◌<◌, ◌≤◌, inl, inr, Bool, true, false, ◌==◌, List, [], ◌∷◌, ◌++◌, length, refl, sym, ◌∙◌, ap, subst, arith, append_assoc, true≢false, lit≤}
use Rattle.at_wkt.proofs.Names.{OneOrMore, ◌▸◌, Numeral, Dimension, Open, Fixed, Position, is_blank, SpellsNumber, SpellsFurther, SpellsPosition, between, next, allows, allows_more, Allows, Spelt, Stuck, SkipsBlanks, delimiter, Delimiter, FurtherNumbers, is_delimiter, Reaches}
use Rattle.at_text.specs.Parts.{At}
use Rattle.at_fixed.proofs.DigitParts.{part-none}
use Rattle.at_wkt.proofs.Leads.{part-more, Ahead, counts}
use Rattle.at_wkt.proofs.Steps.{Then, Same, AreBlanks, one_byte}
use Rattle.at_wkt.proofs.NumberSteps.{Number}
use Rattle.at_wkt.proofs.Lists.{four_left, four_right}
use Rattle.at_wkt.proofs.PositionSteps.{further_agrees, further_dead, delimiter_no_blank, delimiter_is}

-- ---- counts of numbers

pub allows_true : (c : Dimension) (d : ℕ) → Allows c d → allows c d ≡ true
allows_true Open d (low, high) = grind (arith, low, high)
allows_true (Fixed n) d (e, low, high) = grind (arith, e)

pub allows_by : (c : Dimension) (k : ℕ) → Reaches c k → 2 ≤ k → allows c k ≡ true → Allows c k
allows_by Open k (d, (low, high), h) two e = (two, omega (arith, high, h))
allows_by (Fixed n) k (d, (same, low, high), h) two e = let is : k ≡ n = grind (arith, e) in (is, two, omega (arith, high, h))

pub more_true : (c : Dimension) (k d : ℕ) → Allows c d → k < d → allows_more c k ≡ true
more_true Open k d (low, high) h = let less : k < 4 = omega (arith, high, h) in grind (arith, less)
more_true (Fixed n) k d (e, low, high) h = let less : k < n = omega (arith, e, h) in grind (arith, less)

pub more_by : (c : Dimension) (k : ℕ) → Reaches c k → allows_more c k ≡ true → Reaches c (k + 1)
more_by Open k (d, (low, high), h) e = let less : k < 4 = grind (arith, e) in (4, (lit≤ tt, lit≤ tt), omega (arith, less))
more_by (Fixed n) k (d, (same, low, high), h) e = let less : k < n = grind (arith, e) in (d, (same, low, high), omega (arith, less, same))

-- ---- delimiters

pub unlike : (a b : ℕ) → a ≡ b → (a == b) ≡ false → ⊥
unlike a b e h = grind (arith, e, h)

pub delimiter_same : (a b : Bool) → delimiter a ≡ delimiter b → a ≡ b
delimiter_same true false e = absurd (unlike 0x29 0x2C e refl)
delimiter_same false true e = absurd (unlike 0x2C 0x29 e refl)
delimiter_same _ _ e = refl

module _ (base : ℕ) (w : List ℕ) (j m : ℕ) (skips : SkipsBlanks w j m) where
  -- what a delimiter behind blanks agrees with
  delimiter_agrees : (last : Bool) (v x r s : List ℕ) → AreBlanks x → v ≡ x ++ (delimiter last ∷ []) → Ahead w m s → v ++ r ≡ between w j m ++ s
      → (x ≡ between w j m) × (delimiter last ≡ next w m)
  delimiter_agrees last v x r s hx ev (t, es) e =
      let line : x ++ (delimiter last ∷ r) ≡ between w j m ++ (next w m ∷ t) = sym (append_assoc x (delimiter last ∷ []) r) ∙ (ap (λ z. z ++ r) (sym ev) ∙ (e ∙ ap (λ z. between w j m ++ z) es)) in
      let (same, byte, rest) = one_byte x (between w j m) (delimiter last) (next w m) r t hx skips.blanks (delimiter_no_blank last) skips.stops line in
      (same, byte)

  module _ (last : Bool) (here : next w m ≡ delimiter last) (inside : m < length w) where
    past : between w j (m + 1) ≡ between w j m ++ (next w m ∷ [])
    past = part-more w j m skips.order inside

    pub delimiter_spelt : (c : Dimension) → (d : ℕ) × Allows c d → Spelt Delimiter base w j c (m + 1) c last
    delimiter_spelt c some = record {
      order = omega (arith, skips.order);
      within = omega arith;
      some = some;
      narrows = λ d a. a;
      sound = λ d a. (between w j m, next w m ∷ [], past, skips.blanks, ap (λ z. z ∷ []) here);
      only = λ d y v r s a (x, z, ev, hx, hz) e.
          let line : v ++ r ≡ between w j m ++ (next w m ∷ s) = e ∙ (ap (λ z. z ++ s) past ∙ append_assoc (between w j m) (next w m ∷ []) s) in
          let text : v ≡ x ++ (delimiter y ∷ []) = ev ∙ ap (λ u. x ++ u) hz in
          let (same, byte) = delimiter_agrees y v x r (next w m ∷ s) hx text (s, refl) line in
          (delimiter_same y last (byte ∙ here), text ∙ (ap (λ u. u ++ (delimiter y ∷ [])) same ∙ (ap (λ b. between w j m ++ (b ∷ [])) byte ∙ sym past)), a);
    }

    pub further_spelt : (c : Dimension) (k : ℕ) → Allows c k → Spelt (FurtherNumbers k) base w j c (m + 1) (Fixed k) last
    further_spelt c k ak = let (two, four) = counts c k ak in record {
      order = omega (arith, skips.order);
      within = omega arith;
      some = (k, (refl, two, four));
      narrows = λ d (e, low, high). subst (Allows c) (sym e) ak;
      sound = λ d (e, low, high). ([], omega (arith, e), ([], between w j (m + 1), refl, refl, (between w j m, next w m ∷ [], past, skips.blanks, ap (λ z. z ∷ []) here)));
      only = λ d y v r s a q e. only d y v r s a q (e ∙ (ap (λ z. z ++ s) past ∙ append_assoc (between w j m) (next w m ∷ []) s));
    } where
      only : (d : ℕ) (y : Bool) (v r s : List ℕ) → Allows c d → FurtherNumbers k d y (base + j) v → v ++ r ≡ between w j m ++ (next w m ∷ s)
          → (y ≡ last) × (v ≡ between w j (m + 1)) × Allows (Fixed k) d
      only d y v r s a ([], en, (p, q, ep, none, (x, z, ez, hx, hz))) e =
          let text : v ≡ x ++ (delimiter y ∷ []) = ep ∙ (ap (λ u. u ++ q) none ∙ (ez ∙ ap (λ u. x ++ u) hz)) in
          let (same, byte) = delimiter_agrees y v x r (next w m ∷ s) hx text (s, refl) e in
          let (low, high) = counts c d a in
          let is : d ≡ k = omega (arith, en) in
          (delimiter_same y last (byte ∙ here), text ∙ (ap (λ u. u ++ (delimiter y ∷ [])) same ∙ (ap (λ b. between w j m ++ (b ∷ [])) byte ∙ sym past)), (is, low, high))
      only d y v r s a (n ∷ ns, en, q) e = absurd (elim (further_agrees base w j m c k skips d y (base + j) v r (next w m ∷ s) (n ∷ ns, en, q) (s, refl) e) [
        | inl (h, f) ↦ omega (arith, en)
        | inr (h, less, some) ↦ true≢false (sym (delimiter_is last) ∙ (ap is_delimiter (sym here) ∙ h))
      ])

  pub delimiter_stuck : (c : Dimension) → (d : ℕ) × Allows c d → is_delimiter (next w m) ≡ false → Stuck Delimiter base w j c m
  delimiter_stuck c (d0, a0) none = record {
    order = skips.order;
    within = skips.within;
    viable = (d0, true, 0x29 ∷ [], a0, (between w j m, 0x29 ∷ [], refl, skips.blanks, refl));
    dead = λ d y v r s a (x, z, ev, hx, hz) e.
        let text : v ≡ x ++ (delimiter y ∷ []) = ev ∙ ap (λ u. x ++ u) hz in
        let (same, byte) = delimiter_agrees y v x r (next w m ∷ s) hx text (s, refl) e in
        true≢false (sym (delimiter_is y) ∙ (ap is_delimiter byte ∙ none));
  }

-- ---- the ways in which further numbers are refused

module _ (base : ℕ) (w : List ℕ) (j m : ℕ) (c : Dimension) (k : ℕ) (skips : SkipsBlanks w j m) (reaches : Reaches c k) where
  pub further_few : is_delimiter (next w m) ≡ true → allows c k ≡ false → Stuck (FurtherNumbers k) base w j c m
  further_few yes_ no_ = further_dead base w j m c k skips reaches (λ d a f. elim f [
    | inl (h, e) ↦ true≢false (sym (allows_true c d a) ∙ (ap (allows c) (sym e) ∙ no_))
    | inr (h, less, some) ↦ true≢false (sym yes_ ∙ h)
  ])

  pub further_joined : is_delimiter (next w m) ≡ false → m ≡ j → Stuck (FurtherNumbers k) base w j c m
  further_joined none e = further_dead base w j m c k skips reaches (λ d a f. elim f [
    | inl (h, g) ↦ true≢false (sym h ∙ none)
    | inr (h, less, some) ↦ some (ap (between w j) e ∙ part-none w j (omega (arith, skips.within, e)))
  ])

  pub further_many : is_delimiter (next w m) ≡ false → allows_more c k ≡ false → Stuck (FurtherNumbers k) base w j c m
  further_many none no_ = further_dead base w j m c k skips reaches (λ d a f. elim f [
    | inl (h, g) ↦ true≢false (sym h ∙ none)
    | inr (h, less, some) ↦ true≢false (sym (more_true c k d a less) ∙ no_)
  ])

-- ---- positions

abbrev pub Gap : {Y : Type 0} → (ℕ → Y → ℕ → List ℕ → Type 0) → ℕ → Y → ℕ → List ℕ → Type 0
Gap Q d y = OneOrMore is_blank ▸ Q d y

abbrev pub SecondNumber : ℕ → (Numeral × ℕ) × Bool → ℕ → List ℕ → Type 0
SecondNumber = Then Number (λ q. FurtherNumbers 2)

abbrev pub TwoNumbers : ℕ → (Numeral × ℕ) × ((Numeral × ℕ) × Bool) → ℕ → List ℕ → Type 0
TwoNumbers = Then Number (λ p. Gap SecondNumber)

abbrev pub position_of : (Numeral × ℕ) × ((Numeral × ℕ) × Bool) → Position × Bool
position_of p = (record { x = p.0.0; x_at = p.0.1; y = p.1.0.0; y_at = p.1.0.1 }, p.1.1)

abbrev pub EndedPosition : ℕ → Position × Bool → ℕ → List ℕ → Type 0
EndedPosition = Then SpellsPosition (λ p. Delimiter)

pub position_same : Same EndedPosition TwoNumbers (λ at p. position_of p)
position_same = record {
  to = λ d p at v (v1, r1, e1, hx, (b, r2, e2, hb, (v2, r3, e3, hy, (ns, en, hf)))).
      let (a, z, e, s, t) = four_left (At p.0.1 (SpellsNumber p.0.0)) (OneOrMore is_blank) (At p.1.0.1 (SpellsNumber p.1.0.0)) (SpellsFurther ns) (Delimiter d p.1.1) at v (v1, r1, e1, hx, (b, r2, e2, hb, (v2, r3, e3, hy, hf))) in
      (a, z, e, (ns, en, s), t);
  from = λ d q at v (a, z, e, (ns, en, s), t).
      let p = q.0 in
      let (v1, r1, e1, hx, (b, r2, e2, hb, (v2, r3, e3, hy, hf))) = four_right (At p.x_at (SpellsNumber p.x)) (OneOrMore is_blank) (At p.y_at (SpellsNumber p.y)) (SpellsFurther ns) (Delimiter d q.1) at v (a, z, e, s, t) in
      (((p.x, p.x_at), ((p.y, p.y_at), q.1)), refl, (v1, r1, e1, hx, (b, r2, e2, hb, (v2, r3, e3, hy, (ns, en, hf)))));
}
