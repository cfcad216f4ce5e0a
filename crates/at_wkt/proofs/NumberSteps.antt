-- Numbers in a text: a number stands as far as the longest beginning of one, where a byte that no number has stands behind it.
-- For `read_line`, `read_geometry` and `Room::check_line`: each number.
use Rattle.std.proofs.Common.{◌≡◌, ℕ, ◌+◌, ◌-◌, ◌≤◌, inl, inr, Bool, true, false, not, ◌||◌, IsTrue, List, [], ◌∷◌, ◌++◌, length, take, drop, Option, Some, None, IfSome, is_some, Result, ℤ, refl, sym, ◌∙◌, ap, subst, arith, append_assoc, length-drop, true≢false}
use native.Mathlib.Decide.{dec_lt}
use Rattle.std.specs.List.{AllByRecursion}
use Rattle.std.proofs.ByRecursion.{All-append}
use Rattle.std.proofs.lemmas.Bool.{not-true}
use Rattle.std.proofs.lemmas.List.{drop-take, get_or_past, take_rest}
use Rattle.std.proofs.lemmas.Option.{none-some, same_Some}
use Rattle.at_wkt.proofs.Names.{is_digit, is_one_of, Coords, FixedFault, Numeral, fraction_text, exponent_text, numeral_text, IsAtMostOneOf, AreWktDigits, IsWktNumeral, WktNumber, Dimension, SpellsNumber, between, next, Allows, Stuck, Leads, NumberStands, NumberBreaks, NumberSkips}
use Rattle.at_text.specs.Prefix.{LongestViable, TakesLongest}
use Rattle.at_fixed.specs.declared.notation.Notation.TheVariants.{Wkt}
use Rattle.at_fixed.specs.Fixed.{fixed_of, IsFixedOf}
use Rattle.at_text.specs.Parts.{At}
use Rattle.at_fixed.specs.Numerals.{Exponent, AreDigits, AreSomeDigits, IsExponent, NumberOf, SpellsNumeral}
use Rattle.at_wkt.proofs.Leads.{part-more, offset, Ahead, Begins, Inhabited, append_cases, leads_ahead, counts}
use Rattle.at_wkt.proofs.Agreement.{byte_passes}
use Rattle.at_wkt.proofs.Steps.{Then}

-- the bytes that numbers have
abbrev pub in_number : ℕ → Bool
in_number b = is_digit b || is_one_of (0x2B ∷ 0x2D ∷ 0x2E ∷ 0x65 ∷ 0x45 ∷ []) b

abbrev pub AreNumberBytes : List ℕ → Type 0
AreNumberBytes w = AllByRecursion (λ b. IsTrue (in_number b)) w

both_parts : (a b : List ℕ) → AreNumberBytes a → AreNumberBytes b → AreNumberBytes (a ++ b)
both_parts = All-append (λ b. IsTrue (in_number b))

digit_byte : (b : ℕ) → is_digit b ≡ true → in_number b ≡ true
digit_byte b h = grind (arith, h)

sign_byte : (b : ℕ) → is_one_of (0x2B ∷ 0x2D ∷ []) b ≡ true → in_number b ≡ true
sign_byte b h = grind (arith, h)

letter_byte : (b : ℕ) → is_one_of (0x65 ∷ 0x45 ∷ []) b ≡ true → in_number b ≡ true
letter_byte b h = grind (arith, h)

digit_bytes : (w : List ℕ) → AreDigits w → AreNumberBytes w
digit_bytes [] h = tt
digit_bytes (b ∷ w) (h, hs) = (digit_byte b h, digit_bytes w hs)

some_digit_bytes : (w : List ℕ) → AreSomeDigits w → AreNumberBytes w
some_digit_bytes [] h = absurd h
some_digit_bytes (b ∷ w) (h, hs) = (digit_byte b h, digit_bytes w hs)

sign_bytes : (w : List ℕ) → IsAtMostOneOf (0x2B ∷ 0x2D ∷ []) w → AreNumberBytes w
sign_bytes [] h = tt
sign_bytes (b ∷ []) h = (sign_byte b h, tt)
sign_bytes (b ∷ c ∷ w) h = absurd h

exponent_bytes : (e : Option Exponent) → IfSome e IsExponent → AreNumberBytes (exponent_text e)
exponent_bytes None h = tt
exponent_bytes (Some e) h = (letter_byte e.letter h.letter, both_parts e.sign e.digits (sign_bytes e.sign h.sign) (some_digit_bytes e.digits h.digits))

front_bytes : (w : List ℕ) (f : Option (List ℕ)) → AreWktDigits w f → AreNumberBytes w × AreNumberBytes (fraction_text f)
front_bytes [] None h = absurd h
front_bytes [] (Some f) h = (tt, (refl, some_digit_bytes f h))
front_bytes (b ∷ w) None (h, k) = (digit_bytes (b ∷ w) h, tt)
front_bytes (b ∷ w) (Some f) (h, k) = (digit_bytes (b ∷ w) h, (refl, digit_bytes f k))

pub number_bytes : (n : Numeral) → IsWktNumeral n → AreNumberBytes (numeral_text n)
number_bytes n h = let (whole, fraction) = front_bytes n.whole n.fraction h.digits in
    both_parts n.sign _ (sign_bytes n.sign h.sign) (both_parts n.whole _ whole (both_parts (fraction_text n.fraction) _ fraction (exponent_bytes n.exponent h.exponent)))

-- the bytes of the rest up to a place
pub rest_part : (w : List ℕ) (i n : ℕ) → take n (drop i w) ≡ between w i (i + n)
rest_part w i n = sym (drop-take i n w)

pub rest_to : (w : List ℕ) (i j : ℕ) → i ≤ j → take (j - i) (drop i w) ≡ between w i j
rest_to w i j h = rest_part w i (j - i) ∙ ap (between w i) (omega arith)

rest_beyond : (w : List ℕ) (i j : ℕ) → i ≤ j → take (j - i + 1) (drop i w) ≡ between w i (j + 1)
rest_beyond w i j h = rest_part w i (j - i + 1) ∙ ap (between w i) (omega arith)

-- the longest beginning of a number up to a place: it is one, and nothing longer is
pub front_viable : (w : List ℕ) (i j : ℕ) → i ≤ j → LongestViable WktNumber (drop i w) (j - i) → (more : List ℕ) × WktNumber (between w i j ++ more)
front_viable w i j h l = let (more, word) = l.front in (more, subst (λ z. WktNumber (z ++ more)) (rest_to w i j h) word)

end_no_byte : (b : ℕ) → b ≡ 256 → in_number b ≡ true → ⊥
end_no_byte b e h = let no : in_number 256 ≡ true = ap in_number (sym e) ∙ h in true≢false (sym no)

pub next_end : (w : List ℕ) (j : ℕ) → length w ≤ j → next w j ≡ 256
next_end w j h = get_or_past w j 256 h

nothing_beyond : (w : List ℕ) (i j : ℕ) (es : List ℕ) → i ≤ j → j ≤ length w → LongestViable WktNumber (drop i w) (j - i) → WktNumber (between w i j ++ (next w j ∷ es)) → ⊥
nothing_beyond w i j es h k l (n, hn, en) = elim (dec_lt j (length w)) [
  | yes below ↦ l.longest (omega (arith, length-drop i w)) (es, (n, hn, ap (λ z. z ++ es) (rest_beyond w i j h ∙ part-more w i j h below) ∙ (append_assoc (between w i j) (next w j ∷ []) es ∙ en)))
  | no past ↦ end_no_byte (next w j) (next_end w j (omega arith)) (byte_passes in_number (between w i j) (next w j) es (subst AreNumberBytes (sym en) (number_bytes n hn)))
]

-- a number that agrees with the text, where a byte that no number has follows it, stands up to the place
pub number_ends : (w : List ℕ) (i j : ℕ) → i ≤ j → j ≤ length w → LongestViable WktNumber (drop i w) (j - i)
    → (v : List ℕ) (b : ℕ) (x s : List ℕ) → WktNumber v → in_number b ≡ false → Ahead w j s → v ++ (b ∷ x) ≡ between w i j ++ s → v ≡ between w i j
number_ends w i j h k l v b x s word stops (t, es) e =
    elim (append_cases v (b ∷ x) (between w i j) s e) [
      | inl (same, rest) ↦ same
      | inr (inl (m, ms, f, g)) ↦ absurd (
          let (more, (n, hn, en)) = front_viable w i j h l in
          let first : b ≡ m = cc in
          let line : v ++ (m ∷ (ms ++ more)) ≡ numeral_text n = sym (append_assoc v (m ∷ ms) more) ∙ (ap (λ z. z ++ more) (sym f) ∙ en) in
          true≢false (sym (byte_passes in_number v m (ms ++ more) (subst AreNumberBytes (sym line) (number_bytes n hn))) ∙ (ap in_number (sym first) ∙ stops)))
      | inr (inr (m, ms, f, g)) ↦ absurd (
          let line : m ∷ (ms ++ (b ∷ x)) ≡ next w j ∷ t = sym g ∙ es in
          let first : m ≡ next w j = cc in
          nothing_beyond w i j ms h k l (subst WktNumber (f ∙ ap (λ z. between w i j ++ (z ∷ ms)) first) word))
    ]

-- a number with its offset
abbrev pub Number : ℕ → Numeral × ℕ → ℕ → List ℕ → Type 0
Number d p = At p.1 (SpellsNumber p.0)

abbrev pub stops_number : ℕ → Bool
stops_number b = not (in_number b)

module _ {Y : Type 0} (Q : ℕ → Y → ℕ → List ℕ → Type 0) (begins : Begins stops_number Q) (base : ℕ) (w : List ℕ) (i : ℕ) (c : Dimension) (j : ℕ) where
  pub ends_there : i ≤ j → j ≤ length w → LongestViable WktNumber (drop i w) (j - i) → (d : ℕ) (y : Y) (v u r s : List ℕ) (at : ℕ)
      → WktNumber v → Q d y at u → Ahead w j s → v ++ (u ++ r) ≡ between w i j ++ s → v ≡ between w i j
  ends_there h k l d y v u r s at word q ahead e =
      let (b, x, eu, stops) = begins d y at u q in
      number_ends w i j h k l v b (x ++ r) s word (not-true (in_number b) stops) ahead (ap (λ z. v ++ (z ++ r)) (sym eu) ∙ e)

  pub number_leads : (n : Numeral) → NumberStands w i j n → Leads (Then Number (λ p. Q)) Q base w i c j c (λ y. ((n, base + i), y))
  number_leads n h = leads_ahead (Then Number (λ p. Q)) Q base w i c j c (λ y. ((n, base + i), y)) stops_number begins h.order h.within (λ d a. a)
      (λ d y r a q. (between w i j, r, refl, (refl, (h.numeral, h.text)), subst (λ o. Q d y o r) (sym (offset base w i j h.order h.within)) q))
      (λ d p v r s a (v1, v2, ev, (ei, (hm, em)), q) t e.
      let line : v1 ++ (v2 ++ r) ≡ between w i j ++ s = sym (append_assoc v1 v2 r) ∙ (ap (λ z. z ++ r) (sym ev) ∙ e) in
      let same : v1 ≡ between w i j = ends_there h.order h.within h.longest d p.1 v1 v2 r s ((base + i) + length v1) (p.0.0, hm, em) q t line in
      let en : p.0.0 ≡ n = h.only p.0.0 hm (sym same ∙ em) in
      let place : (base + i) + length v1 ≡ base + j = ap (λ z. (base + i) + length z) same ∙ offset base w i j h.order h.within in
      (p.1, v2, ev ∙ ap (λ z. z ++ v2) same, ap (λ z. ((z, p.0.1), p.1)) en ∙ ap (λ z. ((n, z), p.1)) ei, subst (λ o. Q d p.1 o v2) place q, a))

  pub number_stuck : Inhabited Q → (d : ℕ) → Allows c d → NumberBreaks w i j → Stuck (Then Number (λ p. Q)) base w i c j
  number_stuck lives d0 a0 h = record {
    order = h.order;
    within = h.within;
    viable = (let (more, (n, hn, en)) = front_viable w i j h.order h.longest in
        let (y, u, q) = lives d0 ((base + i) + length (between w i j ++ more)) (counts c d0 a0) in
        (d0, ((n, base + i), y), more ++ u, a0, (between w i j ++ more, u, sym (append_assoc (between w i j) more u), (refl, (hn, en)), q)));
    dead = λ d p v r s a (v1, v2, ev, (ei, (hm, em)), q) e.
        let line : v1 ++ (v2 ++ r) ≡ between w i j ++ (next w j ∷ s) = sym (append_assoc v1 v2 r) ∙ (ap (λ z. z ++ r) (sym ev) ∙ e) in
        let same : v1 ≡ between w i j = ends_there h.order h.within h.longest d p.1 v1 v2 r (next w j ∷ s) ((base + i) + length v1) (p.0.0, hm, em) q (s, refl) line in
        h.no_number (p.0.0, hm, sym same ∙ em);
  }

-- ---- what a scan of the rest of the text tells

module _ (w : List ℕ) (at len : ℕ) (inside : at ≤ length w) where
  rest_longest : LongestViable WktNumber (take (length w - at) (drop at w)) len → LongestViable WktNumber (drop at w) (at + len - at)
  rest_longest h = subst (λ n. LongestViable WktNumber (drop at w) n) (let same : len ≡ at + len - at = omega arith in same) (subst (λ z. LongestViable WktNumber z len) (take_rest w at) h)

  rest_fits : LongestViable WktNumber (take (length w - at) (drop at w)) len → at + len ≤ length w
  rest_fits h = omega (arith, h.fits, ap length (take_rest w at), length-drop at w)

  rest_word : take len (take (length w - at) (drop at w)) ≡ between w at (at + len)
  rest_word = ap (take len) (take_rest w at) ∙ rest_part w at len

  module _ (whole : Bool) (h : TakesLongest WktNumber (take (length w - at) (drop at w)) (record { len = len; whole = whole })) where
    pub number_breaks : whole ≡ false → NumberBreaks w at (at + len)
    number_breaks e = record {
      order = omega arith;
      within = rest_fits h.longest;
      no_number = λ word. true≢false (sym (h.whole.1 (subst WktNumber (sym rest_word) word)) ∙ e);
      longest = rest_longest h.longest;
    }

    pub number_skips : whole ≡ true → NumberSkips w at (at + len)
    number_skips e = record {
      order = omega arith;
      within = rest_fits h.longest;
      number = subst WktNumber rest_word (h.whole.0 e);
      longest = rest_longest h.longest;
    }

  pub number_stands : (digits : ℕ) (how : Coords) (value : Option (Result ℤ FixedFault)) (answer : Result ℤ FixedFault) → value ≡ Some answer
      → TakesLongest (NumberOf Wkt) (take (length w - at) (drop at w)) (record { len = len; whole = is_some value })
      → IfSome value (λ v. IsFixedOf (take len (take (length w - at) (drop at w))) digits how v)
      → (n : Numeral) × NumberStands w at (at + len) n × (answer ≡ fixed_of n digits how)
  number_stands digits how None answer e h f = absurd (none-some answer e)
  number_stands digits how (Some v) answer e h f =
      let word : WktNumber (between w at (at + len)) = subst WktNumber rest_word (h.whole.0 refl) in
      let spelled : SpellsNumeral (between w at (at + len)) f.numeral = subst (λ z. SpellsNumeral z f.numeral) rest_word f.spelled in
      let only : (m : Numeral) → IsWktNumeral m → between w at (at + len) ≡ numeral_text m → m ≡ f.numeral = (λ m hm em. f.only m (inr hm, rest_word ∙ em)) in
      let same : word.0 ≡ f.numeral = only word.0 word.1 word.2 in (
        f.numeral,
        record {
          order = omega arith;
          within = rest_fits h.longest;
          numeral = subst IsWktNumeral same word.1;
          text = spelled.1;
          longest = rest_longest h.longest;
          only = only;
        },
        sym (same_Some v answer e) ∙ f.value,
      )
