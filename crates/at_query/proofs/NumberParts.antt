-- A number and the byte behind it, which no number has.
-- For `read_query`.
use Rattle.std.proofs.Common.{◌≡◌, ◌≢◌, ℕ, ℤ, ◌+◌, ◌-◌, ◌<◌, ◌≤◌, true, false, List, [], ◌∷◌, ◌++◌, length, drop, Result, refl, sym, ◌∙◌, ap, subst, arith, append_assoc, length-append, true≢false}
use native.Mathlib.Decide.{dec_lt}
use Rattle.std.proofs.lemmas.List.{append_cancel_left}
use Rattle.at_text.specs.Prefix.{LongestViable}
use Rattle.at_fixed.specs.declared.rounding.Coords.{Coords}
use Rattle.at_fixed.specs.declared.rounding.FixedFault.{FixedFault}
use Rattle.at_fixed.specs.Numerals.{Numeral, numeral_text, IsWktNumeral, WktNumber}
use Rattle.at_fixed.specs.Fixed.{fixed_of}
use Rattle.at_wkt.specs.Positions.{value_in, faults_in}
use Rattle.at_wkt.specs.Readers.{NumberStands, NumberBreaks, next}
use Rattle.at_fixed.proofs.DigitParts.{part-length, part-part}
use Rattle.at_wkt.proofs.Leads.{part-one}
use Rattle.at_wkt.proofs.NumberSteps.{in_number, number_ends, front_viable, next_end}
use Rattle.at_query.specs.declared.query.coordinates.NumberRead.{NumberRead}
use Rattle.at_query.specs.Spelling.{Placed, SpellsPlaced}
use Rattle.at_query.specs.Queries.{ats_of, least_of}
use Rattle.at_fixed.specs.NumberSoFar.{between}
use Rattle.at_query.specs.Readers.{Ends, Stops, WordStands, WordBreaks, ends_number, number_meaning, Number, number_in}
use Rattle.at_query.proofs.Parted.{onward_ahead}

no_number_byte : (b : ℕ) → ends_number b ≡ true → in_number b ≡ false
no_number_byte b h = grind (arith, h)

is_byte : (b : ℕ) → ends_number b ≡ true → b ≢ 256
is_byte b h e = let bad : ends_number 256 ≡ true = ap ends_number (sym e) ∙ h in true≢false (sym bad)

-- a word of one byte that breaks off does so at once
one_byte : (w : List ℕ) (j n b : ℕ) → WordBreaks w j n (b ∷ []) → (n ≡ j) × (n < length w → between w j (n + 1) ≡ b ∷ [] → ⊥)
one_byte w j n b h = go h.front h.word_is h.text h.differs where
  go : (front : List ℕ) → b ∷ [] ≡ front ++ (h.byte ∷ h.rest) → between w j n ≡ front → (n < length w → between w j (n + 1) ≡ front ++ (h.byte ∷ []) → ⊥)
      → (n ≡ j) × (n < length w → between w j (n + 1) ≡ b ∷ [] → ⊥)
  go [] e t d = (omega (arith, ap length t, part-length w j n h.order h.within), λ below f. d below (f ∙ (let same : b ≡ h.byte = cc in ap (λ z. z ∷ []) same)))
  go (a ∷ front) e t d = absurd (let rest : [] ≡ front ++ (h.byte ∷ h.rest) = cc in omega (arith, ap length rest, length-append front (h.byte ∷ h.rest)))

module _ (digits : ℕ) (how : Coords) (delimiter : ℕ) (d : ends_number delimiter ≡ true) (w : List ℕ) (i : ℕ) where
  -- a number with the byte that agrees with the text, as far as the longest beginning of a number goes
  record Agrees (j : ℕ) (n : Placed) (v : List ℕ) : Type 0 where
    at_is : n.at ≡ i
    numeral : IsWktNumeral n.number
    text : between w i j ≡ numeral_text n.number
    word : v ≡ between w i j ++ (delimiter ∷ [])
    byte : delimiter ≡ next w j

  agrees : (j : ℕ) → i ≤ j → j ≤ length w → LongestViable WktNumber (drop i w) (j - i) → (n : Placed) (v r s : List ℕ)
      → SpellsPlaced n (delimiter ∷ []) i v → v ++ r ≡ between w i j ++ (next w j ∷ s) → Agrees j n v
  agrees j h k l n v r s (v1, v2, ev, (ei, (hn, en)), ed) e =
      let whole : v ≡ v1 ++ (delimiter ∷ []) = ev ∙ ap (λ z. v1 ++ z) ed in
      let line : v1 ++ (delimiter ∷ r) ≡ between w i j ++ (next w j ∷ s) = sym (append_assoc v1 (delimiter ∷ []) r) ∙ (ap (λ z. z ++ r) (sym whole) ∙ e) in
      let same : v1 ≡ between w i j = number_ends w i j h k l v1 delimiter r (next w j ∷ s) (n.number, hn, en) (no_number_byte delimiter d) (s, refl) line in
      let rest : delimiter ∷ r ≡ next w j ∷ s = append_cancel_left (between w i j) _ _ (ap (λ z. z ++ (delimiter ∷ r)) (sym same) ∙ line) in
      record { at_is = ei; numeral = hn; text = sym same ∙ en; word = whole ∙ ap (λ z. z ++ (delimiter ∷ [])) same; byte = cc }

  viable_there : (j : ℕ) → i ≤ j → LongestViable WktNumber (drop i w) (j - i) → (m : _) × (more : List ℕ) × Number digits how delimiter m i (between w i j ++ more)
  viable_there j h l =
      let (more, (n, hn, en)) = front_viable w i j h l in
      let p : Placed = record { number = n; at = i } in (
        number_meaning digits how p,
        more ++ (delimiter ∷ []),
        (p, refl, (between w i j ++ more, delimiter ∷ [], sym (append_assoc (between w i j) more (delimiter ∷ [])), (refl, (hn, en)), refl)),
      )

  -- a number would stand up to j, with the byte there behind it
  stops_there : (j : ℕ) → i ≤ j → j ≤ length w → LongestViable WktNumber (drop i w) (j - i) → ((n : Placed) (v : List ℕ) → Agrees j n v → ⊥) → Stops (Number digits how delimiter) w i j
  stops_there j h k l no_other = record {
    order = h;
    within = k;
    viable = viable_there j h l;
    dead = λ m v r (p, em, q) on.
        let (r2, t, line) = onward_ahead w i j h (v ++ r) on in
        no_other p v (agrees j h k l p v (r ++ r2) t q (sym (append_assoc v r r2) ∙ line));
  }

  -- no number stands
  pub number_stops : (n : ℕ) → NumberBreaks w i n → Stops (Number digits how delimiter) w i n
  number_stops n h = stops_there n h.order h.within h.longest (λ p v a. h.no_number (p.number, a.numeral, a.text))

  module _ (j : ℕ) (n : Numeral) (h : NumberStands w i j n) where
    -- another byte stands behind it
    pub delimiter_stops : (k : ℕ) → WordBreaks w j k (delimiter ∷ []) → Stops (Number digits how delimiter) w i k
    delimiter_stops k b =
        let (e, differs) = one_byte w j k delimiter b in
        subst (Stops (Number digits how delimiter) w i) (sym e) (stops_there j h.order h.within h.longest (λ p v a. elim (dec_lt j (length w)) [
          | yes below ↦ differs (omega (arith, e)) (ap (λ z. between w j (z + 1)) e ∙ (part-one w j below ∙ ap (λ z. z ∷ []) (sym a.byte)))
          | no past ↦ is_byte delimiter d (a.byte ∙ next_end w j (omega arith))
        ]))

    pub number_ends_there : (k : ℕ) → WordStands w j k (delimiter ∷ []) → Ends (Number digits how delimiter) w i k (number_meaning digits how (record { number = n; at = i }))
    number_ends_there k s =
        let low : i ≤ j = h.order in
        let next_is : k ≡ j + 1 = s.end in
        let mid : j ≤ k = omega arith in
        let joint : between w i k ≡ between w i j ++ (delimiter ∷ []) = part-part w i j k low mid s.within ∙ ap (λ z. between w i j ++ z) s.text in
        let one : next w j ∷ [] ≡ delimiter ∷ [] = sym (part-one w j (omega (arith, s.within))) ∙ (ap (between w j) (sym next_is) ∙ s.text) in
        let byte : delimiter ≡ next w j = cc in
        let p : Placed = record { number = n; at = i } in
        record {
          order = omega arith;
          within = s.within;
          sound = (p, refl, (between w i j, delimiter ∷ [], joint, (refl, (h.numeral, h.text)), refl));
          only = λ m v r t (q, em, sp) e.
              let line : v ++ r ≡ between w i j ++ (next w j ∷ t) = e ∙ (ap (λ z. z ++ t) joint ∙ (append_assoc (between w i j) (delimiter ∷ []) t ∙ ap (λ z. between w i j ++ (z ∷ t)) byte)) in
              let a = agrees j low h.within h.longest q v r t sp line in
              let en : q.number ≡ n = h.only q.number a.numeral a.text in
              (em ∙ (ap (λ z. number_meaning digits how (record { number = z; at = q.at })) en ∙ ap (λ z. number_meaning digits how (record { number = n; at = z })) a.at_is), a.word ∙ sym joint);
        }

-- the meaning is what was read
pub number_is : (digits : ℕ) (how : Coords) (n : Numeral) (at : ℕ) (answer : Result ℤ FixedFault) (read : NumberRead) → answer ≡ fixed_of n digits how → read.value ≡ value_in answer → read.fault ≡ least_of (ats_of (faults_in answer at))
    → number_meaning digits how (record { number = n; at = at }) ≡ number_in read
number_is digits how n at answer read e ev ef =
    let value : value_in (fixed_of n digits how) ≡ read.value = sym (ev ∙ ap value_in e) in
    let fault : least_of (ats_of (faults_in (fixed_of n digits how) at)) ≡ read.fault = sym (ef ∙ ap (λ z. least_of (ats_of (faults_in z at))) e) in
    ap (λ z. record { value = z; fault = least_of (ats_of (faults_in (fixed_of n digits how) at)) }) value ∙ ap (λ z. record { value = read.value; fault = z }) fault
