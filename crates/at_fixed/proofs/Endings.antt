-- The end of a number, with an exponent or without one: its longest viable prefix, its parts, and what is kept of them.
-- For `json_number`, `leading_number`, `plain_len`, `plain_number`, `read_fixed` and `wkt_number`.
use Rattle.std.proofs.Common.{◌≡◌, ℕ, ◌+◌, ◌^◌, ◌<◌, ◌≤◌, ◌⊎◌, inl, inr, Bool, true, false, cond, nat_lt, IsTrue, Option, Some, None, IfSome, List, [], ◌∷◌, ◌++◌, length, take, slice_index, refl, sym, ◌∙◌, ap, subst, arith, add-one, take-suc, append-nil, append_assoc}
use Rattle.std.proofs.lemmas.Bool.{cases_lt, ltb-true, lt-ltb}
use Rattle.std.proofs.Math.Bool.{or-false}
use Rattle.at_text.specs.Prefix.{TakesLongest}
use Rattle.at_text.specs.Texts.{is_digit}
use Rattle.at_fixed.specs.declared.notation.Notation.{Notation}
use Rattle.at_fixed.specs.declared.notation.Notation.TheVariants.{Wkt}
use Rattle.at_fixed.specs.declared.scanning.Sign.{Sign}
use Rattle.at_fixed.specs.declared.scanning.Mantissa.{Mantissa}
use Rattle.at_fixed.specs.declared.scanning.Power.{Power}
use Rattle.at_fixed.specs.Numerals.{Exponent, Numeral, fraction_text, exponent_text, numeral_text, AreDigits, IsAtMostOneOf, IsExponent, IsNumeralOf, NumberOf}
use Rattle.at_fixed.specs.Fixed.{has_minus, exponent_above, exponent_below}
use Rattle.at_fixed.specs.NumberSoFar.{between, SameOrHuge}
use Rattle.at_fixed.specs.Decimals.{IsDecimalOf}
use Rattle.at_fixed.specs.States.{State, Reads, letter, power_sign, power, is_letter, is_sign, step, accepts}
use Rattle.at_fixed.specs.Scanned.{IsScanned, both_halves}
use Rattle.at_fixed.specs.Scans.{ReadsSign, IsFrontOf, IsMantissaOf, after_mantissa, ReadsMantissa, ReadsExponent, ReadsNone, ReadsPower}
use Rattle.at_fixed.proofs.DigitParts.{part-none, part-place, part-cons, part-more, part-length}
use Rattle.at_fixed.proofs.NumberMachine.{number_at}
use Rattle.at_fixed.proofs.Phases.{reads_byte, reads_digits, power_stays, not_above}
use Rattle.at_fixed.proofs.Points.{some_digits}

-- the machine stands at the end, and no further byte can follow
record Finished (g : Notation) (w : List ℕ) (end : ℕ) (is_number : Bool) : Type 0 where
  state : State
  reads : Reads g w end state
  ends : accepts state ≡ is_number
  stops : end < length w → step g state (slice_index w end) ≡ None

taken_by : (g : Notation) (w : List ℕ) (end : ℕ) (is_number : Bool) → Finished g w end is_number → TakesLongest (NumberOf g) w (record { len = end; whole = is_number })
taken_by g w end is_number h =
    let P : Bool → Type 0 = λ b. TakesLongest (NumberOf g) w (record { len = end; whole = b }) in
    subst P h.ends (number_at g h.state w end h.reads.fits h.reads.run h.stops)

no_letter : (is_number : Bool) (b : ℕ) → (is_number ≡ true → is_letter b ≡ false) → after_mantissa is_number b ≡ None
no_letter is_number b h = grind arith

plain_end : (g : Notation) (w : List ℕ) (read : Mantissa) (p : Power) → ReadsMantissa g w read → ReadsNone w read p → Finished g w p.end p.is_number
plain_end g w read p h k = grind arith

-- the place behind the letter and the sign, where the digits of the exponent begin
record Lettered (g : Notation) (w : List ℕ) (i : ℕ) : Type 0 where
  state : State
  reads : Reads g w i state
  ends : accepts state ≡ false
  digit : (b : ℕ) → is_digit b ≡ true → step g state b ≡ Some power
  stops : i < length w → is_digit (slice_index w i) ≡ false → step g state (slice_index w i) ≡ None

letter_digit : (g : Notation) (b : ℕ) → is_digit b ≡ true → step g letter b ≡ Some power
letter_digit g b h = ap (λ c. cond c (Some power) (cond (is_sign b) (Some power_sign) None)) h

letter_sign : (g : Notation) (b : ℕ) → is_sign b ≡ true → step g letter b ≡ Some power_sign
letter_sign g b h = grind (arith, h)

letter_none : (g : Notation) (b : ℕ) → is_sign b ≡ false → is_digit b ≡ false → step g letter b ≡ None
letter_none g b h k = rw (k, h) refl

lettered_by : (g : Notation) (w : List ℕ) (i : ℕ) (sign : Sign) → Reads g w i letter → ReadsSign Wkt w i sign → Lettered g w sign.end
lettered_by g w i sign r (inl (e, m, h)) = rw e (record {
  state = letter;
  reads = r;
  ends = refl;
  digit = letter_digit g;
  stops = λ inside none. letter_none g (slice_index w i) (h inside) none;
})
lettered_by g w i sign r (inr (e, inside, h, m)) = rw e (record {
  state = power_sign;
  reads = reads_byte g w i letter power_sign r inside (letter_sign g (slice_index w i) h);
  ends = refl;
  digit = λ b k. ap (λ c. cond c (Some power) None) k;
  stops = λ more none. ap (λ c. cond c (Some power) None) none;
})

exponent_end : (g : Notation) (w : List ℕ) (i end : ℕ) → Lettered g w i → i ≤ end → end ≤ length w → AreDigits (between w i end)
    → (end < length w → is_digit (slice_index w end) ≡ false) → Finished g w end (nat_lt i end)
exponent_end g w i end h order within digits stops = elim (cases_lt i end) [
  | inl some ↦ (let cells = part-cons w i end some within in
      let all : AreDigits (slice_index w i ∷ between w (i + 1) end) = subst AreDigits cells digits in
      rw (lt-ltb i end some) (record {
        state = power;
        reads = reads_digits g w i end h.state power h.reads some within digits (h.digit (slice_index w i) all.0) (power_stays g);
        ends = refl;
        stops = λ more. ap (λ c. cond c (Some power) None) (stops more);
      }))
  | inr none ↦ (let same : end ≡ i = omega arith in
      let P : ℕ → Type 0 = λ n. (n < length w → is_digit (slice_index w n) ≡ false) → Finished g w n (nat_lt i n) in
      subst P (sym same) (λ stop. rw (not_above i) (record { state = h.state; reads = h.reads; ends = h.ends; stops = λ more. h.stops more (stop more) })) stops)
]

letter_read : (g : Notation) (w : List ℕ) (read : Mantissa) → ReadsMantissa g w read → read.is_number ≡ true → read.end < length w
    → is_letter (slice_index w read.end) ≡ true → Reads g w (read.end + 1) letter
letter_read g w read h e inside l =
    reads_byte g w read.end h.state letter h.reads inside
    (h.next inside ∙ (ap (λ c. after_mantissa c (slice_index w read.end)) e ∙ ap (λ c. cond c (Some letter) None) l))

finished_by : (g : Notation) (w : List ℕ) (read : Mantissa) (p : Power) → ReadsMantissa g w read
    → (ReadsNone w read p ⊎ ((read.is_number ≡ true) × ReadsExponent w read.end p)) → Finished g w p.end p.is_number
finished_by g w read p h (inl n) = plain_end g w read p h n
finished_by g w read p h (inr (e, x)) =
    let lettered = lettered_by g w (read.end + 1) x.sign (letter_read g w read h e x.inside x.letter) x.reads_sign in
    rw x.ends (exponent_end g w x.sign.end p.end lettered x.order x.within x.digits x.stops)

pub longest_by : (g : Notation) (w : List ℕ) (read : Mantissa) (p : Power) → ReadsMantissa g w read → ReadsPower w read p
    → TakesLongest (NumberOf g) w (record { len = p.end; whole = p.is_number })
longest_by g w read p h k = taken_by g w p.end p.is_number (finished_by g w read p h k.cases)

-- ---- the parts of a number

pub numeral_by : (g : Notation) (s ws : List ℕ) (f : Option (List ℕ)) (e : Option Exponent) → IsFrontOf g s ws f → IfSome e IsExponent
    → IsNumeralOf g (record { sign = s; whole = ws; fraction = f; exponent = e })
numeral_by g s ws f e h k = grind arith

-- a front and an exponent's text behind it
text_by : (s ws fs es t u : List ℕ) → t ≡ s ++ (ws ++ fs) → u ≡ t ++ es → u ≡ s ++ (ws ++ (fs ++ es))
text_by s ws fs es t u h k = k ∙ (ap (λ x. x ++ es) h ∙ (append_assoc s (ws ++ fs) es ∙ ap (λ x. s ++ x) (append_assoc ws fs es)))

-- what the exponent is, and what is kept of it
record IsPowerOf (p : Power) (e : Option Exponent) : Type 0 where
  is_exponent : IfSome e IsExponent
  above : SameOrHuge (cond p.is_minus 0 p.size) (exponent_above e)
  below : SameOrHuge (cond p.is_minus p.size 0) (exponent_below e)

abbrev Value : Notation → List ℕ → Mantissa → Power → ℕ → ℕ → Type 0
Value g w read p up down = (n : Numeral) × IsNumeralOf g n × (take p.end w ≡ numeral_text n)
    × IsDecimalOf (record { is_minus = read.is_minus; kept = read.digits.kept; is_cut = read.digits.is_cut; up = up; down = down }) n

value_by : (g : Notation) (w : List ℕ) (read : Mantissa) (p : Power) (e : Option Exponent) (up down : ℕ) → length w ≤ 2 ^ 28
    → ReadsMantissa g w read → IsMantissaOf g w read → IsPowerOf p e → take p.end w ≡ take read.end w ++ exponent_text e
    → up ≡ read.digits.dropped + cond p.is_minus 0 p.size → down ≡ read.fraction + cond p.is_minus p.size 0
    → Value g w read p up down
value_by g w read p e up down small h m q text u d = (
  record { sign = m.sign; whole = m.whole; fraction = m.fraction; exponent = e },
  numeral_by g m.sign m.whole m.fraction e m.is_front q.is_exponent,
  text_by m.sign m.whole (fraction_text m.fraction) (exponent_text e) (take read.end w) (take p.end w) m.text text,
  record {
    minus = m.minus;
    dropped = read.digits.dropped;
    above = cond p.is_minus 0 p.size;
    below = cond p.is_minus p.size 0;
    keeps = m.keeps;
    up = u;
    down = d ∙ ap (λ n. n + cond p.is_minus p.size 0) m.count;
    above_is = q.above;
    below_is = q.below;
    few_dropped = omega (arith, h.dropped, h.reads.fits, small);
    few_digits = omega (arith, m.count, h.count, h.reads.fits, small);
  },
)

no_power : (p : Power) → p.is_minus ≡ false → p.size ≡ 0 → IsPowerOf p None
no_power p m s = record { is_exponent = tt; above = rw (m, s) (inl refl); below = rw (m) (inl refl) }

-- the sign of an exponent
record IsExponentSign (w : List ℕ) (i : ℕ) (sign : Sign) : Type 0 where
  is_sign : IsAtMostOneOf (0x2B ∷ 0x2D ∷ []) (between w i sign.end)
  minus : sign.is_minus ≡ has_minus (between w i sign.end)
  order : i ≤ sign.end

sign_by : (w : List ℕ) (i : ℕ) (sign : Sign) → i ≤ length w → ReadsSign Wkt w i sign → IsExponentSign w i sign
sign_by w i sign h k = grind (arith, part-none, part-more, or-false)

above_same : (m k : Bool) (size v : ℕ) → m ≡ k → SameOrHuge size v → SameOrHuge (cond m 0 size) (cond k 0 v)
above_same m k size v h l = grind arith

below_same : (m k : Bool) (size v : ℕ) → m ≡ k → SameOrHuge size v → SameOrHuge (cond m size 0) (cond k v 0)
below_same m k size v h l = grind arith

-- the exponent that is read at a place
abbrev exponent_at : List ℕ → ℕ → Sign → Power → Exponent
exponent_at w from sign p = record { letter = slice_index w from; sign = between w (from + 1) sign.end; digits = between w sign.end p.end }

power_by : (w : List ℕ) (from : ℕ) (p : Power) (x : ReadsExponent w from p) → IsTrue p.is_number → IsPowerOf p (Some (exponent_at w from x.sign p))
power_by w from p x h = grind (arith, sign_by, ltb-true, some_digits, part-length, above_same, below_same)

exponent_place : (w : List ℕ) (from : ℕ) (p : Power) (x : ReadsExponent w from p)
    → take p.end w ≡ take from w ++ (slice_index w from ∷ (between w (from + 1) x.sign.end ++ between w x.sign.end p.end))
exponent_place w from p x =
    let sign = sign_by w (from + 1) x.sign (omega (arith, x.inside)) x.reads_sign in
    let b : ℕ = slice_index w from in let s : List ℕ = between w (from + 1) x.sign.end in let d : List ℕ = between w x.sign.end p.end in
    let one : take (from + 1) w ≡ take from w ++ (b ∷ []) = (rw (add-one from, take-suc w from 0 x.inside) refl) in
    let two : take x.sign.end w ≡ (take from w ++ (b ∷ [])) ++ s = part-place w (from + 1) x.sign.end sign.order ∙ ap (λ y. y ++ s) one in
    part-place w x.sign.end p.end x.order ∙ (ap (λ y. y ++ d) two
    ∙ (append_assoc (take from w ++ (b ∷ [])) s d ∙ append_assoc (take from w) (b ∷ []) (s ++ d)))

pub read_value : (g : Notation) (w : List ℕ) (read : Mantissa) (p : Power) (up down : ℕ) → length w ≤ 2 ^ 28 → ReadsMantissa g w read → ReadsPower w read p
    → up ≡ read.digits.dropped + cond p.is_minus 0 p.size → down ≡ read.fraction + cond p.is_minus p.size 0
    → IsTrue p.is_number → Value g w read p up down
read_value g w read p up down small h k u d e = elim k.cases [
  | inl n ↦ value_by g w read p None up down small h (h.parts (sym n.ends ∙ e)) (no_power p n.minus n.size)
      (ap (λ i. take i w) n.same ∙ sym (append-nil (take read.end w))) u d
  | inr (led, x) ↦ value_by g w read p (Some (exponent_at w read.end x.sign p)) up down small h (h.parts led) (power_by w read.end p x e)
      (exponent_place w read.end p x) u d
]

-- what is read, by its two halves
pub scanned_by : (g : Notation) (w : List ℕ) (read : Mantissa) (p : Power) → length w ≤ 2 ^ 28 → ReadsMantissa g w read → ReadsPower w read p → IsScanned g w (both_halves read p)
scanned_by g w read p small h k = record {
  taken = longest_by g w read p h k;
  value = read_value g w read p (read.digits.dropped + cond p.is_minus 0 p.size) (read.fraction + cond p.is_minus p.size 0) small h k refl refl;
  small = few p.is_minus;
  fits = h.fits;
} where
  few : (b : Bool) → read.digits.dropped + cond b 0 p.size < 2 ^ 50
  few true = omega (arith, small, h.dropped, h.reads.fits)
  few false = omega (arith, small, h.dropped, h.reads.fits, k.fits)
