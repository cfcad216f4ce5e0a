-- The point of a number and the digits behind it follow the machine.
-- For `json_number`, `leading_number`, `plain_len`, `plain_number`, `read_fixed` and `wkt_number`.
use Rattle.std.proofs.Common.{◌≡◌, ℕ, ◌+◌, ◌-◌, ◌^◌, ◌<◌, ◌≤◌, inl, inr, Bool, true, false, cond, nat_lt, ◌==◌, ◌&&◌, ◌||◌, IsTrue, Some, None, List, [], ◌∷◌, ◌++◌, length, take, slice_index, refl, sym, ◌∙◌, ap, subst, arith, add-one, take-suc, append-nil, append_assoc}
use Rattle.std.proofs.lemmas.Bool.{and_parts, cases_lt, eqb-true, ltb-true, lt-ltb}
use Rattle.at_text.specs.Texts.{is_digit}
use Rattle.at_fixed.specs.declared.notation.Notation.{Notation}
use Rattle.at_fixed.specs.declared.digits.DigitsRun.{DigitsRun}
use Rattle.at_fixed.specs.declared.scanning.Mantissa.{Mantissa}
use Rattle.at_fixed.specs.Numerals.{AreDigits, AreSomeDigits, digits_value}
use Rattle.at_fixed.specs.NumberSoFar.{between, digits_behind, Keeps, KeepsDigits}
use Rattle.at_fixed.specs.States.{State, Reads, point, fraction, behind_digits, after_fraction, step, accepts}
use Rattle.at_fixed.specs.Scans.{IsSignOf, IsWholeOf, after_lead, ReadsWhole, may_take_point, is_wkt, IsFrontOf, after_mantissa, ReadsMantissa}
use Rattle.at_fixed.proofs.DigitParts.{part-place, part-cons, part-length, behind-both, run_whole}
use Rattle.at_fixed.proofs.Phases.{reads_byte, reads_digits, fraction_stays, not_above}

-- ---- tests

and_after : (a b : Bool) → a ≡ true → (a && b) ≡ false → b ≡ false
and_after a b h k = grind (arith, h, k)

-- ---- no point

plain_next : (g : Notation) (led : Bool) (b : ℕ) → ((b == 0x2E) && (led || is_wkt g)) ≡ false → after_lead g led b ≡ after_mantissa led b
plain_next g led b h = grind arith

plain_front : (g : Notation) (led : Bool) (sign whole : List ℕ) → IsSignOf g sign → IsWholeOf g led whole → led ≡ true → IsFrontOf g sign whole None
plain_front g led sign whole h k l = grind arith

pub plain_by : (g : Notation) (w : List ℕ) (read : Mantissa) → ReadsWhole g w read → may_take_point g w read ≡ false → ReadsMantissa g w read
plain_by g w read h k = grind (arith, plain_next, and_after, lt-ltb, append-nil, plain_front)

-- ---- a point

-- the place behind the point
abbrev after_point : Notation → Bool → State
after_point g led = cond led (behind_digits g) point

point_step : (g : Notation) (led : Bool) → (led || is_wkt g) ≡ true → after_lead g led 0x2E ≡ Some (after_point g led)
point_step g led h = grind arith

digit_behind : (g : Notation) (led : Bool) (b : ℕ) → is_digit b ≡ true → step g (after_point g led) b ≡ Some fraction
digit_behind g led b h = grind arith

bare_ends : (g : Notation) (led : Bool) → accepts (after_point g led) ≡ (led && is_wkt g)
bare_ends g led = grind arith

bare_next : (g : Notation) (led : Bool) (b : ℕ) → is_digit b ≡ false → step g (after_point g led) b ≡ after_mantissa (led && is_wkt g) b
bare_next g led b h = grind arith

-- where a number stands behind the point and its digits
record Behind (g : Notation) (w : List ℕ) (end : ℕ) (is_number : Bool) : Type 0 where
  state : State
  reads : Reads g w end state
  ends : accepts state ≡ is_number
  next : end < length w → step g state (slice_index w end) ≡ after_mantissa is_number (slice_index w end)

behind_by : (g : Notation) (w : List ℕ) (i end : ℕ) (led : Bool) → Reads g w i (after_point g led) → i ≤ end → end ≤ length w → AreDigits (between w i end)
    → (end < length w → is_digit (slice_index w end) ≡ false) → Behind g w end (nat_lt i end || (led && is_wkt g))
behind_by g w i end led r order within digits stops = elim (cases_lt i end) [
  | inl some ↦ rw (lt-ltb i end some) (let cells = part-cons w i end some within in
      let all : AreDigits (slice_index w i ∷ between w (i + 1) end) = subst AreDigits cells digits in
      record {
        state = fraction;
        reads = reads_digits g w i end (after_point g led) fraction r some within digits (digit_behind g led (slice_index w i) all.0) (fraction_stays g);
        ends = refl;
        next = λ more. ap (λ c. cond c (Some fraction) (after_fraction (slice_index w end))) (stops more);
      })
  | inr none ↦ (let same : i ≡ end = omega arith in
      let P : ℕ → Type 0 = λ n. Reads g w n (after_point g led) in
      rw (same, not_above end) (record {
        state = after_point g led;
        reads = subst P same r;
        ends = bare_ends g led;
        next = λ more. bare_next g led (slice_index w end) (stops more);
      }))
]

point_text : (w : List ℕ) (e : ℕ) (s ws fs t : List ℕ) → e < length w → slice_index w e ≡ 0x2E → take e w ≡ s ++ ws → t ≡ take (e + 1) w ++ fs
    → t ≡ s ++ (ws ++ (0x2E ∷ fs))
point_text w e s ws fs t h byte text k =
    let next : take (e + 1) w ≡ (s ++ ws) ++ (0x2E ∷ []) = (rw (add-one e, take-suc w e 0 h, text, byte) refl) in
    let all : ((s ++ ws) ++ (0x2E ∷ [])) ++ fs ≡ s ++ (ws ++ (0x2E ∷ fs)) = append_assoc (s ++ ws) (0x2E ∷ []) fs ∙ append_assoc s ws (0x2E ∷ fs) in
    k ∙ (ap (λ x. x ++ fs) next ∙ all)

pub some_digits : (ds : List ℕ) → AreDigits ds → 0 < length ds → AreSomeDigits ds
some_digits ds h k = grind arith

point_front : (g : Notation) (led some : Bool) (sign whole fs : List ℕ) → IsSignOf g sign → IsWholeOf g led whole → AreDigits fs → (led || is_wkt g) ≡ true
    → (some ≡ true → AreSomeDigits fs) → (some || (led && is_wkt g)) ≡ true → IsFrontOf g sign whole (Some fs)
point_front g led some sign whole fs h k l m n p = grind arith

pub fraction_by : (g : Notation) (w : List ℕ) (whole : Mantissa) (run : DigitsRun) (is_number : Bool) → ReadsWhole g w whole → IsTrue (may_take_point g w whole)
    → whole.end + 1 ≤ run.end → run.end ≤ length w → AreDigits (between w (whole.end + 1) run.end)
    → (run.end < length w → is_digit (slice_index w run.end) ≡ false) → run.digits.kept < 10 ^ 19 → run.digits.dropped ≤ run.end
    → ((m : ℕ) → Keeps whole.digits.kept whole.digits.dropped whole.digits.is_cut m
    → Keeps run.digits.kept run.digits.dropped run.digits.is_cut (digits_behind m (between w (whole.end + 1) run.end)))
    → is_number ≡ (nat_lt (whole.end + 1) run.end || (whole.is_number && is_wkt g))
    → ReadsMantissa g w (record { end = run.end; is_number = is_number; is_minus = whole.is_minus; digits = run.digits; fraction = run.end - (whole.end + 1) })
fraction_by g w whole run is_number h may order within digits stops fits dropped keeps e =
    let (inside_test, rest_test) = and_parts (nat_lt whole.end (length w)) _ may in
    let (byte_test, led_test) = and_parts (slice_index w whole.end == 0x2E) _ rest_test in
    let inside : whole.end < length w = ltb-true whole.end (length w) inside_test in
    let byte : slice_index w whole.end ≡ 0x2E = eqb-true (slice_index w whole.end) 0x2E byte_test in
    let fs : List ℕ = between w (whole.end + 1) run.end in
    let goes = h.next inside ∙ (ap (after_lead g whole.is_number) byte ∙ point_step g whole.is_number led_test) in
    let r : Reads g w (whole.end + 1) (after_point g whole.is_number) = reads_byte g w whole.end h.state (after_point g whole.is_number) h.reads inside goes in
    let behind = behind_by g w (whole.end + 1) run.end whole.is_number r order within digits stops in
    let count : whole.end + 1 + length fs ≡ run.end = part-length w (whole.end + 1) run.end order within in
    let P : Bool → Type 0 = λ b. Behind g w run.end b in
    let there : Behind g w run.end is_number = subst P (sym e) behind in
    record {
      state = there.state;
      reads = there.reads;
      ends = there.ends;
      next = there.next;
      parts = λ ok. record {
        sign = h.sign;
        whole = h.whole;
        fraction = Some fs;
        text = point_text w whole.end h.sign h.whole fs (take run.end w) inside byte h.text (part-place w (whole.end + 1) run.end order);
        is_front = point_front g whole.is_number (nat_lt (whole.end + 1) run.end) h.sign h.whole fs h.sign_is h.whole_is digits led_test
            (λ some. some_digits fs digits (omega (arith, count, ltb-true (whole.end + 1) run.end some))) (sym e ∙ ok);
        minus = h.minus;
        keeps = subst (λ n. Keeps run.digits.kept run.digits.dropped run.digits.is_cut n) (sym (behind-both 0 h.whole fs)) (keeps (digits_value h.whole) h.keeps);
        count = omega (arith, count);
      };
      dropped = dropped;
      fits = fits;
      count = omega arith;
    }

-- the same where there are some digits, all of which are kept
pub kept_front : (g : Notation) (w : List ℕ) (whole : Mantissa) (end kept : ℕ) → ReadsWhole g w whole → IsTrue (may_take_point g w whole) → KeepsDigits w (whole.end + 1) end whole.digits.kept kept
    → (end < length w → is_digit (slice_index w end) ≡ false) → whole.end + 1 < end
    → ReadsMantissa g w (record { end = end; is_number = true; is_minus = whole.is_minus; digits = record { kept = kept; dropped = whole.digits.dropped; is_cut = whole.digits.is_cut }; fraction = end - (whole.end + 1) })
kept_front g w whole end kept h may run stops some =
    fraction_by g w whole (record { end = end; digits = record { kept = kept; dropped = whole.digits.dropped; is_cut = whole.digits.is_cut } }) true h may run.order run.within run.digits stops run.fits
    (omega (arith, h.dropped, run.order)) (λ m k. run_whole w (whole.end + 1) end whole.digits.kept whole.digits.dropped m kept whole.digits.is_cut run k)
    (sym (ap (λ b. b || (whole.is_number && is_wkt g)) (lt-ltb (whole.end + 1) end some)))
