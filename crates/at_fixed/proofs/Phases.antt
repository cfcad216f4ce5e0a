-- The steps of reading a number follow the machine.
-- For `json_number`, `leading_number`, `plain_len`, `plain_number`, `read_fixed` and `wkt_number`.
use Rattle.std.proofs.Common.{◌≡◌, ℕ, ◌+◌, ◌<◌, ◌≤◌, inl, inr, Bool, true, false, cond, nat_lt, ◌==◌, Option, Some, None, option_and_then, List, [], ◌∷◌, ◌++◌, length, take, slice_index, refl, sym, ◌∙◌, ap, subst, arith, add-one, take-suc}
use Rattle.std.proofs.lemmas.Bool.{lt-ltb}
use Rattle.std.proofs.lemmas.Option.{same_Some, option_and_then_some}
use Rattle.std.proofs.Math.Bool.{or-false}
use Rattle.at_text.specs.Texts.{is_digit}
use Rattle.at_text.proofs.Machine.{run, run_more}
use Rattle.at_fixed.specs.declared.notation.Notation.{Notation}
use Rattle.at_fixed.specs.declared.notation.Notation.TheVariants.{Json}
use Rattle.at_fixed.specs.declared.digits.DigitsRun.{DigitsRun}
use Rattle.at_fixed.specs.declared.scanning.Sign.{Sign}
use Rattle.at_fixed.specs.Numerals.{AreDigits}
use Rattle.at_fixed.specs.Fixed.{has_minus}
use Rattle.at_fixed.specs.NumberSoFar.{between}
use Rattle.at_fixed.specs.States.{State, Reads, start, signed, whole, fraction, power, is_first_digit, is_lead_sign, after_fraction, after_whole, lone_point, lead, step, accepts}
use Rattle.at_fixed.specs.Scans.{ReadsSign, IsLead, ReadsLead, IsSignOf, IsWholeOf, after_lead, ReadsWhole}
use Rattle.at_fixed.proofs.DigitParts.{part-none, part-place, part-cons, part-more}
use Rattle.at_fixed.proofs.NumberMachine.{machine}

-- ---- runs of the machine

run-both : {S : Type 0} (step : S → ℕ → Option S) (u v : List ℕ) (s t x : S) → run step s u ≡ Some t → run step t v ≡ Some x → run step s (u ++ v) ≡ Some x
run-both {S} step [] v s t x e f = let P : S → Type 0 = λ y. run step y v ≡ Some x in subst P (sym (same_Some s t e)) f
run-both {S} step (b ∷ u) v s t x e f =
    option_and_then_some (λ y. run step y u) (step s b) t e (λ y g h. ap (option_and_then (λ z. run step z (u ++ v))) g ∙ run-both step u v y t x h f)

pub reads_start : (g : Notation) (w : List ℕ) → Reads g w 0 start
reads_start g w = record { fits = omega arith; run = refl }

pub reads_part : (g : Notation) (w : List ℕ) (i j : ℕ) (s t : State) → Reads g w i s → i ≤ j → j ≤ length w → run (step g) s (between w i j) ≡ Some t → Reads g w j t
reads_part g w i j s t r h k e = record {
  fits = k;
  run = subst (λ x. run (step g) start x ≡ Some t) (sym (part-place w i j h)) (run-both (step g) (take i w) (between w i j) start s t r.run e);
}

pub reads_byte : (g : Notation) (w : List ℕ) (i : ℕ) (s t : State) → Reads g w i s → i < length w → step g s (slice_index w i) ≡ Some t → Reads g w (i + 1) t
reads_byte g w i s t r h e = record {
  fits = omega arith;
  run = rw (add-one i, take-suc w i 0 h) (run_more (machine g) start s t (take i w) (slice_index w i) r.run e);
}

-- a state that digits don't leave
abbrev pub Stays : Notation → State → Type 0
Stays g s = (b : ℕ) → is_digit b ≡ true → step g s b ≡ Some s

whole_stays : (g : Notation) → Stays g whole
whole_stays g b h = ap (λ c. cond c (Some whole) (after_whole g b)) h

pub fraction_stays : (g : Notation) → Stays g fraction
fraction_stays g b h = ap (λ c. cond c (Some fraction) (after_fraction b)) h

pub power_stays : (g : Notation) → Stays g power
power_stays g b h = ap (λ c. cond c (Some power) None) h

run-digits : (g : Notation) (s : State) → Stays g s → (ds : List ℕ) → AreDigits ds → run (step g) s ds ≡ Some s
run-digits g s stays [] h = refl
run-digits g s stays (d ∷ ds) (h, hs) = ap (option_and_then (λ t. run (step g) t ds)) (stays d h) ∙ run-digits g s stays ds hs

-- the first digit leads to a state that further ones don't leave
pub reads_digits : (g : Notation) (w : List ℕ) (i j : ℕ) (s t : State) → Reads g w i s → i < j → j ≤ length w → AreDigits (between w i j)
    → step g s (slice_index w i) ≡ Some t → Stays g t → Reads g w j t
reads_digits g w i j s t r h k digits first stays =
    let cells = part-cons w i j h k in
    let all : AreDigits (slice_index w i ∷ between w (i + 1) j) = subst AreDigits cells digits in
    let rest : run (step g) t (between w (i + 1) j) ≡ Some t = run-digits g t stays (between w (i + 1) j) all.1 in
    reads_part g w i j s t r (omega arith) k
    (rw cells (ap (option_and_then (λ x. run (step g) x (between w (i + 1) j))) first ∙ rest))

-- ---- the sign and the digits before the point

-- the place behind the sign, where the digits before the point begin
pub record Signed (g : Notation) (w : List ℕ) (i : ℕ) (minus : Bool) : Type 0 where
  pub state : State
  pub reads : Reads g w i state
  pub ends : accepts state ≡ false
  pub leads : i < length w → step g state (slice_index w i) ≡ lead g (slice_index w i)
  pub sign_is : IsSignOf g (take i w)
  pub minus_is : minus ≡ has_minus (take i w)

no_sign : (g : Notation) → IsSignOf g []
no_sign g = grind arith

one_sign : (g : Notation) (b : ℕ) → is_lead_sign g b ≡ true → IsSignOf g (b ∷ [])
one_sign g b h = grind arith

take_one : (w : List ℕ) → 0 < length w → take 1 w ≡ slice_index w 0 ∷ []
take_one w h = take-suc w 0 0 h

starts : (g : Notation) (b : ℕ) → is_lead_sign g b ≡ false → step g start b ≡ lead g b
starts g b h = ap (λ c. cond c (Some signed) (lead g b)) h

signed_none : (g : Notation) (w : List ℕ) → (0 < length w → is_lead_sign g (slice_index w 0) ≡ false) → Signed g w 0 false
signed_none g w h = record {
  state = start;
  reads = reads_start g w;
  ends = refl;
  leads = λ inside. starts g (slice_index w 0) (h inside);
  sign_is = no_sign g;
  minus_is = refl;
}

signed_one : (g : Notation) (w : List ℕ) → 0 < length w → is_lead_sign g (slice_index w 0) ≡ true → Signed g w 1 (slice_index w 0 == 0x2D)
signed_one g w inside h = record {
  state = signed;
  reads = reads_byte g w 0 start signed (reads_start g w) inside (ap (λ c. cond c (Some signed) (lead g (slice_index w 0))) h);
  ends = refl;
  leads = λ more. refl;
  sign_is = subst (IsSignOf g) (sym (take_one w inside)) (one_sign g (slice_index w 0) h);
  minus_is = sym (ap has_minus (take_one w inside) ∙ or-false (slice_index w 0 == 0x2D));
}

pub signed_by : (g : Notation) (w : List ℕ) (sign : Sign) → ReadsSign g w 0 sign → Signed g w sign.end sign.is_minus
signed_by g w sign h = grind (arith, signed_none, signed_one)

-- the digits before the point, which may be none
pub record Led (g : Notation) (w : List ℕ) (i end : ℕ) (led : Bool) : Type 0 where
  pub state : State
  pub reads : Reads g w end state
  pub ends : accepts state ≡ led
  pub next : end < length w → step g state (slice_index w end) ≡ after_lead g led (slice_index w end)
  pub whole_is : IsWholeOf g led (between w i end)

lead_none : (g : Notation) (b : ℕ) → is_digit b ≡ false → lead g b ≡ lone_point g b
lead_none g b h = grind arith

first_digit : (b : ℕ) → is_digit b ≡ true → (b == 0x30) ≡ false → is_first_digit b ≡ true
first_digit b h k = grind (arith, h, k)

lead_digit : (g : Notation) (b : ℕ) → is_digit b ≡ true → (g ≡ Json → (b == 0x30) ≡ false) → lead g b ≡ Some whole
lead_digit g b h k = grind arith

whole_digits : (g : Notation) (b : ℕ) (ds : List ℕ) → AreDigits (b ∷ ds) → (g ≡ Json → (b == 0x30) ≡ false) → IsWholeOf g true (b ∷ ds)
whole_digits g b ds h k = grind arith

led_none : (g : Notation) (w : List ℕ) (i : ℕ) (minus : Bool) → Signed g w i minus → (i < length w → is_digit (slice_index w i) ≡ false) → Led g w i i false
led_none g w i minus h k = grind (arith, lead_none, part-none)

led_zero : (w : List ℕ) (i : ℕ) (minus : Bool) → Signed Json w i minus → i < length w → slice_index w i ≡ 0x30 → Led Json w i (i + 1) true
led_zero w i minus h k l = grind (arith, reads_byte, part-more, part-none)

led_digits : (g : Notation) (w : List ℕ) (i end : ℕ) (minus : Bool) → Signed g w i minus → i < end → end ≤ length w → AreDigits (between w i end)
    → (g ≡ Json → (slice_index w i == 0x30) ≡ false) → (end < length w → is_digit (slice_index w end) ≡ false) → Led g w i end true
led_digits g w i end minus h some within digits first stops =
    let inside : i < length w = omega arith in
    let cells = part-cons w i end some within in
    let all : AreDigits (slice_index w i ∷ between w (i + 1) end) = subst AreDigits cells digits in
    record {
      state = whole;
      reads = reads_digits g w i end h.state whole h.reads some within digits (h.leads inside ∙ lead_digit g (slice_index w i) all.0 first) (whole_stays g);
      ends = refl;
      next = λ more. ap (λ c. cond c (Some whole) (after_whole g (slice_index w end))) (stops more);
      whole_is = subst (IsWholeOf g true) (sym cells) (whole_digits g (slice_index w i) (between w (i + 1) end) all first);
    }

pub not_above : (i : ℕ) → nat_lt i i ≡ false
not_above i = grind arith

pub led_by : (g : Notation) (w : List ℕ) (i end : ℕ) (minus : Bool) → Signed g w i minus → end ≤ length w → AreDigits (between w i end) → IsLead g w i end
    → Led g w i end (nat_lt i end)
led_by g w i end minus h within digits (inl (e, stops)) = rw (e, not_above i) (led_none g w i minus h stops)
led_by g w i end minus h within digits (inr (inl (json, e, first))) =
    let P : Notation → Type 0 = λ x. Signed x w i minus → Led x w i (i + 1) true in
    rw (e, lt-ltb i (i + 1) (omega arith)) (subst P (sym json) (λ x. led_zero w i minus x (omega arith) first) h)
led_by g w i end minus h within digits (inr (inr (some, first, stops))) =
    rw (lt-ltb i end some) (led_digits g w i end minus h some within digits first stops)

pub whole_by : (g : Notation) (w : List ℕ) (sign : Sign) (run : DigitsRun) → Signed g w sign.end sign.is_minus → ReadsLead g w sign.end run
    → ReadsWhole g w (record { end = run.end; is_number = nat_lt sign.end run.end; is_minus = sign.is_minus; digits = run.digits; fraction = 0 })
whole_by g w sign run h r =
    let led = led_by g w sign.end run.end sign.is_minus h r.within r.digits r.cases in
    record {
      state = led.state;
      reads = led.reads;
      ends = led.ends;
      next = led.next;
      sign = take sign.end w;
      whole = between w sign.end run.end;
      text = part-place w sign.end run.end r.order;
      sign_is = h.sign_is;
      whole_is = led.whole_is;
      minus = h.minus_is;
      keeps = r.keeps;
      dropped = r.dropped;
      count = refl;
    }

-- the same where there are some digits
pub whole_led : (g : Notation) (w : List ℕ) (sign : Sign) (run : DigitsRun) → ReadsSign g w 0 sign → ReadsLead g w sign.end run → sign.end < run.end
    → ReadsWhole g w (record { end = run.end; is_number = true; is_minus = sign.is_minus; digits = run.digits; fraction = 0 })
whole_led g w sign run signs r some =
    let P : Bool → Type 0 = λ z. ReadsWhole g w (record { end = run.end; is_number = z; is_minus = sign.is_minus; digits = run.digits; fraction = 0 }) in
    subst P (lt-ltb sign.end run.end some) (whole_by g w sign run (signed_by g w sign signs) r)
