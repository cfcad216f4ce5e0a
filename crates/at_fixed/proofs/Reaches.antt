-- How far plain numbers reach, where their digits are told by a mask and not read.
-- For `leading_number`, `plain_len` and `plain_number`.
use Rattle.std.proofs.Common.{◌≡◌, ℕ, ◌+◌, ◌-◌, ◌*◌, ◌^◌, ◌<◌, ◌≤◌, Bool, true, false, nat_lt, ◌==◌, ◌&&◌, List, ◌++◌, length, slice_index, Ok, take, ℤ, pos, neg_ℤ, if◌then◌else◌, inl, refl, sym, ap, ◌∙◌, subst, arith, lit<, pow-add}
use Rattle.std.proofs.lemmas.Bool.{lt-ltb}
use Rattle.at_fixed.specs.declared.number_ends.NumberEnd.{NumberEnd}
use Rattle.at_fixed.specs.declared.notation.Notation.{Notation}
use Rattle.at_fixed.specs.declared.rounding.Coords.{Coords}
use Rattle.at_fixed.specs.declared.rounding.Coords.TheVariants.{Round}
use Rattle.at_fixed.specs.declared.scanning.Mantissa.{Mantissa}
use Rattle.at_fixed.specs.declared.scanning.Sign.{Sign}
use Rattle.at_fixed.specs.declared.short_numbers.Whole.{Whole}
use Rattle.at_fixed.specs.NumberSoFar.{between, digits_behind, Keeps, KeepsDigits}
use Rattle.at_fixed.specs.Scans.{EndsRun, IsNumberEnd, IsKeptFront, IsLead, IsSizedIn, IsTenth, ReadsMantissa, ReadsSign, ReadsWhole, SurelyFits}
use Rattle.at_text.specs.Prefix.{TakesLongest}
use Rattle.at_fixed.specs.Fixed.{largest}
use Rattle.at_fixed.specs.Numerals.{AreDigits, NumberOf}
use Rattle.at_fixed.specs.Scanned.{IsPlain, IsValued}
use Rattle.at_fixed.specs.States.{is_letter}
use Rattle.at_fixed.proofs.DigitParts.{behind-both, behind_small, behind_split, kept_small, part-length, part-part, room_more, run_whole}
use Rattle.at_fixed.proofs.Endings.{longest_by}
use Rattle.at_fixed.proofs.Phases.{whole_led}
use Rattle.at_fixed.proofs.PlainRuns.{first_digits}
use Rattle.at_fixed.proofs.Points.{kept_front, plain_by}
use Rattle.at_fixed.proofs.Spelled.{fixed_by}
use Rattle.at_fixed.proofs.Valued.{tenth_ok, valued, valued_whole, whole_ok}

zeros_by : (x r p q t : ℕ) → p * q ≡ t → x * t + r * q ≡ (x * p + r) * q
zeros_by x r p q t e = rw (sym e) (grind arith)

-- the digits behind a point and those before it with zeros behind them
zeros_split : (x r d f : ℕ) → f ≤ d → x * 10 ^ d + r * 10 ^ (d - f) ≡ (x * 10 ^ f + r) * 10 ^ (d - f)
zeros_split x r d f h = grind (arith, zeros_by, pow-add)

nothing_kept : Keeps 0 0 false 0
nothing_kept = record { rest = 0; split = refl; small = lit< tt; cut = refl; full = λ some. absurd (omega (arith, some)); fits = lit< tt }

module _ (g : Notation) (w : List ℕ) (sign : Sign) (point : ℕ) (signs : ReadsSign g w 0 sign) (run : EndsRun w sign.end point) (some : sign.end < point) (lead : IsLead g w sign.end point) where
  -- what the digits before the point spell
  abbrev lead_value : ℕ
  lead_value = digits_behind 0 (between w sign.end point)

  lead_small : lead_value < 10 ^ (0 + (point - sign.end))
  lead_small = kept_small w sign.end point 0 lead_value 0 run.order (omega (arith, run.within)) run.digits refl (lit< tt)

  abbrev lead_read : Mantissa
  lead_read = record { end = point; is_number = true; is_minus = sign.is_minus; digits = record { kept = lead_value; dropped = 0; is_cut = false }; fraction = 0 }

  lead_reads : point ≤ 19 → ReadsWhole g w lead_read
  lead_reads few =
      let keeps : KeepsDigits w sign.end point 0 lead_value = record {
        order = run.order;
        within = omega (arith, run.within);
        digits = run.digits;
        value = refl;
        fits = room_more lead_value (0 + (point - sign.end)) 19 lead_small (omega (arith, few));
        full = λ big. absurd (omega (arith, big));
      } in
      whole_led g w sign (record { end = point; digits = record { kept = lead_value; dropped = 0; is_cut = false } }) signs (record {
        order = run.order;
        within = keeps.within;
        digits = run.digits;
        keeps = run_whole w sign.end point 0 0 0 lead_value false keeps nothing_kept;
        dropped = omega arith;
        cases = lead;
      }) some

  -- a number without a point
  pub plain_front : point ≤ 19 → (slice_index w point == 0x2E) ≡ false → IsKeptFront g w lead_read
  plain_front few none = record {
    reads = plain_by g w lead_read (lead_reads few) (no_point (nat_lt point (length w)) (slice_index w point == 0x2E) none);
    is_number = refl;
    dropped = refl;
    small = room_more lead_value (0 + (point - sign.end)) point lead_small (omega arith);
  } where
    no_point : (a b : Bool) → b ≡ false → (a && (b && true)) ≡ false
    no_point true true h = h
    no_point _ _ h = refl

  pub plain_whole : (digits : ℕ) (how : Coords) (size : ℕ) → size ≡ lead_value * 10 ^ digits → size ≤ largest → point ≤ 19 → (slice_index w point == 0x2E) ≡ false
      → IsSizedIn g w digits how (record { end = point; is_minus = sign.is_minus; size = size })
  plain_whole digits how size is bound few none = record {
    front = lead_read;
    kept = plain_front few none;
    end = refl;
    minus = refl;
    size = let all : digits ≡ digits - 0 = omega arith in
        let same : size ≡ lead_value * 10 ^ (digits - 0) = is ∙ ap (λ k. lead_value * 10 ^ k) all in
        whole_ok how lead_value digits 0 (omega arith) (omega (arith, same, bound)) ∙ ap Ok (sym same);
    bound = bound;
  }

  pub plain_end : point ≤ 19 → (slice_index w point == 0x2E) ≡ false → IsNumberEnd g w (record { end = point; fraction = 0 })
  plain_end few none = (lead_read, plain_front few none, refl, refl, omega (arith, few))

  module _ (number : NumberEnd) (behind : EndsRun w (point + 1) number.end) (count : number.end ≡ point + 1 + number.fraction) (more : 0 < number.fraction) (few : number.end ≤ 20) where
    -- what all digits spell
    abbrev value : ℕ
    value = digits_behind lead_value (between w (point + 1) number.end)

    value_small : value < 10 ^ ((0 + (point - sign.end)) + (number.end - (point + 1)))
    value_small = kept_small w (point + 1) number.end lead_value value (0 + (point - sign.end)) behind.order (omega (arith, behind.within)) behind.digits refl lead_small

    keeps : KeepsDigits w (point + 1) number.end lead_value value
    keeps = record {
      order = behind.order;
      within = omega (arith, behind.within);
      digits = behind.digits;
      value = refl;
      fits = room_more value ((0 + (point - sign.end)) + (number.end - (point + 1))) 19 value_small (omega (arith, count, few, some));
      full = λ big. absurd (omega (arith, big, room_more lead_value (0 + (point - sign.end)) 18 lead_small (omega (arith, count, few, more))));
    }

    abbrev front : Mantissa
    front = record { end = number.end; is_number = true; is_minus = sign.is_minus; digits = record { kept = value; dropped = 0; is_cut = false }; fraction = number.end - (point + 1) }

    reads : (slice_index w point == 0x2E) ≡ true → ReadsMantissa g w front
    reads stands =
        kept_front g w lead_read number.end value (lead_reads (omega (arith, count, few, more))) (point_taken (nat_lt point (length w)) (slice_index w point == 0x2E) (lt-ltb point (length w) run.within) stands)
        keeps (λ _. behind.stops) (omega (arith, count, more)) where
          point_taken : (a b : Bool) → a ≡ true → b ≡ true → (a && (b && true)) ≡ true
          point_taken a b h k = rw (h, k) refl

    -- a number with digits behind its point
    pub pointed_front : (slice_index w point == 0x2E) ≡ true → IsKeptFront g w front
    pointed_front stands = record {
      reads = reads stands;
      is_number = refl;
      dropped = refl;
      small = room_more value ((0 + (point - sign.end)) + (number.end - (point + 1))) number.end value_small (omega (arith, count, more));
    }

    pub pointed_whole : (digits : ℕ) (how : Coords) (size more_size : ℕ) → size ≡ lead_value * 10 ^ digits → more_size ≡ digits_behind 0 (between w (point + 1) number.end) * 10 ^ (digits - number.fraction)
        → number.fraction ≤ digits → size + more_size ≤ largest → (slice_index w point == 0x2E) ≡ true
        → IsSizedIn g w digits how (record { end = number.end; is_minus = sign.is_minus; size = size + more_size })
    pointed_whole digits how size more_size is more_is whole bound stands =
        let ds : List ℕ = between w (point + 1) number.end in
        let f : ℕ = number.end - (point + 1) in
        let r : ℕ = digits_behind 0 ds in
        let place : number.fraction ≡ f = omega (arith, count) in
        let long : length ds ≡ f = omega (arith, part-length w (point + 1) number.end behind.order (omega (arith, behind.within))) in
        let split : value ≡ lead_value * 10 ^ f + r = ap (λ n. digits_behind n ds) (omega arith) ∙ (behind_split lead_value 0 ds ∙ ap (λ n. lead_value * 10 ^ n + r) long) in
        let both : size + more_size ≡ lead_value * 10 ^ digits + r * 10 ^ (digits - f) = omega (arith, is, more_is, ap (λ n. r * 10 ^ (digits - n)) place) in
        let few_places : f ≤ digits = omega (arith, place, whole) in
        let same : size + more_size ≡ value * 10 ^ (digits - f) = both ∙ (zeros_split lead_value r digits f few_places ∙ ap (λ n. n * 10 ^ (digits - f)) (sym split)) in
        record {
          front = front;
          kept = pointed_front stands;
          end = refl;
          minus = refl;
          size = whole_ok how value digits f few_places (omega (arith, same, bound)) ∙ ap Ok (sym same);
          bound = bound;
        }

    -- a number with more digits behind its point than are kept
    pub pointed_rounded : (digits size first tenth : ℕ) → size ≡ lead_value * 10 ^ digits → first ≡ digits_behind 0 (between w (point + 1) (point + 1 + (digits + 1)))
        → digits < number.fraction → IsTenth first (digits_behind 0 (between w (point + 1 + (digits + 1)) number.end)) tenth → size + tenth ≤ largest → (slice_index w point == 0x2E) ≡ true
        → IsSizedIn g w digits Round (record { end = number.end; is_minus = sign.is_minus; size = size + tenth })
    pointed_rounded digits size first tenth is first_is long is_tenth bound stands =
        let mid : ℕ = point + 1 + (digits + 1) in
        let f : ℕ = number.end - (point + 1) in
        let near : mid ≤ number.end = omega (arith, count, long) in
        let within : number.end ≤ length w = omega (arith, behind.within) in
        let fs : List ℕ = between w (point + 1) mid in
        let rs : List ℕ = between w mid number.end in
        let R : ℕ = digits_behind 0 rs in
        let digits_are : AreDigits rs = (first_digits w (point + 1) mid number.end (omega arith) near within behind.digits).1 in
        let parts : between w (point + 1) number.end ≡ fs ++ rs = part-part w (point + 1) mid number.end (omega arith) near within in
        let firsts : length fs ≡ digits + 1 = omega (arith, part-length w (point + 1) mid (omega arith) (omega (arith, near, within))) in
        let rests : length rs ≡ number.end - mid = omega (arith, part-length w mid number.end near within) in
        let K : ℕ = lead_value * 10 ^ (digits + 1) + first in
        let kept : digits_behind lead_value fs ≡ K =
        ap (λ n. digits_behind n fs) (omega arith) ∙ (behind_split lead_value 0 fs ∙ (ap (λ n. lead_value * 10 ^ n + digits_behind 0 fs) firsts ∙ ap (λ n. lead_value * 10 ^ (digits + 1) + n) (sym first_is))) in
        let split : value ≡ K * 10 ^ length rs + R =
        ap (digits_behind lead_value) parts ∙ (behind-both lead_value fs rs ∙ (ap (λ n. digits_behind n rs) kept ∙ (ap (λ n. digits_behind n rs) (omega arith) ∙ behind_split K 0 rs))) in
        let small : R < 1 * 10 ^ length rs = behind_small 0 1 rs (lit< tt) digits_are in
        record {
          front = front;
          kept = pointed_front stands;
          end = refl;
          minus = refl;
          size = tenth_ok value lead_value first R (length rs) digits f size tenth split (omega (arith, small)) (omega (arith, rests, near)) is is_tenth bound;
          bound = bound;
        }

    pub pointed_end : (slice_index w point == 0x2E) ≡ true → IsNumberEnd g w number
    pointed_end stands = (front, pointed_front stands, refl, omega (arith, count), omega (arith, few))

-- behind which no exponent stands
front_taken : (g : Notation) (w : List ℕ) (front : Mantissa) → IsKeptFront g w front → is_letter (slice_index w front.end) ≡ false
    → TakesLongest (NumberOf g) w (record { len = front.end; whole = true })
front_taken g w front kept letter =
    longest_by g w front (record { end = front.end; is_number = true; is_minus = false; size = 0 }) kept.reads (record {
      fits = lit< tt;
      cases = inl (record { same = refl; ends = sym kept.is_number; minus = refl; size = refl; no_letter = λ _ _. letter });
    })

-- a number that reaches so far surely has a value
pub valued_by : (g : Notation) (w : List ℕ) (number : NumberEnd) (digits : ℕ) (how : Coords) → IsNumberEnd g w number → is_letter (slice_index w number.end) ≡ false
    → SurelyFits number.end number.fraction digits how → IsValued g w digits how number.end
valued_by g w number digits how (front, kept, end, fraction, near) letter fits =
    let (n, is_numeral, text, (v, e)) = valued g w front digits how kept (rw (end, fraction) fits) in
    subst (IsValued g w digits how) end (record {
      taken = front_taken g w front kept (rw end letter);
      value = v;
      value_is = fixed_by g (take front.end w) digits how (Ok v) n is_numeral text (sym e);
    })

-- and this value, where it is whole
pub whole_plain : (g : Notation) (w : List ℕ) (digits : ℕ) (how : Coords) (whole : Whole) (v : ℤ) → IsSizedIn g w digits how whole → is_letter (slice_index w whole.end) ≡ false
    → v ≡ (if whole.is_minus then neg_ℤ (pos whole.size) else pos whole.size) → IsPlain g w digits how (record { len = whole.end; value = v })
whole_plain g w digits how whole v h letter e =
    let (n, is_numeral, text, is) = valued_whole g w digits how whole h in
    record {
      taken = subst (λ z. TakesLongest (NumberOf g) w (record { len = z; whole = true })) h.end (front_taken g w h.front h.kept (rw h.end letter));
      value = fixed_by g (take whole.end w) digits how (Ok v) n is_numeral text (ap Ok e ∙ sym is);
    }
