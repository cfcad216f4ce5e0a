-- Digits that are read eight at a time, and all kept.
-- For `leading_number`, `plain_len` and `plain_number`.
use Rattle.std.proofs.Common.{◌≡◌, ◌==◌, not, IsTrue, slice_index, ◌^◌, ℕ, ◌+◌, true, false, arith, List, [], ◌∷◌, ◌++◌, ◌≤◌, ◌<◌, ◌-◌, length, subst, lit<}
use Rattle.at_text.specs.Texts.{is_digit}
use Rattle.at_fixed.specs.declared.digits.KeptRun.{KeptRun}
use Rattle.at_fixed.specs.Numerals.{AreDigits}
use Rattle.at_fixed.specs.NumberSoFar.{between, digits_behind, KeepsDigits}
use Rattle.at_fixed.specs.Scans.{EndsRun, KeepsRun}
use Rattle.at_fixed.proofs.DigitParts.{behind-both, keeps_both, kept_small, part-more, part-part, room_more}

-- eight digits, and the further ones behind them
pub both_runs : (w : List ℕ) (from before : ℕ) (first second : KeptRun) → KeepsRun w from before first → first.is_whole ≡ false → KeepsRun w first.end first.kept second → second.is_whole ≡ true
    → KeepsRun w from before second
both_runs w from before first second h more k whole = record {
  keeps = keeps_both w from first.end second.end before first.kept second.kept h.keeps k.keeps;
  stops = k.stops;
  filled = λ e. absurd (cc);
}

-- ---- digits whose end is known

digits_split : (ds es : List ℕ) → AreDigits (ds ++ es) → AreDigits ds × AreDigits es
digits_split [] es h = (tt, h)
digits_split (d ∷ ds) es (first, h) = let (front, back) = digits_split ds es h in ((first, front), back)

pub first_digits : (w : List ℕ) (from mid to : ℕ) → from ≤ mid → mid ≤ to → to ≤ length w → AreDigits (between w from to) → AreDigits (between w from mid) × AreDigits (between w mid to)
first_digits w from mid to order more within h = digits_split (between w from mid) (between w mid to) (subst AreDigits (part-part w from mid to order more within) h)

-- more than eight digits, in two parts
pub long_parts : (w : List ℕ) (from to : ℕ) → from + 8 < to → to ≤ length w → AreDigits (between w from to)
    → AreDigits (between w from (from + 8)) × AreDigits (between w (from + 8) (from + 8 + (to - from - 8)))
long_parts w from to many within digits =
    let place : from + 8 + (to - from - 8) ≡ to = omega (arith, many) in
    rw place (first_digits w from (from + 8) to (omega arith) (omega (arith, many)) within digits)

pub run_to : (w : List ℕ) (from to before kept : ℕ) → EndsRun w from to → KeepsDigits w from to before kept → KeepsRun w from before (record { end = to; kept = kept; is_whole = true })
run_to w from to before kept h k = record { keeps = k; stops = λ _ _. h.stops; filled = λ e. absurd (cc) }

digit_above : (b : ℕ) → IsTrue (is_digit b) → IsTrue (not (b == 0x30)) → 0 < b - 0x30
digit_above b h k = grind (arith, h, k)

-- digits the last of which isn't a 0 spell more than 0
pub above_zero : (w : List ℕ) (from to : ℕ) → from < to → to ≤ length w → AreDigits (between w from to) → IsTrue (not (slice_index w (to - 1) == 0x30)) → 0 < digits_behind 0 (between w from to)
above_zero w from to h k l m = grind (arith, part-more, digits_split, behind-both, digit_above)

-- ---- how large what is kept may be

-- how large the number is that the first of some digits spell
pub first_small : (w : List ℕ) (from count to number : ℕ) → EndsRun w from to → from + count ≤ to → number ≡ digits_behind 0 (between w from (from + count)) → number < 10 ^ count
first_small w from count to number run more is =
    let digits : AreDigits (between w from (from + count)) = (first_digits w from (from + count) to (omega arith) more (omega (arith, run.within)) run.digits).0 in
    let long : 0 + (from + count - from) ≡ count = omega arith in
    let P : ℕ → Type 0 = λ n. number < 10 ^ n in
    subst P long (kept_small w from (from + count) 0 number 0 (omega arith) (omega (arith, run.within, more)) digits is (lit< tt))

-- the number that digits up to a place spell, and how large it is
pub spelled_to : (w : List ℕ) (from to number : ℕ) → EndsRun w from to → number ≡ digits_behind 0 (between w from (from + (to - from)))
    → (number ≡ digits_behind 0 (between w from to)) × (number < 10 ^ (to - from))
spelled_to w from to number run is =
    let place : from + (to - from) ≡ to = omega (arith, run.order) in
    let value : number ≡ digits_behind 0 (between w from to) = rw place at is in
    (value, room_more number (0 + (to - from)) (to - from) (kept_small w from to 0 number 0 run.order (omega (arith, run.within)) run.digits value (lit< tt)) (omega arith))
