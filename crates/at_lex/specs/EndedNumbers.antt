-- The parts of a number, as a reader passes over them. No public clause cites it.
use Rattle.std.specs.Prelude.{◌≡◌, ℕ, ◌<◌, ◌≤◌, false, List, length, take, slice_index, Option, IfSome}
use Rattle.at_text.specs.Texts.{is_run}
use Rattle.at_fixed.specs.Numerals.{Exponent, fraction_text, exponent_text, AreSomeDigits, IsExponent, JsonNumber}

-- the first n bytes are a point and digits, or nothing
abbrev pub IsFraction : List ℕ → ℕ → Type 0
IsFraction w n = (n ≤ length w) × (fraction : Option (List ℕ)) × IfSome fraction AreSomeDigits
    × (take n w ≡ fraction_text fraction)

-- the first n bytes are an exponent, or nothing
abbrev pub IsPower : List ℕ → ℕ → Type 0
IsPower w n = (n ≤ length w) × (exponent : Option Exponent) × IfSome exponent IsExponent
    × (take n w ≡ exponent_text exponent)

-- the first n bytes are a number, and a byte that is of no run stands behind them
pub record IsEndedNumber (w : List ℕ) (n : ℕ) : Type 0 where
  pub some : 0 < n
  pub ends : n < length w
  pub number : JsonNumber (take n w)
  pub behind : is_run (slice_index w n) ≡ false
