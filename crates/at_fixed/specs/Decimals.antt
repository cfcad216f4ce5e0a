-- What is kept of a whole number, for its value. Only contracts of private functions cite this.
use Rattle.std.specs.Prelude.{◌≡◌, ℕ, ◌+◌, ◌^◌, ◌≤◌, length}
use Rattle.at_fixed.specs.declared.scanning.Decimal.{Decimal}
use Rattle.at_fixed.specs.Numerals.{Numeral}
use Rattle.at_fixed.specs.Fixed.{fraction_digits, has_minus, mantissa, exponent_above, exponent_below}
use Rattle.at_fixed.specs.NumberSoFar.{Keeps, SameOrHuge}

-- what is kept of the number n
pub record IsDecimalOf (decimal : Decimal) (n : Numeral) : Type 0 where
  pub minus : decimal.is_minus ≡ has_minus n.sign
  pub dropped : ℕ
  pub above : ℕ
  pub below : ℕ
  pub keeps : Keeps decimal.kept dropped decimal.is_cut (mantissa n)
  pub up : decimal.up ≡ dropped + above
  pub down : decimal.down ≡ length (fraction_digits n) + below
  pub above_is : SameOrHuge above (exponent_above n.exponent)
  pub below_is : SameOrHuge below (exponent_below n.exponent)
  pub few_dropped : dropped ≤ 2 ^ 28
  pub few_digits : length (fraction_digits n) ≤ 2 ^ 28
