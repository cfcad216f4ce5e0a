-- The value of a number without division: what each answer says of whole numbers, by products alone.
use Rattle.std.specs.Prelude.{◌≡◌, ◌≢◌, ℕ, zero, suc, ◌+◌, ◌*◌, ◌%◌, ◌^◌, ◌<◌, ◌≤◌, ◌⊎◌, ℤ, length, Result, Ok, Err}
use Rattle.at_fixed.specs.declared.rounding.Coords.{Coords}
use Rattle.at_fixed.specs.declared.rounding.Coords.TheVariants.{Exact, Round}
use Rattle.at_fixed.specs.declared.rounding.FixedFault.{FixedFault}
use Rattle.at_fixed.specs.declared.rounding.FixedFault.TheVariants.{Scale, Range}
use Rattle.at_fixed.specs.Numerals.{Numeral}
use Rattle.at_fixed.specs.Fixed.{largest, has_minus, mantissa, fraction_digits, exponent_above, exponent_below, signed}

-- the exact value of p over q: it is a whole number of at most the largest size, or it is larger, or no whole number
pub record IsExact (p q : ℕ) (size : Result ℕ FixedFault) : Type 0 where
  pub value : (r : ℕ) → size ≡ Ok r → (r * q ≡ p) × (p ≤ largest * q)
  pub range : size ≡ Err Range → largest * q < p
  pub scale : size ≡ Err Scale → (p ≤ largest * q) × ((r : ℕ) → r * q ≢ p)

-- r is as near to p over q as a whole number can be, and even where another is as near
pub record IsNearest (p q r : ℕ) : Type 0 where
  pub not_below : 2 * p ≤ 2 * (r * q) + q
  pub not_above : 2 * (r * q) ≤ 2 * p + q
  pub even : ((2 * p ≡ 2 * (r * q) + q) ⊎ (2 * (r * q) ≡ 2 * p + q)) → r % 2 ≡ 0

-- the rounded value of p over q: the nearest number, unless that is larger than the largest
pub record IsRounded (p q : ℕ) (size : Result ℕ FixedFault) : Type 0 where
  pub nearest : ℕ
  pub is_nearest : IsNearest p q nearest
  pub value : (r : ℕ) → size ≡ Ok r → (r ≡ nearest) × (r ≤ largest)
  pub range : size ≡ Err Range → largest < nearest
  pub scale : size ≢ Err Scale

abbrev pub IsQuotient : Coords → ℕ → ℕ → Result ℕ FixedFault → Type 0
IsQuotient Exact p q size = IsExact p q size
IsQuotient Round p q size = IsRounded p q size

-- m * 10 ^ above over 10 ^ below; where m is 0 it is 0
abbrev pub IsSize : Coords → ℕ → ℕ → ℕ → Result ℕ FixedFault → Type 0
IsSize how zero above below size = size ≡ Ok 0
IsSize how (suc m) above below size = IsQuotient how (suc m * 10 ^ above) (10 ^ below) size

-- the answer is a size with the number's sign
pub record IsValue (n : Numeral) (digits : ℕ) (how : Coords) (answer : Result ℤ FixedFault) : Type 0 where
  pub size : Result ℕ FixedFault
  pub is_size : IsSize how (mantissa n) (digits + exponent_above n.exponent) (length (fraction_digits n)
      + exponent_below n.exponent) size
  pub sign : answer ≡ signed (has_minus n.sign) size
