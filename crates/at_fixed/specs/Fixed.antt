-- The value of a number's text in units of 10 ^ -digits, and the text of a value.
use Rattle.std.specs.Prelude.{◌≡◌, ℕ, zero, suc, ◌+◌, ◌*◌, ◌/◌, ◌%◌, ◌^◌, ℤ, pos, negsuc, neg_ℤ, Bool, nat_lt, ◌==◌}
use Rattle.std.specs.Prelude.{if◌then◌else◌, List, [], ◌∷◌, ◌++◌, length, Option, Some, None, Result, Ok, Err, decimal}
use Rattle.std.specs.List.{list_any}
use Rattle.at_fixed.specs.declared.rounding.Coords.{Coords}
use Rattle.at_fixed.specs.declared.rounding.Coords.TheVariants.{Exact, Round}
use Rattle.at_fixed.specs.declared.rounding.FixedFault.{FixedFault}
use Rattle.at_fixed.specs.declared.rounding.FixedFault.TheVariants.{Scale, Range}
use Rattle.at_fixed.specs.Numerals.{Exponent, Numeral, SpellsNumeral, digits_value}

abbrev pub fraction_digits : Numeral → List ℕ
fraction_digits n = elim n.fraction [ None ↦ [] | Some digits ↦ digits ]

-- whether a minus stands among the sign's bytes
abbrev pub has_minus : List ℕ → Bool
has_minus sign = list_any (λ b. b == 0x2D) sign

-- the size of the whole number of all digits, the point left out
abbrev pub mantissa : Numeral → ℕ
mantissa n = digits_value (n.whole ++ fraction_digits n)

abbrev pub exponent_above : Option Exponent → ℕ
exponent_above None = 0
exponent_above (Some e) = if has_minus e.sign then 0 else digits_value e.digits

abbrev pub exponent_below : Option Exponent → ℕ
exponent_below None = 0
exponent_below (Some e) = if has_minus e.sign then digits_value e.digits else 0

-- the largest size of a coordinate, in units
abbrev pub largest : ℕ
largest = 3 * 10 ^ 14

-- p over q where that is whole and at most the largest; what is larger is out of range, before all else
abbrev pub exact_quotient : ℕ → ℕ → Result ℕ FixedFault
exact_quotient p q = if nat_lt (largest * q) p then Err Range else (if p % q == 0 then Ok (p / q) else Err Scale)

-- the whole number nearest to p over q, and the even one of two that are as near
abbrev pub nearest : ℕ → ℕ → ℕ
nearest p q = if nat_lt q (2 * (p % q)) then p / q + 1 else (if 2 * (p % q) == q then p / q + (p / q) % 2 else p / q)

abbrev pub rounded_quotient : ℕ → ℕ → Result ℕ FixedFault
rounded_quotient p q = if nat_lt largest (nearest p q) then Err Range else Ok (nearest p q)

abbrev pub quotient : Coords → ℕ → ℕ → Result ℕ FixedFault
quotient Exact p q = exact_quotient p q
quotient Round p q = rounded_quotient p q

-- the size of a value: m * 10 ^ above over 10 ^ below; where m is 0 it is 0
abbrev pub size_of : Coords → ℕ → ℕ → ℕ → Result ℕ FixedFault
size_of how zero above below = Ok 0
size_of how (suc m) above below = quotient how (suc m * 10 ^ above) (10 ^ below)

abbrev pub signed : Bool → Result ℕ FixedFault → Result ℤ FixedFault
signed minus (Ok size) = Ok (if minus then neg_ℤ (pos size) else pos size)
signed minus (Err fault) = Err fault

-- the value of a number in units of 10 ^ -digits, exact or rounded, or why it has none
abbrev pub fixed_of : Numeral → ℕ → Coords → Result ℤ FixedFault
fixed_of n digits how = signed (has_minus n.sign)
    (size_of how (mantissa n) (digits + exponent_above n.exponent) (length (fraction_digits n)
    + exponent_below n.exponent))

-- the answer is the value of the one number that the text spells
pub record IsFixedOf (text : List ℕ) (digits : ℕ) (how : Coords) (answer : Result ℤ FixedFault) : Type 0 where
  pub numeral : Numeral
  pub spelled : SpellsNumeral text numeral
  pub only : (other : Numeral) → SpellsNumeral text other → other ≡ numeral
  pub value : answer ≡ fixed_of numeral digits how

-- the last count digits of a number
abbrev pub last_digits : ℕ → ℕ → List ℕ
last_digits zero n = []
last_digits (suc count) n = last_digits count (n / 10) ++ (0x30 + n % 10) ∷ []

-- the size of a value, for numbers of at most 64 digits (std's decimal)
abbrev pub written_size : ℕ → ℕ → List ℕ
written_size n digits = decimal (n / 10 ^ digits) ++ 0x2E ∷ last_digits digits n

-- a minus where the value is below 0, the whole part without leading zeros, a point and exactly so many digits
abbrev pub written : ℤ → ℕ → List ℕ
written (pos n) digits = written_size n digits
written (negsuc n) digits = 0x2D ∷ written_size (suc n) digits
