-- What is read of the number that begins a text. Only contracts of private functions cite this.
use Rattle.std.specs.Prelude.{◌≡◌, ℕ, ◌+◌, ◌^◌, ◌<◌, IsTrue, true, if◌then◌else◌, List, take, ℤ, Ok}
use Rattle.at_text.specs.Prefix.{TakesLongest}
use Rattle.at_fixed.specs.declared.notation.Notation.{Notation}
use Rattle.at_fixed.specs.declared.plain_numbers.PlainNumber.{PlainNumber}
use Rattle.at_fixed.specs.declared.scanning.Mantissa.{Mantissa}
use Rattle.at_fixed.specs.declared.scanning.Power.{Power}
use Rattle.at_fixed.specs.declared.scanning.Scanned.{Scanned}
use Rattle.at_fixed.specs.declared.rounding.Coords.{Coords}
use Rattle.at_fixed.specs.Fixed.{IsFixedOf}
use Rattle.at_fixed.specs.Numerals.{Numeral, numeral_text, IsNumeralOf, NumberOf}
use Rattle.at_fixed.specs.Decimals.{IsDecimalOf}

-- the two halves of a number put together
abbrev pub both_halves : Mantissa → Power → Scanned
both_halves front power = record {
  len = power.end;
  is_number = power.is_number;
  decimal = record {
    is_minus = front.is_minus;
    kept = front.digits.kept;
    is_cut = front.digits.is_cut;
    up = front.digits.dropped + (if power.is_minus then 0 else power.size);
    down = front.fraction + (if power.is_minus then power.size else 0);
  };
}

-- a number of so many bytes begins the text, and has a value
pub record IsValued (notation : Notation) (w : List ℕ) (digits : ℕ) (how : Coords) (len : ℕ) : Type 0 where
  pub taken : TakesLongest (NumberOf notation) w (record { len = len; whole = true })
  pub value : ℤ
  pub value_is : IsFixedOf (take len w) digits how (Ok value)

-- the number begins the text
pub record IsPlain (notation : Notation) (w : List ℕ) (digits : ℕ) (how : Coords) (number : PlainNumber) : Type 0 where
  pub taken : TakesLongest (NumberOf notation) w (record { len = number.len; whole = true })
  pub value : IsFixedOf (take number.len w) digits how (Ok number.value)

-- the longest prefix that is the beginning of a number, and what that number is
pub record IsScanned (notation : Notation) (w : List ℕ) (scanned : Scanned) : Type 0 where
  pub taken : TakesLongest (NumberOf notation) w (record { len = scanned.len; whole = scanned.is_number })
  pub value : IsTrue scanned.is_number → (n : Numeral) × IsNumeralOf notation n × (take scanned.len w ≡ numeral_text n)
      × IsDecimalOf scanned.decimal n
  pub small : scanned.decimal.up < 2 ^ 50
  pub fits : scanned.decimal.kept < 10 ^ 19
