-- What the steps of reading a number promise each other. Only contracts of private functions cite this.
use Rattle.std.specs.Prelude.{◌≡◌, ℕ, ◌+◌, ◌-◌, ◌^◌, ◌<◌, ◌≤◌, ◌⊎◌, List, [], ◌∷◌, ◌++◌, length, take, slice_index}
use Rattle.std.specs.Prelude.{Bool, true, false, nat_lt, ◌==◌, ◌&&◌, ◌||◌, Option, Some, None, IfSome, Ok, ◌/◌, ◌%◌}
use Rattle.at_text.specs.Texts.{is_digit}
use Rattle.at_fixed.specs.declared.notation.Notation.{Notation}
use Rattle.at_fixed.specs.declared.notation.Notation.TheVariants.{Json, Wkt}
use Rattle.at_fixed.specs.declared.rounding.Coords.{Coords}
use Rattle.at_fixed.specs.declared.rounding.Coords.TheVariants.{Round}
use Rattle.at_fixed.specs.declared.digits.DigitsRun.{DigitsRun}
use Rattle.at_fixed.specs.declared.digits.KeptRun.{KeptRun}
use Rattle.at_fixed.specs.declared.ends.Ends.{Ends}
use Rattle.at_fixed.specs.declared.number_ends.NumberEnd.{NumberEnd}
use Rattle.at_fixed.specs.declared.scanning.Sign.{Sign}
use Rattle.at_fixed.specs.declared.scanning.Mantissa.{Mantissa}
use Rattle.at_fixed.specs.declared.scanning.Power.{Power}
use Rattle.at_fixed.specs.declared.short_numbers.Whole.{Whole}
use Rattle.at_fixed.specs.Numerals.{fraction_text, IsAtMostOneOf, AreDigits, AreSomeDigits, IsJsonWhole, AreWktDigits}
use Rattle.at_fixed.specs.Numerals.{digits_value}
use Rattle.at_fixed.specs.Fixed.{has_minus, largest, size_of}
use Rattle.at_fixed.specs.NumberSoFar.{between, Keeps, KeepsDigits, SameOrHuge}
use Rattle.at_fixed.specs.States.{State, Reads, step, accepts, is_letter, is_lead_sign, after_fraction, after_whole}
use Rattle.at_fixed.specs.States.{lone_point}

abbrev pub is_wkt : Notation → Bool
is_wkt Json = false
is_wkt Wkt = true

-- no sign stands at the place, or the sign does
abbrev pub ReadsSign : Notation → List ℕ → ℕ → Sign → Type 0
ReadsSign notation w from sign =
    ((sign.end ≡ from) × (sign.is_minus ≡ false)
    × (from < length w → is_lead_sign notation (slice_index w from) ≡ false))
    ⊎ ((sign.end ≡ from + 1) × (from < length w) × (is_lead_sign notation (slice_index w from) ≡ true)
    × (sign.is_minus ≡ (slice_index w from == 0x2D)))

-- all digits from a place on up to another, behind a number: what they spell is kept, and none stands there where the
-- run is whole
pub record KeepsRun (w : List ℕ) (from before : ℕ) (run : KeptRun) : Type 0 where
  pub keeps : KeepsDigits w from run.end before run.kept
  pub stops : run.is_whole ≡ true → run.end < length w → is_digit (slice_index w run.end) ≡ false
  pub filled : run.is_whole ≡ false → run.end ≡ from + 8

-- digits stand up to a place, and none there
pub record EndsRun (w : List ℕ) (from to : ℕ) : Type 0 where
  pub order : from ≤ to
  pub within : to < length w
  pub digits : AreDigits (between w from to)
  pub stops : is_digit (slice_index w to) ≡ false

-- the sign of a number, and the first two places behind it where no digit stands
pub record AreEnds (notation : Notation) (w : List ℕ) (ends : Ends) : Type 0 where
  pub sign : ReadsSign notation w 0 ends.sign
  pub lead : EndsRun w ends.sign.end ends.first
  pub behind : EndsRun w (ends.first + 1) ends.second

-- all digits from a place on, of which there are at most sixteen, behind a number with room for so many
pub record KeepsFar (w : List ℕ) (from before room : ℕ) (run : KeptRun) : Type 0 where
  pub keeps : KeepsRun w from before run
  pub whole : run.is_whole ≡ true
  pub near : run.end ≤ from + 16
  pub small : run.kept < 10 ^ (19 - room + (run.end - from))

-- in JSON no digit may stand behind a 0 at the beginning
abbrev pub IsLoneZero : Notation → ℕ → Bool → Type 0
IsLoneZero notation b lone = (lone ≡ true → (notation ≡ Json) × (b ≡ 0x30)) × (lone ≡ false → notation ≡ Json
    → (b == 0x30) ≡ false)

-- how the digits before the point stand
abbrev pub IsLead : Notation → List ℕ → ℕ → ℕ → Type 0
IsLead notation w from end =
    ((end ≡ from) × (from < length w → is_digit (slice_index w from) ≡ false))
    ⊎ (((notation ≡ Json) × (end ≡ from + 1) × (slice_index w from ≡ 0x30))
    ⊎ ((from < end) × (notation ≡ Json → (slice_index w from == 0x30) ≡ false)
    × (end < length w → is_digit (slice_index w end) ≡ false)))

pub record ReadsLead (notation : Notation) (w : List ℕ) (from : ℕ) (run : DigitsRun) : Type 0 where
  pub order : from ≤ run.end
  pub within : run.end ≤ length w
  pub digits : AreDigits (between w from run.end)
  pub keeps : Keeps run.digits.kept run.digits.dropped run.digits.is_cut (digits_value (between w from run.end))
  pub dropped : run.digits.dropped ≤ run.end
  pub cases : IsLead notation w from run.end

-- the signs before a number
abbrev pub IsSignOf : Notation → List ℕ → Type 0
IsSignOf Json sign = IsAtMostOneOf (0x2D ∷ []) sign
IsSignOf Wkt sign = IsAtMostOneOf (0x2B ∷ 0x2D ∷ []) sign

-- digits before the point, or none
abbrev pub IsWholeOf : Notation → Bool → List ℕ → Type 0
IsWholeOf notation false whole = whole ≡ []
IsWholeOf Json true whole = IsJsonWhole whole
IsWholeOf Wkt true whole = AreSomeDigits whole

-- what a byte does behind the digits before the point, or where there are none
abbrev pub after_lead : Notation → Bool → ℕ → Option State
after_lead notation true b = after_whole notation b
after_lead notation false b = lone_point notation b

pub record ReadsWhole (notation : Notation) (w : List ℕ) (read : Mantissa) : Type 0 where
  pub state : State
  pub reads : Reads notation w read.end state
  pub ends : accepts state ≡ read.is_number
  pub next : read.end < length w → step notation state (slice_index w read.end) ≡ after_lead notation read.is_number
      (slice_index w read.end)
  pub sign : List ℕ
  pub whole : List ℕ
  pub text : take read.end w ≡ sign ++ whole
  pub sign_is : IsSignOf notation sign
  pub whole_is : IsWholeOf notation read.is_number whole
  pub minus : read.is_minus ≡ has_minus sign
  pub keeps : Keeps read.digits.kept read.digits.dropped read.digits.is_cut (digits_value whole)
  pub dropped : read.digits.dropped ≤ read.end
  pub count : read.fraction ≡ 0

-- whether a point stands behind the digits and may stand there
abbrev pub may_take_point : Notation → List ℕ → Mantissa → Bool
may_take_point notation w read =
    nat_lt read.end (length w) && ((slice_index w read.end == 0x2E) && (read.is_number || is_wkt notation))

-- the parts of a number before its exponent
abbrev pub IsFrontOf : Notation → List ℕ → List ℕ → Option (List ℕ) → Type 0
IsFrontOf Json sign whole fraction = IsAtMostOneOf (0x2D ∷ []) sign × IsJsonWhole whole × IfSome fraction AreSomeDigits
IsFrontOf Wkt sign whole fraction = IsAtMostOneOf (0x2B ∷ 0x2D ∷ []) sign × AreWktDigits whole fraction

abbrev pub digits_of : Option (List ℕ) → List ℕ
digits_of fraction = elim fraction [ None ↦ [] | Some digits ↦ digits ]

-- what is read of a number before its exponent
pub record IsMantissaOf (notation : Notation) (w : List ℕ) (read : Mantissa) : Type 0 where
  pub sign : List ℕ
  pub whole : List ℕ
  pub fraction : Option (List ℕ)
  pub text : take read.end w ≡ sign ++ (whole ++ fraction_text fraction)
  pub is_front : IsFrontOf notation sign whole fraction
  pub minus : read.is_minus ≡ has_minus sign
  pub keeps : Keeps read.digits.kept read.digits.dropped read.digits.is_cut (digits_value (whole ++ digits_of fraction))
  pub count : read.fraction ≡ length (digits_of fraction)

-- what a byte does behind a number without exponent
abbrev pub after_mantissa : Bool → ℕ → Option State
after_mantissa true b = after_fraction b
after_mantissa false b = None

pub record ReadsMantissa (notation : Notation) (w : List ℕ) (read : Mantissa) : Type 0 where
  pub state : State
  pub reads : Reads notation w read.end state
  pub ends : accepts state ≡ read.is_number
  pub next : read.end < length w → step notation state (slice_index w read.end)
      ≡ after_mantissa read.is_number (slice_index w read.end)
  pub parts : read.is_number ≡ true → IsMantissaOf notation w read
  pub dropped : read.digits.dropped ≤ read.end
  pub fits : read.digits.kept < 10 ^ 19
  pub count : read.fraction ≤ read.end

-- a number up to its exponent, all digits of which are kept
pub record IsKeptFront (notation : Notation) (w : List ℕ) (read : Mantissa) : Type 0 where
  pub reads : ReadsMantissa notation w read
  pub is_number : read.is_number ≡ true
  pub dropped : read.digits.dropped ≡ 0
  pub small : read.digits.kept < 10 ^ read.end

-- a number up to its exponent ends there, with so many digits behind its point
abbrev pub IsNumberEnd : Notation → List ℕ → NumberEnd → Type 0
IsNumberEnd notation w number = (front : Mantissa) × IsKeptFront notation w front × (front.end ≡ number.end)
    × (front.fraction ≡ number.fraction) × (number.end < 32)

-- a number up to its exponent, and its size in units of 10 ^ -digits, exact or rounded
pub record IsSizedIn (notation : Notation) (w : List ℕ) (digits : ℕ) (how : Coords) (whole : Whole) : Type 0 where
  pub front : Mantissa
  pub kept : IsKeptFront notation w front
  pub end : front.end ≡ whole.end
  pub minus : front.is_minus ≡ whole.is_minus
  pub size : size_of how front.digits.kept digits front.fraction ≡ Ok whole.size
  pub bound : whole.size ≤ largest

-- the whole number nearest to a tenth of a number with a fraction behind it, which is some where the number ends in a 5
abbrev pub IsTenth : ℕ → ℕ → ℕ → Type 0
IsTenth number fraction tenth = (tenth ≡ (number + 5) / 10) × (number % 10 ≡ 5 → 0 < fraction)

-- a number of so many bytes, of which so many are digits behind its point, is not out of range, and is whole or rounded
abbrev pub SurelyFits : ℕ → ℕ → ℕ → Coords → Type 0
SurelyFits end fraction digits how = (end + digits ≤ 14 + fraction) × ((how ≡ Round) ⊎ (fraction ≤ digits))

-- an exponent that begins at a place, up to where it can go on
pub record ReadsExponent (w : List ℕ) (from : ℕ) (power : Power) : Type 0 where
  pub inside : from < length w
  pub letter : is_letter (slice_index w from) ≡ true
  pub sign : Sign
  pub reads_sign : ReadsSign Wkt w (from + 1) sign
  pub minus : power.is_minus ≡ sign.is_minus
  pub order : sign.end ≤ power.end
  pub within : power.end ≤ length w
  pub digits : AreDigits (between w sign.end power.end)
  pub stops : power.end < length w → is_digit (slice_index w power.end) ≡ false
  pub size : SameOrHuge power.size (digits_value (between w sign.end power.end))
  pub ends : power.is_number ≡ nat_lt sign.end power.end

-- no exponent stands there
pub record ReadsNone (w : List ℕ) (read : Mantissa) (power : Power) : Type 0 where
  pub same : power.end ≡ read.end
  pub ends : power.is_number ≡ read.is_number
  pub minus : power.is_minus ≡ false
  pub size : power.size ≡ 0
  pub no_letter : read.is_number ≡ true → read.end < length w → is_letter (slice_index w read.end) ≡ false

pub record ReadsPower (w : List ℕ) (read : Mantissa) (power : Power) : Type 0 where
  pub fits : power.size < 2 ^ 40
  pub cases : ReadsNone w read power ⊎ ((read.is_number ≡ true) × ReadsExponent w read.end power)
