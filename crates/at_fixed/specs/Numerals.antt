-- Numbers as texts: the parts of a number, how they are spelled, and which parts each format allows.
use Rattle.std.specs.Prelude.{◌≡◌, ℕ, ◌+◌, ◌-◌, ◌*◌, ◌⊎◌, List, [], ◌∷◌, ◌++◌, Option, Some, None, IfSome, IsTrue}
use Rattle.std.specs.Prelude.{nat_le, ◌&&◌, ⊤, fold}
use Rattle.std.specs.List.{AllByRecursion}
use Rattle.at_text.specs.Texts.{is_digit, is_one_of}
use Rattle.at_fixed.specs.declared.notation.Notation.{Notation}
use Rattle.at_fixed.specs.declared.notation.Notation.TheVariants.{Json, Wkt}

-- a letter, a sign or none, digits
pub record Exponent : Type 0 where
  pub letter : ℕ
  pub sign : List ℕ
  pub digits : List ℕ

-- a sign or none, the digits before the point, behind a point the digits after it, an exponent
pub record Numeral : Type 0 where
  pub sign : List ℕ
  pub whole : List ℕ
  pub fraction : Option (List ℕ)
  pub exponent : Option Exponent

abbrev pub fraction_text : Option (List ℕ) → List ℕ
fraction_text None = []
fraction_text (Some digits) = 0x2E ∷ digits

abbrev pub exponent_text : Option Exponent → List ℕ
exponent_text None = []
exponent_text (Some e) = e.letter ∷ (e.sign ++ e.digits)

-- the spelling of a number
abbrev pub numeral_text : Numeral → List ℕ
numeral_text n = n.sign ++ (n.whole ++ (fraction_text n.fraction ++ exponent_text n.exponent))

-- nothing, or one of the bytes
abbrev pub IsAtMostOneOf : List ℕ → List ℕ → Type 0
IsAtMostOneOf bytes [] = ⊤
IsAtMostOneOf bytes (b ∷ []) = IsTrue (is_one_of bytes b)
IsAtMostOneOf bytes (b ∷ c ∷ w) = ⊥

abbrev pub AreDigits : List ℕ → Type 0
AreDigits w = AllByRecursion (λ b. IsTrue (is_digit b)) w

abbrev pub AreSomeDigits : List ℕ → Type 0
AreSomeDigits [] = ⊥
AreSomeDigits (b ∷ w) = IsTrue (is_digit b) × AreDigits w

-- `e` or `E`, a sign or none, at least one digit (RFC 8259 section 6; OGC 06-103r4 section 7)
pub record IsExponent (e : Exponent) : Type 0 where
  pub letter : IsTrue (is_one_of (0x65 ∷ 0x45 ∷ []) e.letter)
  pub sign : IsAtMostOneOf (0x2B ∷ 0x2D ∷ []) e.sign
  pub digits : AreSomeDigits e.digits

-- `0`, or a digit 1 to 9 and further digits
abbrev pub IsJsonWhole : List ℕ → Type 0
IsJsonWhole [] = ⊥
IsJsonWhole (b ∷ w) = ((b ≡ 0x30) × (w ≡ [])) ⊎ (IsTrue (nat_le 0x31 b && nat_le b 0x39) × AreDigits w)

-- a minus or none, a whole part, a point and at least one digit or none, an exponent or none (RFC 8259 section 6)
pub record IsJsonNumeral (n : Numeral) : Type 0 where
  pub sign : IsAtMostOneOf (0x2D ∷ []) n.sign
  pub whole : IsJsonWhole n.whole
  pub fraction : IfSome n.fraction AreSomeDigits
  pub exponent : IfSome n.exponent IsExponent

-- digits before the point, and then any digits or none after it; or none before it and at least one after it
abbrev pub AreWktDigits : List ℕ → Option (List ℕ) → Type 0
AreWktDigits [] None = ⊥
AreWktDigits [] (Some fraction) = AreSomeDigits fraction
AreWktDigits (b ∷ w) fraction = AreDigits (b ∷ w) × IfSome fraction AreDigits

-- a sign or none, digits, an exponent or none (OGC 06-103r4 section 7.2.1, signed numeric literal)
pub record IsWktNumeral (n : Numeral) : Type 0 where
  pub sign : IsAtMostOneOf (0x2B ∷ 0x2D ∷ []) n.sign
  pub digits : AreWktDigits n.whole n.fraction
  pub exponent : IfSome n.exponent IsExponent

abbrev pub JsonNumber : List ℕ → Type 0
JsonNumber text = (n : Numeral) × IsJsonNumeral n × (text ≡ numeral_text n)

abbrev pub WktNumber : List ℕ → Type 0
WktNumber text = (n : Numeral) × IsWktNumeral n × (text ≡ numeral_text n)

-- the numbers of a notation
abbrev pub IsNumeralOf : Notation → Numeral → Type 0
IsNumeralOf Json n = IsJsonNumeral n
IsNumeralOf Wkt n = IsWktNumeral n

-- the texts of the numbers of a notation
abbrev pub NumberOf : Notation → List ℕ → Type 0
NumberOf Json text = JsonNumber text
NumberOf Wkt text = WktNumber text

-- the text is the spelling of the number, which is one of JSON or of WKT
abbrev pub SpellsNumeral : List ℕ → Numeral → Type 0
SpellsNumeral text n = (IsJsonNumeral n ⊎ IsWktNumeral n) × (text ≡ numeral_text n)

-- the number that decimal digits spell
abbrev pub digits_value : List ℕ → ℕ
digits_value digits = fold (λ n d. 10 * n + (d - 0x30)) 0 digits
