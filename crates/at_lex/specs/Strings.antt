-- JSON strings: how they are spelled, and the UTF-16 code units that they stand for (RFC 8259 sections 7, 8.1 to 8.3).
use Rattle.std.specs.Prelude.{◌≡◌, ℕ, zero, suc, ◌+◌, ◌*◌, nat_lt, nat_le, ◌==◌, not, ◌&&◌, if◌then◌else◌, Bool, IsTrue}
use Rattle.std.specs.Prelude.{List, [], ◌∷◌, ◌++◌, length, take, drop, flat_map, find, Option, Some, None}
use Rattle.std.specs.List.{AllByRecursion, list_any}
use Rattle.std.specs.Str.{is_utf8, chars}
use Rattle.std.specs.Char.{digit_value, is_ascii_hexdigit}
use Rattle.std.specs.Char.Escape.{encode_utf16}

-- what is spelled between the quotes: a byte as it is, an escape of one letter, or `\u` and four hexadecimal digits
pub data Character : Type 0 where
  plain : (byte : ℕ) → Character
  escape : (letter : ℕ) → Character
  unit : (a b c d : ℕ) → Character

-- the escapes of one letter, each with its unit; \u is told apart
abbrev pub escapes : List (ℕ × ℕ)
escapes = (0x22, 0x22) ∷ (0x5C, 0x5C) ∷ (0x2F, 0x2F) ∷ (0x62, 0x08) ∷ (0x66, 0x0C) ∷ (0x6E, 0x0A) ∷ (0x72, 0x0D)
    ∷ (0x74, 0x09) ∷ []

-- a byte of 20 or above other than the quote and the backslash; that bytes of 80 and above are UTF-8 is tested of the
-- whole file (utf8_fault)
abbrev pub is_plain : ℕ → Bool
is_plain b = (nat_le 0x20 b && nat_lt b 256) && (not (b == 0x22) && not (b == 0x5C))

abbrev pub IsCharacter : Character → Type 0
IsCharacter (plain b) = IsTrue (is_plain b)
IsCharacter (escape letter) = IsTrue (list_any (λ (e : ℕ × ℕ). e.0 == letter) escapes)
IsCharacter (unit a b c d) =
    IsTrue ((is_ascii_hexdigit a && is_ascii_hexdigit b) && (is_ascii_hexdigit c && is_ascii_hexdigit d))

abbrev pub character_text : Character → List ℕ
character_text (plain b) = b ∷ []
character_text (escape letter) = 0x5C ∷ letter ∷ []
character_text (unit a b c d) = 0x5C ∷ 0x75 ∷ a ∷ b ∷ c ∷ d ∷ []

-- a string as it is spelled, with its quotes
abbrev pub string_text : List Character → List ℕ
string_text characters = 0x22 ∷ (flat_map character_text characters ++ 0x22 ∷ [])

abbrev pub AreCharacters : List Character → Type 0
AreCharacters characters = AllByRecursion IsCharacter characters

-- the characters, as a part of a text
abbrev pub SpellsString : List Character → ℕ → List ℕ → Type 0
SpellsString cs at w = AreCharacters cs × (w ≡ string_text cs)

abbrev pub JsonString : List ℕ → Type 0
JsonString text = (characters : List Character) × AreCharacters characters × (text ≡ string_text characters)

-- the length of the character in UTF-8 that begins the bytes, where one does
abbrev pub char_len : List ℕ → Option ℕ
char_len bytes = find (λ n. is_utf8 (take n bytes)) (1 ∷ 2 ∷ 3 ∷ 4 ∷ [])

-- the units of at most so many characters of bytes that aren't UTF-8: a byte that begins no character gives FFFD
abbrev pub broken_units : ℕ → List ℕ → List ℕ
broken_units zero bytes = []
broken_units (suc count) [] = []
broken_units (suc count) (b ∷ bytes) = elim (char_len (b ∷ bytes)) [
  | None ↦ 0xFFFD ∷ broken_units count bytes
  | Some n ↦ flat_map encode_utf16 (chars (take n (b ∷ bytes))) ++ broken_units count (drop n (b ∷ bytes))
]

-- the units of a stretch of bytes, which are read as UTF-8
abbrev pub stretch_units : List ℕ → List ℕ
stretch_units bytes =
    if is_utf8 bytes then flat_map encode_utf16 (chars bytes) else broken_units (length bytes) bytes

abbrev pub escape_unit : ℕ → ℕ
escape_unit letter = elim (find (λ (e : ℕ × ℕ). e.0 == letter) escapes) [ None ↦ 0 | Some e ↦ e.1 ]

abbrev pub hex_unit : ℕ → ℕ → ℕ → ℕ → ℕ
hex_unit a b c d = 16 * (16 * (16 * digit_value a + digit_value b) + digit_value c) + digit_value d

-- the units of the characters and of the stretch of bytes right before them, which each escape ends
abbrev pub units_behind : List ℕ → List Character → List ℕ
units_behind stretch [] = stretch_units stretch
units_behind stretch (plain b ∷ rest) = units_behind (stretch ++ b ∷ []) rest
units_behind stretch (escape letter ∷ rest) = stretch_units stretch ++ escape_unit letter ∷ units_behind [] rest
units_behind stretch (unit a b c d ∷ rest) = stretch_units stretch ++ hex_unit a b c d ∷ units_behind [] rest

-- the UTF-16 code units of a string, a lone surrogate included; a byte that begins no character gives FFFD
abbrev pub units_of : List Character → List ℕ
units_of characters = units_behind [] characters

-- the units of the string that the bytes spell
abbrev pub AreUnitsOf : List ℕ → List ℕ → Type 0
AreUnitsOf text units = (characters : List Character) → AreCharacters characters → text ≡ string_text characters
    → units ≡ units_of characters
