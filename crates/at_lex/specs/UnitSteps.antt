-- How the units of a string are found from left to right. No public clause cites it.
use Rattle.std.specs.Prelude.{◌≡◌, ℕ, zero, suc, ◌-◌, ◌<◌, List, [], ◌∷◌, ◌++◌, length, take, drop, slice_index, flat_map, Option}
use Rattle.std.specs.Prelude.{Some, None, true, false}
use Rattle.std.specs.Str.{is_utf8, chars}
use Rattle.std.specs.Char.Escape.{encode_utf16}
use Rattle.std.specs.Char.{is_ascii_hexdigit}
use Rattle.at_lex.specs.Strings.{Character, plain, escape, unit, AreCharacters, character_text, char_len, escape_unit}
use Rattle.at_lex.specs.Strings.{hex_unit}

-- the bytes as they are from here on, up to the first escape
abbrev pub bytes_ahead : List Character → List ℕ
bytes_ahead [] = []
bytes_ahead (plain b ∷ rest) = b ∷ bytes_ahead rest
bytes_ahead (escape letter ∷ rest) = []
bytes_ahead (unit a b c d ∷ rest) = []

-- the units of the character that begins the bytes, or FFFD where none does
abbrev pub first_units : List ℕ → List ℕ
first_units bytes = elim (char_len bytes) [ None ↦ 0xFFFD ∷ [] | Some n ↦ flat_map encode_utf16 (chars (take n bytes)) ]

-- how many bytes after the first belong to it
abbrev pub further_bytes : List ℕ → ℕ
further_bytes bytes = elim (char_len bytes) [ None ↦ 0 | Some n ↦ n - 1 ]

-- the units of the characters, the first `pending` bytes being the rest of a character that has its units already
abbrev pub units_after : ℕ → List Character → List ℕ
units_after pending [] = []
units_after zero (plain b ∷ rest) =
    first_units (b ∷ bytes_ahead rest) ++ units_after (further_bytes (b ∷ bytes_ahead rest)) rest
units_after (suc pending) (plain b ∷ rest) = units_after pending rest
units_after pending (escape letter ∷ rest) = escape_unit letter ∷ units_after 0 rest
units_after pending (unit a b c d ∷ rest) = hex_unit a b c d ∷ units_after 0 rest

-- the bytes are these characters and the closing quote
abbrev pub Content : List Character → List ℕ → Type 0
Content characters w = AreCharacters characters × (w ≡ flat_map character_text characters ++ 0x22 ∷ [])

-- four hexadecimal digits stand behind the first two bytes
pub record HasDigits (w : List ℕ) : Type 0 where
  pub long : 5 < length w
  pub a : is_ascii_hexdigit (slice_index w 2) ≡ true
  pub b : is_ascii_hexdigit (slice_index w 3) ≡ true
  pub c : is_ascii_hexdigit (slice_index w 4) ≡ true
  pub d : is_ascii_hexdigit (slice_index w 5) ≡ true

-- the first n bytes are whole characters, and stand for these units
pub record StepsOver (w : List ℕ) (n : ℕ) (units : List ℕ) : Type 0 where
  pub some : 0 < n
  pub fits : n < length w
  pub stand : (cs : List Character) → Content cs w → (ds : List Character) × Content ds (drop n w)
      × (units_after 0 cs ≡ units ++ units_after 0 ds)

-- the units of the first n bytes have been put behind the old ones
abbrev pub PushesUnits : List ℕ → ℕ → List ℕ → List ℕ → Type 0
PushesUnits w n old new = (units : List ℕ) × StepsOver w n units × (new ≡ old ++ units)

-- the first n bytes, where they are UTF-8
abbrev pub IsTextOf : List ℕ → ℕ → Option (List ℕ) → Type 0
IsTextOf bytes n None = is_utf8 (take n bytes) ≡ false
IsTextOf bytes n (Some text) = (is_utf8 (take n bytes) ≡ true) × (text ≡ take n bytes)

-- the character in UTF-8 that begins the bytes, where one does
abbrev pub IsFirstChar : List ℕ → Option (List ℕ) → Type 0
IsFirstChar bytes None = char_len bytes ≡ None
IsFirstChar bytes (Some text) = (n : ℕ) × (0 < n) × (n < 5) × (char_len bytes ≡ Some n) × (text ≡ take n bytes)
