-- What becomes of bytes behind a filter.
use Rattle.std.specs.Prelude.{ℕ, Bool, true, false, ◌==◌, ◌&&◌, if◌then◌else◌, List, [], ◌∷◌, map}
use Rattle.at_text.specs.Texts.{is_space}
use Rattle.at_io.specs.Files.{Files}
use Rattle.at_filter.specs.declared.filter.Filter.{Filter}
use Rattle.at_filter.specs.declared.filter.Filter.TheVariants.{Lines, Items}
use Rattle.at_filter.specs.declared.filter.Seen.{Seen}
use Rattle.at_filter.specs.declared.filter.Seen.TheVariants.{Nothing, Object, Array, Comma}

-- what becomes of a byte of lines
abbrev pub byte_of_lines : ℕ → ℕ
byte_of_lines b = if b == 0x0A then 0x1E else if b == 0x1E then 0x01 else b

abbrev pub is_comma : Seen → Bool
is_comma Comma = true
is_comma _ = false

-- what becomes of a byte of items, behind what was seen before it
abbrev pub byte_of_items : Seen → ℕ → ℕ
byte_of_items seen b = if is_comma seen && b == 0x22 then 0x01 else b

-- what is seen with a closing bracket of an array, and with a comma
abbrev pub seen_at_bracket : Seen → Seen
seen_at_bracket Object = Array
seen_at_bracket _ = Nothing

abbrev pub seen_at_comma : Seen → Seen
seen_at_comma Array = Comma
seen_at_comma _ = Nothing

-- what is seen with one more byte
abbrev pub next_seen : Seen → ℕ → Seen
next_seen seen b = if is_space b then seen else if b == 0x7D then Object
    else if b == 0x5D then seen_at_bracket seen else if b == 0x2C then seen_at_comma seen else Nothing

-- what becomes of a byte, and what is seen then
abbrev pub filtered_byte : Filter → Seen → ℕ → ℕ
filtered_byte Lines seen b = byte_of_lines b
filtered_byte Items seen b = byte_of_items seen b

abbrev pub next_of : Filter → Seen → ℕ → Seen
next_of Lines seen b = seen
next_of Items seen b = next_seen seen b

-- what becomes of bytes behind what was seen before them
abbrev pub filtered : Filter → Seen → List ℕ → List ℕ
filtered f seen [] = []
filtered f seen (b ∷ bs) = filtered_byte f seen b ∷ filtered f (next_of f seen b) bs

-- what is seen behind them
abbrev pub seen_behind : Filter → Seen → List ℕ → Seen
seen_behind f seen [] = seen
seen_behind f seen (b ∷ bs) = seen_behind f (next_of f seen b) bs

-- what becomes of a file
abbrev pub filtered_file : Filter → List ℕ × List ℕ → List ℕ × List ℕ
filtered_file f file = (file.0, filtered f Nothing file.1)

abbrev pub filtered_files : Filter → Files → Files
filtered_files f files = map (filtered_file f) files
