-- The encoding of a file's bytes, where its text begins, and the classes of bytes.
use Rattle.std.specs.Prelude.{ℕ, Bool, ◌&&◌, not, nat_le, ◌==◌, if◌then◌else◌, Option, Some, None, List, [], ◌∷◌}
use Rattle.std.specs.Str.{is_utf8}
use Rattle.std.specs.Str.Lossy.{utf8_valid_len}
use Rattle.std.specs.List.{starts_with, list_any}
use Rattle.std.specs.Prelude.{nat_eq}
use Rattle.at_text.specs.declared.faults.Fault.{Fault}
use Rattle.at_text.specs.declared.faults.FaultKind.TheVariants.{NotUtf8}
use Rattle.at_text.specs.Faults.{fault_at}

-- at the length of the longest prefix that is UTF-8, where the bytes are not (RFC 8259 section 8.1, RFC 3629)
abbrev pub utf8_fault : List ℕ → Option Fault
utf8_fault bytes = if is_utf8 bytes then None else Some (fault_at NotUtf8 (utf8_valid_len bytes))

-- the bytes of a byte order mark, which is skipped (RFC 8259 section 8.1)
abbrev pub byte_order_mark : List ℕ
byte_order_mark = 0xEF ∷ 0xBB ∷ 0xBF ∷ []

-- the offset at which the text begins
abbrev pub base_of : List ℕ → ℕ
base_of bytes = if starts_with nat_eq bytes byte_order_mark then 3 else 0

-- one of the bytes listed
abbrev pub is_one_of : List ℕ → ℕ → Bool
is_one_of bytes b = list_any (λ c. c == b) bytes

-- space, tab, line feed or carriage return (RFC 8259 section 2)
abbrev pub is_space : ℕ → Bool
is_space b = is_one_of (0x20 ∷ 0x09 ∷ 0x0A ∷ 0x0D ∷ []) b

-- a decimal digit
abbrev pub is_digit : ℕ → Bool
is_digit b = nat_le 0x30 b && nat_le b 0x39

-- no space, bracket, comma, colon or quote
abbrev pub is_run : ℕ → Bool
is_run b = not (is_space b) && not (is_one_of (0x7B ∷ 0x7D ∷ 0x5B ∷ 0x5D ∷ 0x2C ∷ 0x3A ∷ 0x22 ∷ []) b)
