-- What is known of the encoding of a part of a file.
use Rattle.std.specs.Prelude.{ℕ, ◌+◌, ◌-◌, ◌≤◌, List, length}
use Rattle.std.specs.Str.{IsUtf8}
use Rattle.at_text.specs.Spans.{span_of}
use Rattle.at_text.specs.declared.texts.Span.{Span}

-- the span lies within the bytes, the first of which has the offset, and its own are UTF-8 (RFC 3629)
pub record IsValidIn (at : ℕ) (bytes : List ℕ) (valid : Span) : Type 0 where
  pub begins : at ≤ valid.from
  pub order : valid.from ≤ valid.to
  pub ends : valid.to ≤ at + length bytes
  pub utf8 : IsUtf8 (span_of bytes (valid.from - at) (valid.to - at))
