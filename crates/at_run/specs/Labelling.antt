-- Where a label stands in a line. Only contracts of private functions cite this.
use Rattle.std.specs.Prelude.{◌≡◌, ℕ, ◌+◌, ◌<◌, ◌≤◌, ◌⊎◌, Bool, false, IsTrue, if◌then◌else◌, bytes_eq, List, []}
use Rattle.std.specs.Prelude.{length, take, drop, slice_index, Option, Some, None}
use Rattle.std.specs.List.{AllByRecursion, list_any}
use Rattle.std.specs.Str.{IsUtf8}
use Rattle.at_text.specs.Spans.{span_of}
use Rattle.at_lex.specs.Strings.{Character, AreCharacters, string_text, JsonString}
use Rattle.at_wkt.specs.Geometry.{is_blank}
use Rattle.at_query.specs.declared.features.TextPair.{TextPair}
use Rattle.at_query.specs.declared.query.queries.Test.{Test}
use Rattle.at_query.specs.declared.query.queries.Test.TheVariants.{InBox, MeetsShape, Has}
use Rattle.at_run.specs.declared.labels.Behind.{Behind}
use Rattle.at_run.specs.Labels.{label_name, texts_of}

-- a quote stands at the place, and nothing but blanks before it
pub record QuoteStands (text : List ℕ) (quote : ℕ) : Type 0 where
  pub inside : quote < length text
  pub blanks : AllByRecursion (λ b. IsTrue (is_blank b)) (take quote text)
  pub byte : slice_index text quote ≡ 0x22

-- the quote that begins the text past its blanks stands at the place, or there is none
abbrev pub QuoteIs : List ℕ → Option ℕ → Type 0
QuoteIs text None = (quote : ℕ) → ¬ QuoteStands text quote
QuoteIs text (Some quote) = QuoteStands text quote

-- a label stands from such a quote up to a place
pub record LabelStands (text : List ℕ) (quote end : ℕ) : Type 0 where
  pub begins : QuoteStands text quote
  pub order : quote ≤ end
  pub within : end ≤ length text
  pub string : JsonString (span_of text quote end)

-- what stands before the place in a line at which the text of its geometry begins: nothing where no quote begins the
-- line past its blanks, and else a label that is UTF-8 (RFC 3629)
abbrev pub HasFront : List ℕ → List ℕ → ℕ → Type 0
HasFront text label end = (QuoteIs text None × (label ≡ []) × (end ≡ 0))
    ⊎ ((quote : ℕ) × LabelStands text quote end × IsUtf8 label × (label ≡ span_of text quote end))

-- the first len of the bytes ahead, which begin at the offset, are a line that is read so
pub record IsBehind (ahead : List ℕ) (len at : ℕ) (line : Behind) : Type 0 where
  pub end : ℕ
  pub front : HasFront (take len ahead) line.label.now end
  pub text : take line.len line.ahead.now ≡ drop end (take len ahead)
  pub place : line.at ≡ at + end
  pub inside : line.len ≤ length line.ahead.now
  pub reach : line.at + length line.ahead.now ≡ at + length ahead

-- the test asks for a text of the name that labels have
abbrev pub asks_label : Test → Bool
asks_label (InBox e) = false
asks_label (MeetsShape s) = false
asks_label (Has name value) = bytes_eq name label_name

-- the texts that are kept of a feature whose label the bytes spell: its one text, or none where no test asks for it
abbrev pub AreKeptTexts : List Test → List ℕ → List TextPair → Type 0
AreKeptTexts tests label texts = (characters : List Character) → AreCharacters characters
    → label ≡ string_text characters
    → texts ≡ (if list_any asks_label tests then texts_of (Some characters) else [])

-- the texts that are kept of a line with this label, or with none where it is empty
abbrev pub AreFrontTexts : List Test → List ℕ → List TextPair → Type 0
AreFrontTexts tests label texts = (label ≡ [] → texts ≡ []) × (JsonString label → AreKeptTexts tests label texts)
