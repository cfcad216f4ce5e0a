-- The words of the command line, told by the pieces that they spell.
use Rattle.std.specs.Prelude.{◌≡◌, ℕ, Bool, false, ⊤, bytes_eq, if◌then◌else◌, codes, List, [], ◌∷◌, ◌++◌, flat_map}
use Rattle.std.specs.Prelude.{Option, Some, None, unwrap_or}
use Rattle.std.specs.List.{AllByRecursion, filter_map}
use Rattle.at_cli.specs.Words.{begins_with}
use Rattle.at_cli.specs.declared.words.flags.Setting.{Setting}
use Rattle.at_cli.specs.declared.words.flags.Setting.TheVariants as settings

abbrev pub setting_name : Setting → List ℕ
setting_name settings.Form = codes "--form"
setting_name settings.Coords = codes "--coords"
setting_name settings.Digits = codes "--digits"
setting_name settings.Blocks = codes "--blocks"
setting_name settings.Workers = codes "--workers"
setting_name settings.Feed = codes "--feed"

-- an option whose value is a word of its own, an option with its value behind `=`, or a positional
pub data Piece : Type 0 where
  apart : Setting → List ℕ → Piece
  joined : Setting → List ℕ → Piece
  positional : List ℕ → Piece

abbrev pub words_of : Piece → List (List ℕ)
words_of (apart setting value) = setting_name setting ∷ value ∷ []
words_of (joined setting value) = (setting_name setting ++ codes "=" ++ value) ∷ []
words_of (positional word) = word ∷ []

-- before the end word a positional doesn't begin with `-`
abbrev pub IsPiece : Piece → Type 0
IsPiece (apart setting value) = ⊤
IsPiece (joined setting value) = ⊤
IsPiece (positional word) = begins_with (codes "-") word ≡ false

-- nothing, or the end word and the words after it
abbrev pub end_words : Option (List (List ℕ)) → List (List ℕ)
end_words None = []
end_words (Some after) = codes "--" ∷ after

-- the words are those of the pieces, and then the end word and others, where there is one
pub record SpellPieces (words : List (List ℕ)) (pieces : List Piece) (after : Option (List (List ℕ))) : Type 0 where
  pub spelled : words ≡ flat_map words_of pieces ++ end_words after
  pub are_pieces : AllByRecursion IsPiece pieces

abbrev pub is_same : Setting → Setting → Bool
is_same s t = bytes_eq (setting_name s) (setting_name t)

abbrev pub value_in : Setting → Piece → Option (List ℕ)
value_in s (apart t value) = if is_same s t then Some value else None
value_in s (joined t value) = if is_same s t then Some value else None
value_in s (positional word) = None

-- the values that the option is given, in order
abbrev pub values_of : List Piece → Setting → List (List ℕ)
values_of pieces s = filter_map (value_in s) pieces

abbrev pub positional_in : Piece → Option (List ℕ)
positional_in (apart t value) = None
positional_in (joined t value) = None
positional_in (positional word) = Some word

-- the positionals in order: those among the pieces, and every word after the end word
abbrev pub positionals_of : List Piece → Option (List (List ℕ)) → List (List ℕ)
positionals_of pieces after = filter_map positional_in pieces ++ unwrap_or after []
