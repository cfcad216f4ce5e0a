-- The texts that the squares of one row of a made file share.
use Rattle.std.specs.Prelude.{◌≡◌, ℕ, ◌+◌, codes, decimal, List, [], ◌∷◌, map}
use Rattle.std.specs.List.{range_with_len}
use Rattle.at_cli.specs.declared.squares.RowTexts.{RowTexts}
use Rattle.at_cli.specs.Made.{texts}

-- the row's number, and the next one, between these texts, and the row's number again before the end of a square
pub record AreRowTexts (before behind end : List ℕ) (t : RowTexts) : Type 0 where
  pub low : t.low.items ≡ texts (before ∷ decimal t.row ∷ behind ∷ [])
  pub high : t.high.items ≡ texts (before ∷ decimal (t.row + 1) ∷ behind ∷ [])
  pub last : t.last.items ≡ texts (before ∷ decimal t.row ∷ end ∷ [])

-- the texts of a row of lines
abbrev pub AreLineTexts : RowTexts → Type 0
AreLineTexts t = AreRowTexts (codes " ") (codes ",") (codes "))\n") t

-- the texts of a row of features
abbrev pub AreFeatureTexts : RowTexts → Type 0
AreFeatureTexts t = AreRowTexts (codes ".5,") (codes "],[") (codes "]]]}}") t

-- the corners of a square between two columns, by the texts of its row
abbrev pub corners : List ℕ → List ℕ → RowTexts → List ℕ
corners c d t = texts (c ∷ t.low.items ∷ d ∷ t.low.items ∷ d ∷ t.high.items ∷ c ∷ t.high.items ∷ c ∷ t.last.items ∷ [])

-- the texts of the numbers of all columns, and of the one behind the last
abbrev pub column_texts : List (List ℕ)
column_texts = map decimal (range_with_len 0 361)
