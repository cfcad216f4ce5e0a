-- Bytes as the pieces between those of them that pass a test, each piece at its offset.
use Rattle.std.specs.Prelude.{ℕ, ◌+◌, Bool, List, [], ◌∷◌, length}
use Rattle.std.specs.List.{slice_split}

-- bytes of a file, and the offset of the first of them
pub record Piece : Type 0 where
  pub at : ℕ
  pub text : List ℕ

-- the texts with their offsets, where one byte stands behind each but the last
abbrev pub placed : ℕ → List (List ℕ) → List Piece
placed at [] = []
placed at (text ∷ rest) = record { at = at; text = text } ∷ placed (at + length text + 1) rest

-- the pieces of bytes that begin at the offset, between the bytes that pass the test; there is at least one
abbrev pub separated_by : (ℕ → Bool) → ℕ → List ℕ → List Piece
separated_by separates at bytes = placed at (slice_split separates bytes)
