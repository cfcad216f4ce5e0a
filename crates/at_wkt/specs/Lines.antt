-- The lines of a file.
use Rattle.std.specs.Prelude.{ℕ, ◌==◌, not, Bool, if◌then◌else◌, List, [], ◌∷◌, drop, filter, map}
use Rattle.std.specs.List.{list_all}
use Rattle.at_text.specs.Texts.{base_of}
use Rattle.at_text.specs.Separated.{Piece, separated_by}
use Rattle.at_wkt.specs.Geometry.{is_blank}

-- a line without its end, and the offset of its first byte
abbrev pub FileLine : Type 0
FileLine = Piece

abbrev pub is_line_feed : ℕ → Bool
is_line_feed b = b == 0x0A

-- the pieces between the line feeds of bytes that begin at the offset, the last one included
abbrev pub pieces_from : ℕ → List ℕ → List FileLine
pieces_from at bytes = separated_by is_line_feed at bytes

-- one carriage return at the end of a piece belongs to the line's end
abbrev pub without_return : List ℕ → List ℕ
without_return [] = []
without_return (b ∷ []) = if b == 0x0D then [] else b ∷ []
without_return (b ∷ c ∷ w) = b ∷ without_return (c ∷ w)

abbrev pub line_of : FileLine → FileLine
line_of piece = record { at = piece.at; text = without_return piece.text }

abbrev pub is_blank_text : List ℕ → Bool
is_blank_text text = list_all is_blank text

-- the lines of pieces that are not blank
abbrev pub lines_in : List FileLine → List FileLine
lines_in pieces = filter (λ (l : FileLine). not (is_blank_text l.text)) (map line_of pieces)

-- the lines of a file that are not blank; a byte order mark stands before the first
abbrev pub lines_of : List ℕ → List FileLine
lines_of bytes = lines_in (pieces_from (base_of bytes) (drop (base_of bytes) bytes))
