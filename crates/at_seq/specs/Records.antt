-- The records of a GeoJSON text sequence (RFC 8142 section 2), each at its offset in the file.
use Rattle.std.specs.Prelude.{ℕ, ◌==◌, not, Bool, List, drop, filter}
use Rattle.std.specs.List.{list_all}
use Rattle.at_text.specs.Texts.{base_of, is_space}
use Rattle.at_text.specs.Separated.{Piece, separated_by}

-- the record separator, which stands before each record
abbrev pub is_separator : ℕ → Bool
is_separator b = b == 0x1E

-- the pieces between the separators of bytes that begin at the offset; there is at least one
abbrev pub pieces_from : ℕ → List ℕ → List Piece
pieces_from at bytes = separated_by is_separator at bytes

-- the pieces of a file; a byte order mark stands before the first
abbrev pub pieces_of : List ℕ → List Piece
pieces_of bytes = pieces_from (base_of bytes) (drop (base_of bytes) bytes)

-- nothing but white space
abbrev pub are_spaces : List ℕ → Bool
are_spaces text = list_all is_space text

-- the pieces that are more than white space
abbrev pub records_in : List Piece → List Piece
records_in pieces = filter (λ (p : Piece). not (are_spaces p.text)) pieces

-- the records of a file: the first piece, which stands before the first separator, is none
abbrev pub records_of : List ℕ → List Piece
records_of bytes = records_in (drop 1 (pieces_of bytes))
