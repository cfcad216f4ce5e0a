-- Which tokens have no place behind the items that are kept, whatever stands before the span.
use Rattle.std.specs.Prelude.{Bool, true, false, not, Option, Some, None, List, [], ◌∷◌}
use Rattle.at_lex.specs.declared.tokens.TokenKind.{TokenKind}
use Rattle.at_lex.specs.declared.tokens.TokenKind.TheVariants as token
use Rattle.at_nest.specs.declared.pieces.Piece.{Piece}
use Rattle.at_nest.specs.declared.pieces.Piece.TheVariants.{Comma, Colon, Text, Value, Row as RowPiece}
use Rattle.at_nest.specs.declared.pieces.Piece.TheVariants.{Members as MembersPiece, Closers as ClosersPiece}
use Rattle.at_nest.specs.Shown.{Held, array_level, Shown, takes_value}

abbrev pub opens_any : TokenKind → Bool
opens_any (token.Opens b) = true
opens_any _ = false

-- behind a value that is no name, or a closing bracket
abbrev pub not_behind_value : TokenKind → Bool
not_behind_value (token.Opens b) = true
not_behind_value token.Text = true
not_behind_value token.Run = true
not_behind_value token.Colon = true
not_behind_value _ = false

-- behind a string, which may be a name
abbrev pub not_behind_text : TokenKind → Bool
not_behind_text (token.Opens b) = true
not_behind_text token.Text = true
not_behind_text token.Run = true
not_behind_text _ = false

-- behind a comma or a colon
abbrev pub not_behind_mark : TokenKind → Bool
not_behind_mark (token.Closes b) = true
not_behind_mark token.Comma = true
not_behind_mark token.Colon = true
not_behind_mark _ = false

abbrev pub not_behind_piece : {X : Type 0} → Piece X → TokenKind → Bool
not_behind_piece (Comma i) k = not_behind_mark k
not_behind_piece (Colon i) k = not_behind_mark k
not_behind_piece (Text span x) k = not_behind_text k
not_behind_piece (Value i x) k = not_behind_value k
not_behind_piece (RowPiece r) k = not_behind_value k
not_behind_piece (MembersPiece r) k = not_behind_text k
not_behind_piece (ClosersPiece r) k = not_behind_value k

abbrev pub not_behind_last : {X : Type 0} → Option (Piece X) → TokenKind → Bool
not_behind_last None k = false
not_behind_last (Some c) k = not_behind_piece c k

abbrev pub last_of : {A : Type 0} → List A → Option A
last_of [] = None
last_of (x ∷ []) = Some x
last_of (x ∷ (y ∷ xs)) = last_of (y ∷ xs)

-- an opening bracket in a level that takes no value
abbrev pub not_in_level : {X : Type 0} → Held X → TokenKind → Bool
not_in_level h (token.Opens b) = not (takes_value h)
not_in_level h _ = false

abbrev pub not_in : {X : Type 0} → List (Held X) → List (Piece X) → TokenKind → Bool
not_in [] outer k = not_behind_last (last_of outer) k
not_in (h ∷ hs) outer k = not_in_level h k

abbrev pub is_refused : {X : Type 0} → Shown X → TokenKind → Bool
is_refused s k = not_in s.levels s.outer k

-- an array or object that comes next is an array's item, or stands where none may: an array is innermost, or a comma is
-- the last of what stands outside all levels
abbrev pub is_array : {X : Type 0} → Held X → Bool
is_array (array_level i s xs) = true
is_array _ = false

abbrev pub is_comma : {X : Type 0} → Piece X → Bool
is_comma (Comma i) = true
is_comma _ = false

abbrev pub is_comma_last : {X : Type 0} → Option (Piece X) → Bool
is_comma_last None = false
is_comma_last (Some c) = is_comma c

abbrev pub items_in : {X : Type 0} → List (Held X) → List (Piece X) → Bool
items_in [] outer = is_comma_last (last_of outer)
items_in (h ∷ hs) outer = is_array h

abbrev pub takes_items : {X : Type 0} → Shown X → Bool
takes_items s = items_in s.levels s.outer
