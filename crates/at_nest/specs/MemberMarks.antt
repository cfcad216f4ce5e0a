-- Members one behind another, each behind a comma, as marks; and a member whose value comes next.
use Rattle.std.specs.Prelude.{◌≡◌, ℕ, List, [], ◌∷◌, ◌++◌}
use Rattle.at_lex.specs.Strings.{Character}
use Rattle.at_nest.specs.declared.pieces.Piece.{Piece as CodePiece}
use Rattle.at_nest.specs.declared.pieces.Piece.TheVariants.{Comma, Colon, Text}
use Rattle.at_nest.specs.declared.pieces.Awaited.{Awaited}
use Rattle.at_nest.specs.Tree.{Tree, text}
use Rattle.at_nest.specs.Forms.{Mark, comma, colon, quoted, entry}

-- a value behind a colon: a string, or any other
pub data ValueMark : Type 0 where
  string_value : ℕ → List Character → ValueMark
  other_value : ℕ → Tree → ValueMark

abbrev pub mark_of : ValueMark → Mark Tree
mark_of (string_value i cs) = quoted i cs
mark_of (other_value i t) = entry i t

abbrev pub tree_of : ValueMark → Tree
tree_of (string_value i cs) = text i cs
tree_of (other_value i t) = t

-- a member behind a comma
pub record MemberMarks : Type 0 where
  pub comma_at : ℕ
  pub name_at : ℕ
  pub characters : List Character
  pub colon_at : ℕ
  pub value : ValueMark

-- the member's marks without its comma, in front of others
abbrev pub marks_behind_comma : MemberMarks → List (Mark Tree) → List (Mark Tree)
marks_behind_comma e xs = quoted e.name_at e.characters ∷ colon e.colon_at ∷ mark_of e.value ∷ xs

abbrev pub member_marks : List MemberMarks → List (Mark Tree)
member_marks [] = []
member_marks (e ∷ es) = comma e.comma_at ∷ marks_behind_comma e (member_marks es)

-- the members: each with its name, the name's offset and its value
abbrev pub member_pairs : List MemberMarks → List (List Character × ℕ × Tree)
member_pairs [] = []
member_pairs (e ∷ es) = (e.characters, e.name_at, tree_of e.value) ∷ member_pairs es

-- behind other items stand a comma, a string and a colon
abbrev pub Awaits : {X : Type 0} → List (CodePiece X) → Awaited → Type 0
Awaits {X = X} outer m = (front : List (CodePiece X)) × (x : X)
    × (outer ≡ front ++ (Comma m.comma ∷ Text m.name x ∷ Colon m.colon ∷ []))
