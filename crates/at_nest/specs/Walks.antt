-- The algorithm on lists: pieces read by the grammar's states, levels, and how a piece is pushed.
use Rattle.std.specs.Prelude.{ℕ, Option, Some, None, List, [], ◌∷◌}
use Rattle.at_lex.specs.declared.tokens.Bracket.{Bracket}
use Rattle.at_lex.specs.declared.tokens.Bracket.TheVariants.{Brace, Square}
use Rattle.at_nest.specs.States.{State, Frame, in_array, in_object, value, items, members, name, colon, after}
use Rattle.at_nest.specs.Forms.{Mark, Piece, comma as a_comma, colon as a_colon, quoted, entry, opens, closes, mark}

-- ---- pieces and the states of the whole grammar

-- what the grammar sees of a piece
pub data Kind : Type 0 where
  an_opener a_closer : Bracket → Kind
  comma_kind colon_kind text_kind value_kind : Kind

abbrev pub mark_kind : {X : Type 0} → Mark X → Kind
mark_kind (a_comma i) = comma_kind
mark_kind (a_colon i) = colon_kind
mark_kind (quoted i cs) = text_kind
mark_kind (entry i x) = value_kind

abbrev pub kind_of : {X : Type 0} → Piece X → Kind
kind_of (opens b i) = an_opener b
kind_of (closes b i) = a_closer b
kind_of (mark p) = mark_kind p

abbrev pub begin_next : List Frame → Kind → Option State
begin_next st (an_opener Square) = Some (items st)
begin_next st (an_opener Brace) = Some (members st)
begin_next st text_kind = Some (after st)
begin_next st value_kind = Some (after st)
begin_next st _ = None

abbrev pub name_next : List Frame → Kind → Option State
name_next st text_kind = Some (colon st)
name_next st _ = None

abbrev pub colon_next : List Frame → Kind → Option State
colon_next st colon_kind = Some (value (in_object ∷ st))
colon_next st _ = None

abbrev pub after_next : List Frame → Kind → Option State
after_next [] k = None
after_next (in_array ∷ st) comma_kind = Some (value (in_array ∷ st))
after_next (in_array ∷ st) (a_closer Square) = Some (after st)
after_next (in_array ∷ st) _ = None
after_next (in_object ∷ st) comma_kind = Some (name st)
after_next (in_object ∷ st) (a_closer Brace) = Some (after st)
after_next (in_object ∷ st) _ = None

abbrev pub items_next : List Frame → Kind → Option State
items_next st (a_closer Square) = Some (after st)
items_next st k = begin_next (in_array ∷ st) k

abbrev pub members_next : List Frame → Kind → Option State
members_next st (a_closer Brace) = Some (after st)
members_next st k = name_next st k

-- what a piece of the kind leads to, between tokens
abbrev pub next : State → Kind → Option State
next (value st) k = begin_next st k
next (items st) k = items_next st k
next (members st) k = members_next st k
next (name st) k = name_next st k
next (colon st) k = colon_next st k
next (after st) k = after_next st k
next _ k = None

abbrev pub mark_at : {X : Type 0} → Mark X → ℕ
mark_at (a_comma i) = i
mark_at (a_colon i) = i
mark_at (quoted i cs) = i
mark_at (entry i x) = i

abbrev pub at_of : {X : Type 0} → Piece X → ℕ
at_of (opens b i) = i
at_of (closes b i) = i
at_of (mark p) = mark_at p

-- where the pieces lead, or the first byte of the first piece that has no place there
pub data Walk : Type 0 where
  reached : State → Walk
  refused : ℕ → Walk

abbrev pub walk_on : Option State → ℕ → (State → Walk) → Walk
walk_on None i more = refused i
walk_on (Some t) i more = more t

abbrev pub walks : {X : Type 0} → State → List (Piece X) → Walk
walks s [] = reached s
walks s (p ∷ ps) = walk_on (next s (kind_of p)) (at_of p) (λ t. walks t ps)
