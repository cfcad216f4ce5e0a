-- What the code keeps of a span's items, as plain lists, and what each item does to it.
use Rattle.std.specs.Prelude.{◌≡◌, ℕ, ◌-◌, zero, suc, Bool, true, false, Option, Some, None, List, [], ◌∷◌, ◌++◌, All}
use Rattle.std.specs.Bool.{⊤}
use Rattle.at_lex.specs.declared.tokens.Bracket.{Bracket}
use Rattle.at_lex.specs.declared.tokens.Bracket.TheVariants.{Brace, Square}
use Rattle.at_nest.specs.declared.algebra.Member.{Member}
use Rattle.at_nest.specs.declared.levels.ArrayState.{ArrayState}
use Rattle.at_nest.specs.declared.levels.ArrayState.TheVariants as array
use Rattle.at_nest.specs.declared.levels.ObjectState.{ObjectState}
use Rattle.at_nest.specs.declared.levels.ObjectState.TheVariants as object
use Rattle.at_nest.specs.declared.levels.MemberName.{MemberName}
use Rattle.at_nest.specs.declared.levels.ArrayLevel.{ArrayLevel}
use Rattle.at_nest.specs.declared.levels.ObjectLevel.{ObjectLevel}
use Rattle.at_nest.specs.declared.levels.Level.{Level}
use Rattle.at_nest.specs.declared.levels.Level.TheVariants.{Array, Opened, Named, Awaiting, Object}
use Rattle.at_nest.specs.declared.levels.Open.{Open}
use Rattle.at_nest.specs.declared.levels.Open.TheVariants as placed
use Rattle.at_nest.specs.declared.levels.Open.TheVariants.{Nested}
use Rattle.at_nest.specs.declared.open_levels.Stretch.{Stretch}
use Rattle.at_nest.specs.declared.open_levels.Levels.{Levels}
use Rattle.at_nest.specs.declared.levels.Step.{Step}
use Rattle.at_nest.specs.declared.levels.Step.TheVariants.{On, Refused}
use Rattle.at_nest.specs.declared.pieces.Piece.{Piece}
use Rattle.at_nest.specs.declared.pieces.Piece.TheVariants.{Comma, Colon, Text, Value, Row as RowPiece}
use Rattle.at_nest.specs.declared.pieces.Piece.TheVariants.{Members as MembersPiece, Closers as ClosersPiece}
use Rattle.at_nest.specs.declared.pieces.SpanStop.{SpanStop}
use Rattle.at_nest.specs.declared.pieces.Within.TheVariants.{First}
use Rattle.at_nest.specs.declared.bodies.Body.{Body}

-- an open level: its offset, what it ends in, and its values or members
pub data Held (X : Type 0) : Type 0 where
  array_level : ℕ → ArrayState → List X → Held X
  object_level : ℕ → ObjectState → List (Member X) → Held X

abbrev pub array_held : {X : Type 0} → ArrayLevel X → Held X
array_held l = array_level l.from l.state l.items.items

abbrev pub object_held : {X : Type 0} → ObjectLevel X → Held X
object_held l = object_level l.from l.state l.members.items

abbrev pub held_of : {X : Type 0} → Level X → Held X
held_of (Array l) = array_held l
held_of (Opened i) = object_level i object.Empty []
held_of (Named i n) = object_level i (object.Named n) []
held_of (Awaiting i n) = object_level i (object.Colon n) []
held_of (Object l) = object_held l.value

abbrev pub opened_as : {X : Type 0} → Bracket → ℕ → Held X
opened_as Square i = array_level i array.Empty []
opened_as Brace i = object_level i object.Empty []

abbrev pub from_of : {X : Type 0} → Held X → ℕ
from_of (array_level i s xs) = i
from_of (object_level i s ms) = i

-- the level behind what comes next, where that may stand there
abbrev pub comma_next : {X : Type 0} → Held X → Option (Held X)
comma_next (array_level i array.Value xs) = Some (array_level i array.Comma xs)
comma_next (object_level i object.Value ms) = Some (object_level i object.Comma ms)
comma_next _ = None

abbrev pub colon_next : {X : Type 0} → Held X → Option (Held X)
colon_next (object_level i (object.Named n) ms) = Some (object_level i (object.Colon n) ms)
colon_next _ = None

-- an array's atoms are ys then
abbrev pub value_next : {X : Type 0} → Held X → X → List X → Option (Held X)
value_next (array_level i array.Empty xs) x ys = Some (array_level i array.Value ys)
value_next (array_level i array.Comma xs) x ys = Some (array_level i array.Value ys)
value_next (object_level i (object.Colon n) ms) x ys =
    Some (object_level i object.Value (ms ++ record { name = n.units; name_at = n.at; value = x } ∷ []))
value_next _ x ys = None

abbrev pub name_next : {X : Type 0} → Held X → MemberName → Option (Held X)
name_next (object_level i object.Empty ms) n = Some (object_level i (object.Named n) ms)
name_next (object_level i object.Comma ms) n = Some (object_level i (object.Named n) ms)
name_next _ n = None

abbrev pub takes_name : {X : Type 0} → Held X → Bool
takes_name (object_level i object.Empty ms) = true
takes_name (object_level i object.Comma ms) = true
takes_name _ = false

abbrev pub takes_value : {X : Type 0} → Held X → Bool
takes_value (array_level i array.Empty xs) = true
takes_value (array_level i array.Comma xs) = true
takes_value (object_level i (object.Colon n) ms) = true
takes_value _ = false

abbrev pub closes_with : {X : Type 0} → Held X → Bracket → Bool
closes_with (array_level i array.Empty xs) Square = true
closes_with (array_level i array.Value xs) Square = true
closes_with (object_level i object.Empty ms) Brace = true
closes_with (object_level i object.Value ms) Brace = true
closes_with _ _ = false

-- a step: the level behind what came next, or the level as it was, where that may not stand there
abbrev pub IsStep : {X : Type 0} → Held X → Option (Held X) → Step X → Type 0
IsStep old (Some h) (On l) = held_of l ≡ h
IsStep old None (Refused l) = held_of l ≡ old
IsStep old _ _ = ⊥

-- each atom of the level is the algebra's own
abbrev pub AreOwn : {X : Type 0} → (X → Type 0) → Held X → Type 0
AreOwn IsOwn (array_level i s xs) = All IsOwn xs
AreOwn IsOwn (object_level i s ms) = All (λ m. IsOwn m.value) ms

-- so many arrays with nothing in them, each right in the next, the innermost first, whose bracket stands at the offset
abbrev pub nested : {X : Type 0} → ℕ → ℕ → List (Held X)
nested last zero = []
nested last (suc n) = array_level last array.Empty [] ∷ nested (last - 1) n

-- the innermost level of those that are open there
abbrev pub top_of : {X : Type 0} → Open X → Held X
top_of (placed.Array l) = array_held l
top_of (placed.Opened i) = object_level i object.Empty []
top_of (placed.Named i n) = object_level i (object.Named n) []
top_of (placed.Awaiting i n) = object_level i (object.Colon n) []
top_of (placed.Object l) = object_held l.value
top_of (Nested n) = array_level n.last array.Empty []

-- the levels that are round it there
abbrev pub round_of : {X : Type 0} → Open X → List (Held X)
round_of (Nested n) = nested (n.last - 1) n.more
round_of _ = []

abbrev pub helds_of : {X : Type 0} → Open X → List (Held X)
helds_of o = top_of o ∷ round_of o

-- the open levels, the innermost first
abbrev pub open_levels : {X : Type 0} → List (Open X) → List (Held X)
open_levels [] = []
open_levels (o ∷ os) = open_levels os ++ helds_of o

-- the levels of stretches, the innermost last
abbrev pub stretched : {X : Type 0} → List (Stretch X) → List (Open X)
stretched [] = []
stretched (s ∷ ss) = (s.round.items ++ s.innermost ∷ []) ++ stretched ss

abbrev pub opens_of : {X : Type 0} → Levels X → List (Open X)
opens_of l = stretched l.before.items ++ l.last.items

pub record Shown (X : Type 0) : Type 0 where
  pub outer : List (Piece X)
  pub levels : List (Held X)

abbrev pub shown : {X : Type 0} → Body X → Shown X
shown b = record { outer = b.outer.items; levels = open_levels (opens_of b.levels) }

abbrev pub show_as : {X : Type 0} → List (Piece X) → List (Held X) → Shown X
show_as outer levels = record { outer = outer; levels = levels }

-- what is kept behind an item, and where the span stops, if it does
abbrev pub Added : Type 0 → Type 0
Added X = Shown X × Option SpanStop

abbrev pub stop_at : ℕ → SpanStop
stop_at i = record { within = First; item = i; place = i }

abbrev pub kept_outside : {X : Type 0} → List (Piece X) → Piece X → Added X
kept_outside outer p = (show_as (outer ++ p ∷ []) [], None)

abbrev pub put_back : {X : Type 0} → List (Piece X) → List (Held X) → ℕ → Held X → Option (Held X) → Added X
put_back outer hs i old (Some h) = (show_as outer (h ∷ hs), None)
put_back outer hs i old None = (show_as outer (old ∷ hs), Some (stop_at i))

abbrev pub comma_added : {X : Type 0} → ℕ → List (Piece X) → List (Held X) → Added X
comma_added i outer [] = kept_outside outer (Comma i)
comma_added i outer (h ∷ hs) = put_back outer hs i h (comma_next h)

abbrev pub colon_added : {X : Type 0} → ℕ → List (Piece X) → List (Held X) → Added X
colon_added i outer [] = kept_outside outer (Colon i)
colon_added i outer (h ∷ hs) = put_back outer hs i h (colon_next h)

abbrev pub first_of_piece : {X : Type 0} → Piece X → ℕ
first_of_piece (Comma i) = i
first_of_piece (Colon i) = i
first_of_piece (Text span x) = span.from
first_of_piece (Value i x) = i
first_of_piece (RowPiece r) = r.comma
first_of_piece (MembersPiece r) = r.comma
first_of_piece (ClosersPiece r) = r.from

abbrev pub is_value_piece : {X : Type 0} → Piece X → Bool
is_value_piece (Text span x) = true
is_value_piece (Value i x) = true
is_value_piece _ = false

-- each atom that is kept is the algebra's own
module _ {X : Type 0} (IsOwn : X → Type 0) where
  abbrev pub OwnPiece : Piece X → Type 0
  OwnPiece (Text span x) = IsOwn x
  OwnPiece (Value i x) = IsOwn x
  OwnPiece (RowPiece r) = All IsOwn r.items.items
  OwnPiece (MembersPiece r) = All (λ m. IsOwn m.value) r.items.items
  OwnPiece _ = ⊤
