-- What may stand behind the items of a text, and what is answered where the text ends or stops behind them, by what is
-- kept of them.
use Rattle.std.specs.Prelude.{ℕ, Bool, true, false, if◌then◌else◌, List, [], ◌∷◌, Result, Ok, Err}
use Rattle.std.specs.Bool.{⊤}
use Rattle.at_nest.specs.declared.finishing.Next.{Next}
use Rattle.at_nest.specs.declared.finishing.Next.TheVariants as next
use Rattle.at_nest.specs.declared.finishing.NestEnd.{NestEnd}
use Rattle.at_nest.specs.declared.finishing.NestEnd.TheVariants.{Syntax, Ended}
use Rattle.at_nest.specs.declared.pieces.Piece.{Piece}
use Rattle.at_nest.specs.declared.pieces.Piece.TheVariants.{Text, Value}
use Rattle.at_nest.specs.declared.pieces.SpanStop.{SpanStop}
use Rattle.at_nest.specs.declared.pieces.Within.{Within}
use Rattle.at_nest.specs.declared.pieces.Within.TheVariants as within
use Rattle.at_nest.specs.Shown.{Held, Shown, first_of_piece, is_value_piece, from_of, takes_name, takes_value}

-- an item of which this is the beginning may stand next
abbrev pub takes : Within → Next → Bool
takes within.First n = false
takes within.Run next.Value = true
takes within.Run _ = false
takes within.Text next.Value = true
takes within.Text next.Name = true
takes within.Text _ = false

abbrev pub level_next : {X : Type 0} → Held X → Next
level_next h = if takes_value h then next.Value else (if takes_name h then next.Name else next.Mark)

-- behind one open level more, or the first item that may not stand where it does
abbrev pub level_after : {X : Type 0} → Result Next ℕ → Held X → Result Next ℕ
level_after (Err i) h = Err i
level_after (Ok next.Value) h = Ok (level_next h)
level_after (Ok _) h = Err (from_of h)

-- behind the open levels, the innermost first
abbrev pub levels_next : {X : Type 0} → Result Next ℕ → List (Held X) → Result Next ℕ
levels_next r [] = r
levels_next r (h ∷ hs) = level_after (levels_next r hs) h

-- no value may stand next
abbrev pub IsNoValue : Next → Type 0
IsNoValue next.Value = ⊥
IsNoValue _ = ⊤

-- behind what stands before the first open level
abbrev pub outer_next : {X : Type 0} → List (Piece X) → Result Next ℕ
outer_next [] = Ok next.Value
outer_next (p ∷ []) = if is_value_piece p then Ok next.Nothing else Err (first_of_piece p)
outer_next (p ∷ (q ∷ ps)) = if is_value_piece p then Err (first_of_piece q) else Err (first_of_piece p)

abbrev pub next_of : {X : Type 0} → Shown X → Result Next ℕ
next_of s = levels_next (outer_next s.outer) s.levels

-- the atom of the last item, where it is a value
abbrev pub value_of : {X : Type 0} → Piece X → Result X NestEnd
value_of (Text span x) = Ok x
value_of (Value i x) = Ok x
value_of _ = Err Ended

abbrev pub only_of : {X : Type 0} → List (Piece X) → Result X NestEnd
only_of [] = Err Ended
only_of (p ∷ []) = value_of p
only_of (p ∷ (q ∷ ps)) = only_of (q ∷ ps)

abbrev pub answer_by : {X : Type 0} → Result Next ℕ → List (Piece X) → Result X NestEnd
answer_by (Err i) ps = Err (Syntax i)
answer_by (Ok next.Nothing) ps = only_of ps
answer_by (Ok _) ps = Err Ended

-- the answer of a text whose items are these
abbrev pub answer_of : {X : Type 0} → Shown X → Result X NestEnd
answer_of s = answer_by (next_of s) s.outer

-- where a text stops that stops behind its items
abbrev pub stop_of : Result Next ℕ → SpanStop → NestEnd
stop_of (Err i) h = Syntax i
stop_of (Ok n) h = if takes h.within n then Syntax h.place else Syntax h.item

-- the answer of a text that ends behind its items in the beginning of one
abbrev pub open_of : Result Next ℕ → Within → ℕ → NestEnd
open_of (Err i) within from = Syntax i
open_of (Ok n) within from = if takes within n then Ended else Syntax from
