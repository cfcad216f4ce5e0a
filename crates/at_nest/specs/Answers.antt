-- What is answered of a form of a whole text.
use Rattle.std.specs.Prelude.{◌≡◌, ℕ, ◌+◌, ◌<◌, cond, Option, Some, None, List, [], ◌∷◌, length}
use Rattle.at_text.specs.Prefix.{LongestViable}
use Rattle.at_nest.specs.Tree.{Tree, IsTextOf}
use Rattle.at_nest.specs.Syntax.{JsonText}
use Rattle.at_nest.specs.States.{State, value, accepts}
use Rattle.at_nest.specs.Forms.{Meaning, fold_of, Piece, mark, quoted, entry}
use Rattle.at_nest.specs.Walks.{value_kind, text_kind, next, walks, Walk, reached, refused}
use Rattle.at_nest.specs.Levels.{pieces_of, Pushed, further, stopped, SpanStop, Within, at_first, in_run, in_text}

pub data Answer (X : Type 0) : Type 0 where
  folded : X → Answer X
  syntax : ℕ → Answer X
  ended : Answer X

-- the meaning of a form that is one value
abbrev pub single : {X : Type 0} → Meaning X → List (Piece X) → Option X
single m (mark (quoted i cs) ∷ []) = Some (m.of_text i cs)
single m (mark (entry i x) ∷ []) = Some x
single m _ = None

abbrev pub folded_or : {X : Type 0} → Option X → Answer X
folded_or None = ended
folded_or (Some x) = folded x

abbrev pub by_walk : {X : Type 0} → Meaning X → List (Piece X) → Walk → Answer X
by_walk m ps (refused i) = syntax i
by_walk m ps (reached t) = cond (accepts t) (folded_or (single m ps)) ended

abbrev pub choose : {X : Type 0} → Option X → ℕ → ℕ → ℕ
choose None i j = i
choose (Some x) i j = j

-- the place of a stop behind the state t: in the item, where it may stand there
abbrev pub halt_place : State → Within → ℕ → ℕ → ℕ
halt_place t at_first i j = i
halt_place t in_run i j = choose (next t value_kind) i j
halt_place t in_text i j = choose (next t text_kind) i j

abbrev pub stop_by : {X : Type 0} → SpanStop → Walk → Answer X
stop_by h (refused k) = syntax k
stop_by h (reached t) = syntax (halt_place t h.kind h.item h.place)

abbrev pub finished : {X : Type 0} → Meaning X → Pushed X → Answer X
finished m (further f) = by_walk m (pieces_of f) (walks (value []) (pieces_of f))
finished m (stopped f i) = stop_by i (walks (value []) (pieces_of f))

-- the answer is right: the fold of the bytes' tree, or where their longest viable prefix ends
abbrev pub IsAnswer : {X : Type 0} → Meaning X → ℕ → List ℕ → Answer X → Type 0
IsAnswer m at w (folded x) = (t : Tree) × IsTextOf at w t × (fold_of m t ≡ x)
IsAnswer m at w (syntax i) = (n : ℕ) × (i ≡ at + n) × (n < length w) × LongestViable (JsonText 0) w n
    × (¬ (JsonText 0) w)
IsAnswer m at w ended = LongestViable (JsonText 0) w (length w) × (¬ (JsonText 0) w)
