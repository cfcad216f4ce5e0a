-- One chain of the walk. A stack is a chain with its end first.
use Rattle.std.specs.Prelude.{◌≡◌, pos, int_le, Bool, false, if◌then◌else◌, List, [], ◌∷◌, reverse}
use Rattle.at_geom.specs.declared.positions.Pos.{Pos}
use Rattle.at_geom.specs.Segments.{turn}

-- the way from the second over the first to c doesn't turn left
abbrev pub is_dropped : Pos → List Pos → Bool
is_dropped c [] = false
is_dropped c (b ∷ []) = false
is_dropped c (b ∷ a ∷ rest) = int_le (turn a b c) (pos 0)

abbrev pub popped : Pos → List Pos → List Pos
popped c [] = []
popped c (b ∷ rest) = if is_dropped c (b ∷ rest) then popped c rest else (b ∷ rest)

abbrev pub pushed : List Pos → Pos → List Pos
pushed stack c = c ∷ popped c stack

-- a vector without its end, told by the stack
abbrev pub IsWithoutEnd : List Pos → List Pos → Type 0
IsWithoutEnd way front = (t : Pos) (s : List Pos) → reverse way ≡ t ∷ s → front ≡ reverse s
