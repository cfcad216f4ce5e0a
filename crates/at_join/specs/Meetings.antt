-- The pairs of two lists of entries of which the shapes meet.
use Rattle.std.specs.Prelude.{◌≡◌, List, [], ◌++◌, All, map}
use Rattle.at_geom.specs.Shapes.{IsShapeInRange, Meet}
use Rattle.at_query.specs.declared.answer.parts.Entry.{Entry}
use Rattle.at_query.specs.declared.answer.answers.Pair.{Pair}
use Rattle.at_query.specs.Results.{Keeps, pairs_of}

-- all coordinates are in range
abbrev pub AreInRange : List Entry → Type 0
AreInRange es = All (λ (e : Entry). IsShapeInRange e.shape) es

-- the two shapes meet
abbrev pub Meeting : Entry × Entry → Type 0
Meeting (e, f) = Meet e.shape f.shape

-- the offsets of two entries
abbrev pub at_entries : Entry × Entry → Pair
at_entries (e, f) = record { first = e.at; second = f.at }

-- new is old with what f makes of those of the elements that have the property behind it, in order
abbrev pub Finds : {X Y : Type 0} → (X → Type 0) → (X → Y) → List X → List Y → List Y → Type 0
Finds {X} P f xs old new = (kept : List X) × Keeps P xs kept × (new ≡ old ++ map f kept)

-- all pairs that meet, in order of the first list, then the second
abbrev pub IsAllPairs : List Entry → List Entry → List Pair → Type 0
IsAllPairs a b ps = Finds Meeting at_entries (pairs_of a b) [] ps
