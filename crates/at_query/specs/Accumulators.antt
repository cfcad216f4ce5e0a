-- What is kept of features that are added one by one, before it becomes a part.
use Rattle.std.specs.Prelude.{◌≡◌, ◌≢◌, Bool, true, false, List, [], ◌∷◌, ◌++◌}
use Rattle.at_hull.specs.Growth.{HaveOneHull, held}
use Rattle.at_geom.specs.Shapes.{positions, extent_of}
use Rattle.at_query.specs.declared.query.queries.Verb.{Verb}
use Rattle.at_query.specs.declared.query.queries.Verb.TheVariants as verbs
use Rattle.at_query.specs.declared.query.queries.Query.{Query}
use Rattle.at_query.specs.declared.features.Feature.{Feature}
use Rattle.at_query.specs.declared.answer.parts.Part.{Part}
use Rattle.at_query.specs.declared.answer.parts.Part.TheVariants as parts
use Rattle.at_query.specs.declared.answer.accumulators.Accumulator.{Accumulator}
use Rattle.at_query.specs.declared.answer.accumulators.Accumulator.TheVariants.{Part as APart, Hull}
use Rattle.at_query.specs.Holding.{Holds}
use Rattle.at_query.specs.Results.{Keeps, all_positions}
use Rattle.at_query.specs.Parts.{IsKeptOf, IsOfOneSize, AreAlike, entry_of, wrapped_sum}

-- what a verb keeps of the features that are left: their part, or for a hull positions that have one hull with all of
-- theirs
abbrev pub IsKeptIn : Verb → List Feature → Accumulator → Type 0
IsKeptIn verb kept (APart part) = (verb ≢ verbs.Hull) × IsKeptOf verb kept part
IsKeptIn verb kept (Hull growth) = (verb ≡ verbs.Hull) × HaveOneHull (all_positions kept) (held growth)

-- what is kept of the features, for the query
abbrev pub IsAccumulated : Query → List Feature → Accumulator → Type 0
IsAccumulated query fs kept = (left : List Feature) × Keeps (Holds query) fs left × IsKeptIn query.verb left kept

-- both are of one verb
abbrev pub AreOfOneVerb : Accumulator → Accumulator → Type 0
AreOfOneVerb (APart a) (APart b) = AreAlike a b
AreOfOneVerb (Hull a) (Hull b) = Unit {0}
AreOfOneVerb _ _ = ⊥

-- whatever the lists and the query are of which these are kept, it is what is kept of the joined lists
abbrev pub JoinsAccumulators : Accumulator → Accumulator → Accumulator → Type 0
JoinsAccumulators left right both = (query : Query) (fs gs : List Feature) → IsAccumulated query fs left
    → IsAccumulated query gs right → IsAccumulated query (fs ++ gs) both

-- it is a number or an extent
abbrev pub HasOneSize : Accumulator → Type 0
HasOneSize (APart part) = IsOfOneSize part
HasOneSize (Hull growth) = ⊥

-- no position waits, so that the part takes no memory
abbrev pub IsSettled : Accumulator → Type 0
IsSettled (APart part) = Unit {0}
IsSettled (Hull growth) = growth.waiting ≡ []

-- ---- words of private functions

abbrev pub is_hull : Verb → Bool
is_hull verbs.Select = false
is_hull verbs.Count = false
is_hull verbs.Area = false
is_hull verbs.Extent = false
is_hull verbs.Hull = true
is_hull verbs.Join = false

-- the part is no hull
abbrev pub IsNoHull : Part → Type 0
IsNoHull (parts.Hull h) = ⊥
IsNoHull _ = Unit {0}

abbrev pub is_entries : Part → Bool
is_entries (parts.Offsets a) = false
is_entries (parts.Count n) = false
is_entries (parts.Area z) = false
is_entries (parts.Spread e) = false
is_entries (parts.Entries es) = true
is_entries (parts.Hull h) = false

-- the part keeps no shape, and is no hull
abbrev pub KeepsNoShape : Part → Type 0
KeepsNoShape (parts.Hull h) = ⊥
KeepsNoShape (parts.Entries es) = ⊥
KeepsNoShape _ = Unit {0}

-- what the feature adds to a part
abbrev pub added_by : Feature → Part → Part
added_by f (parts.Offsets a) = parts.Offsets (f.at ∷ [])
added_by f (parts.Count n) = parts.Count 1
added_by f (parts.Area z) = parts.Area (wrapped_sum f.shape.polygons)
added_by f (parts.Spread e) = parts.Spread (extent_of (positions f.shape))
added_by f (parts.Entries es) = parts.Entries (entry_of f ∷ [])
added_by f (parts.Hull h) = parts.Hull h
