-- What is kept of lines, or of records, and how further ones are put behind it: what a query keeps of their features,
-- or the first fault so far.
use Rattle.std.specs.Prelude.{◌≡◌, List, [], ◌∷◌, ◌++◌, Option, Some, None}
use Rattle.at_text.specs.declared.faults.Fault.{Fault}
use Rattle.at_text.specs.Faults.{first_fault}
use Rattle.at_query.specs.declared.query.queries.Query.{Query}
use Rattle.at_query.specs.declared.features.Feature.{Feature}
use Rattle.at_query.specs.declared.answer.parts.Part.TheVariants.{Count}
use Rattle.at_query.specs.declared.answer.accumulators.Accumulator.{Accumulator}
use Rattle.at_query.specs.declared.answer.accumulators.Accumulator.TheVariants.{Part}
use Rattle.at_query.specs.declared.answer.gathered.Gathered.{Gathered}
use Rattle.at_query.specs.declared.answer.gathered.Gathered.TheVariants.{Kept, Failed}
use Rattle.at_query.specs.Accumulators.{IsAccumulated, AreOfOneVerb, JoinsAccumulators}

-- what the query keeps of some features, or a fault
abbrev pub IsOwnOf : Query → Gathered → Type 0
IsOwnOf query (Kept kept) = (features : List Feature) × IsAccumulated query features kept
IsOwnOf query (Failed fault) = Unit {0}

-- what is kept of a line with this first fault, or with none, where nothing but the count of all features is asked for
abbrev pub counted_of : Option Fault → Gathered
counted_of None = Kept (Part (Count 1))
counted_of (Some fault) = Failed fault

-- where neither is a fault, both are of one verb
abbrev pub AreJoinable : Gathered → Gathered → Type 0
AreJoinable (Kept left) (Kept right) = AreOfOneVerb left right
AreJoinable _ _ = Unit {0}

-- what is kept of both, or the first of the faults; what is kept beside a fault is let go
abbrev pub IsJoinOf : Gathered → Gathered → Gathered → Type 0
IsJoinOf (Kept left) (Kept right) both = (kept : Accumulator) × (both ≡ Kept kept) × JoinsAccumulators left right kept
IsJoinOf (Kept left) (Failed fault) both = both ≡ Failed fault
IsJoinOf (Failed fault) (Kept right) both = both ≡ Failed fault
IsJoinOf (Failed left) (Failed right) both = (fault : Fault) × (both ≡ Failed fault)
    × (Some fault ≡ first_fault (Some left) (Some right))

-- the feature is put behind those of which the one is kept; a fault stays as it is
abbrev pub AddsFeature : Query → Feature → Gathered → Gathered → Type 0
AddsFeature query feature (Kept old) new = (kept : Accumulator) × (new ≡ Kept kept)
    × ((fs : List Feature) → IsAccumulated query fs old → IsAccumulated query (fs ++ feature ∷ []) kept)
AddsFeature query feature (Failed fault) new = new ≡ Failed fault
