-- What is kept of the lines of a file as they are read: what a query keeps of their features, or the first fault so
-- far.
use Rattle.std.specs.Prelude.{◌≡◌, ℕ, List, [], ◌∷◌, ◌++◌, Option, Some, None}
use Rattle.std.specs.List.{AllByRecursion}
use Rattle.std.specs.Str.{IsUtf8}
use Rattle.at_text.specs.declared.faults.Fault.{Fault}
use Rattle.at_text.specs.Faults.{first_of}
use Rattle.at_fixed.specs.declared.rounding.Coords.{Coords}
use Rattle.at_wkt.specs.Lines.{FileLine}
use Rattle.at_query.specs.declared.query.queries.Query.{Query}
use Rattle.at_query.specs.declared.features.Feature.{Feature}
use Rattle.at_query.specs.declared.query.queries.Verb.TheVariants as verbs
use Rattle.at_query.specs.declared.answer.accumulators.Accumulator.{Accumulator}
use Rattle.at_query.specs.Ranges.{IsFeatureInRange}
use Rattle.at_query.specs.Accumulators.{IsAccumulated}
use Rattle.at_query.specs.GatheredParts.{IsOwnOf, counted_of}
use Rattle.at_query.specs.declared.answer.gathered.Gathered.{Gathered}
use Rattle.at_query.specs.declared.answer.gathered.Gathered.TheVariants.{Kept, Failed}
use Rattle.at_run.specs.Features.{IsLineFeature, AreLineFeatures}
use Rattle.at_run.specs.LineFaults.{HaveFaults}

-- a query, and how the numbers of the lines are read
pub record Asked : Type 0 where
  pub query : Query
  pub digits : ℕ
  pub how : Coords

-- the first fault of the lines, or none, and no other is
pub record IsFirstOfLines (digits : ℕ) (how : Coords) (lines : List FileLine) (first : Option Fault) : Type 0 where
  pub faults : List Fault
  pub have : HaveFaults digits how lines faults
  pub first_is : first ≡ first_of faults
  pub only : (others : List Fault) → HaveFaults digits how lines others → first_of others ≡ first

-- what the query keeps of the lines' features
abbrev pub IsKeptOfLines : Asked → List FileLine → Accumulator → Type 0
IsKeptOfLines asked lines kept = (features : List Feature) × AreLineFeatures asked.digits asked.how lines features
    × IsAccumulated asked.query features kept

-- what the query keeps of some features, or a fault
abbrev pub IsOwn : Asked → Gathered → Type 0
IsOwn asked gathered = IsOwnOf asked.query gathered

-- the text of each line is UTF-8 (RFC 3629)
abbrev pub AreValid : List FileLine → Type 0
AreValid lines = AllByRecursion (λ (l : FileLine). IsUtf8 l.text) lines

-- the lines are UTF-8, none of them has a fault, and this is kept of their features; or, where they are UTF-8, this is
-- the first of their faults
abbrev pub IsGathered : Asked → Gathered → List FileLine → Type 0
IsGathered asked (Kept kept) lines = AreValid lines × IsFirstOfLines asked.digits asked.how lines None
    × IsKeptOfLines asked lines kept
IsGathered asked (Failed fault) lines = AreValid lines → IsFirstOfLines asked.digits asked.how lines (Some fault)

-- nothing but the count of all features is asked for
abbrev pub CountsAll : Query → Type 0
CountsAll query = (query.verb ≡ verbs.Count) × (query.tests ≡ [])

-- whatever is asked, and of whatever lines these were gathered, it is what is gathered of the joined lines
abbrev pub JoinsGathered : Gathered → Gathered → Gathered → Type 0
JoinsGathered left right both = (asked : Asked) (before behind : List FileLine) → IsGathered asked left before
    → IsGathered asked right behind → IsGathered asked both (before ++ behind)

-- whatever is asked that both are own of, it is own of
abbrev pub KeepsOwn : Gathered → Gathered → Gathered → Type 0
KeepsOwn left right both = (asked : Asked) → IsOwn asked left → IsOwn asked right → IsOwn asked both

-- where nothing but the count of all features is asked for, this is what is kept of the line
abbrev pub IsChecked : Asked → FileLine → Option Fault → Type 0
IsChecked asked line found = CountsAll asked.query → IsOwn asked (counted_of found)
    × IsGathered asked (counted_of found) (line ∷ [])

-- what is read of a line without a fault: whatever is kept behind other features by what is read is what is kept by the
-- line's feature
pub record IsLineRead (asked : Asked) (line : FileLine) (read : Feature) : Type 0 where
  pub in_range : IsFeatureInRange read
  pub valid : IsUtf8 line.text
  pub faultless : IsFirstOfLines asked.digits asked.how (line ∷ []) None
  pub feature : Feature
  pub is_feature : IsLineFeature asked.digits asked.how line feature
  pub keeps : (before : List Feature) (kept : Accumulator) → IsAccumulated asked.query (before ++ read ∷ []) kept
      → IsAccumulated asked.query (before ++ feature ∷ []) kept
