-- What is asked, and what has to be kept of features to answer it: shapes and texts that no test and no verb looks at are
-- left out.
use Rattle.std.specs.Prelude.{ℕ, Bool, true, false, ◌&&◌, ◌||◌, if◌then◌else◌, bytes_eq, List, [], filter, count_by}
use Rattle.std.specs.Prelude.{Option, Some, None}
use Rattle.std.specs.List.{list_any}
use Rattle.at_fixed.specs.declared.rounding.Coords.{Coords}
use Rattle.at_geom.specs.declared.shapes.Shape.{Shape}
use Rattle.at_query.specs.declared.query.queries.Query.{Query}
use Rattle.at_query.specs.declared.query.queries.Test.{Test}
use Rattle.at_query.specs.declared.query.queries.Test.TheVariants.{InBox, MeetsShape, Has}
use Rattle.at_query.specs.declared.query.queries.Verb.{Verb}
use Rattle.at_query.specs.declared.query.queries.Verb.TheVariants as verbs
use Rattle.at_query.specs.declared.query.looks.Measure.{Measure}
use Rattle.at_query.specs.declared.query.looks.Measure.TheVariants as measures
use Rattle.at_query.specs.declared.features.TextPair.{TextPair}

-- a query, and how numbers are read
pub record Asked : Type 0 where
  pub query : Query
  pub digits : ℕ
  pub how : Coords

abbrev pub looks_at_shapes : Test → Bool
looks_at_shapes (InBox e) = true
looks_at_shapes (MeetsShape s) = true
looks_at_shapes (Has name value) = false

abbrev pub looks_at_texts : Test → Bool
looks_at_texts (InBox e) = false
looks_at_texts (MeetsShape s) = false
looks_at_texts (Has name value) = true

abbrev pub tells_shapes : Verb → Bool
tells_shapes verbs.Select = false
tells_shapes verbs.Count = false
tells_shapes verbs.Area = true
tells_shapes verbs.Extent = true
tells_shapes verbs.Hull = true
tells_shapes verbs.Join = true

-- the verb or a test looks at shapes
abbrev pub needs_shapes : Query → Bool
needs_shapes query = tells_shapes query.verb || list_any looks_at_shapes query.tests

-- how many tests look at texts
abbrev pub text_tests : List Test → ℕ
text_tests tests = count_by looks_at_texts tests

-- the test asks for a text of this value; of this name and this value
abbrev pub wants_value : List ℕ → Test → Bool
wants_value value (InBox e) = false
wants_value value (MeetsShape s) = false
wants_value value (Has n v) = bytes_eq v value

abbrev pub wants_pair : List ℕ → List ℕ → Test → Bool
wants_pair name value (InBox e) = false
wants_pair name value (MeetsShape s) = false
wants_pair name value (Has n v) = bytes_eq n name && bytes_eq v value

abbrev pub asks_value : List Test → List ℕ → Bool
asks_value tests value = list_any (wants_value value) tests

abbrev pub asks_pair : List Test → List ℕ → List ℕ → Bool
asks_pair tests name value = list_any (wants_pair name value) tests

-- the texts for which some test asks
abbrev pub asked_texts : List Test → List TextPair → List TextPair
asked_texts tests pairs = filter (λ (p : TextPair). asks_pair tests p.name p.value) pairs

-- all or nothing
abbrev pub kept : {X : Type 0} → Bool → List X → List X
kept true xs = xs
kept false xs = []

abbrev pub kept_shape : Bool → Shape → Shape
kept_shape needs s = record {
  points = kept needs s.points;
  lines = kept needs s.lines;
  polygons = kept needs s.polygons;
}

-- ---- what is asked of positions of which none is kept

-- what a verb asks of positions, where it keeps none of them
abbrev pub measured_by : Verb → Option Measure
measured_by verbs.Select = Some measures.Count
measured_by verbs.Count = Some measures.Count
measured_by verbs.Area = Some measures.Area
measured_by verbs.Extent = Some measures.Extent
measured_by verbs.Hull = None
measured_by verbs.Join = None

-- the verb asks for the offsets of features
abbrev pub selects : Verb → Bool
selects verbs.Select = true
selects _ = false

-- the same of a query: tests that look at shapes look at the shapes themselves
abbrev pub measure_of : Query → Option Measure
measure_of query = if list_any looks_at_shapes query.tests then None else measured_by query.verb
