-- Tests on texts, and how many of them texts meet. Only contracts of private functions cite this.
use Rattle.std.specs.Prelude.{ℕ, Bool, true, false, bytes_eq, List, [], ◌∷◌, Option, Some, None, count_by}
use Rattle.std.specs.List.{list_all}
use Rattle.at_query.specs.declared.query.queries.Test.{Test}
use Rattle.at_query.specs.declared.query.queries.Test.TheVariants.{InBox, MeetsShape, Has}
use Rattle.at_query.specs.declared.features.TextPair.{TextPair}
use Rattle.at_query.specs.Holding.{has_text}
use Rattle.at_query.specs.Keeping.{wants_pair}

-- the test asks for a text of this name
abbrev pub wants_name : List ℕ → Test → Bool
wants_name name (InBox e) = false
wants_name name (MeetsShape s) = false
wants_name name (Has n v) = bytes_eq n name

-- how many of them ask for the text, where there is one
abbrev pub met_of : List Test → List ℕ → Option (List ℕ) → ℕ
met_of tests name None = 0
met_of tests name (Some value) = count_by (wants_pair name value) tests

-- the test looks at texts, and holds of these
abbrev pub is_met : List TextPair → Test → Bool
is_met texts (InBox e) = false
is_met texts (MeetsShape s) = false
is_met texts (Has n v) = has_text texts n v

-- how many tests on texts hold of these
abbrev pub met_by : List Test → List TextPair → ℕ
met_by tests texts = count_by (is_met texts) tests

-- the test holds of the texts, if it looks at texts
abbrev pub holds_if_text : List TextPair → Test → Bool
holds_if_text texts (InBox e) = true
holds_if_text texts (MeetsShape s) = true
holds_if_text texts (Has n v) = has_text texts n v

-- all tests that look at texts hold of these
abbrev pub texts_hold : List Test → List TextPair → Bool
texts_hold tests texts = list_all (holds_if_text texts) tests

-- the text for which the test asks
abbrev pub pair_of : Test → List TextPair
pair_of (InBox e) = []
pair_of (MeetsShape s) = []
pair_of (Has n v) = record { name = n; value = v } ∷ []
