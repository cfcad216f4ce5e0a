-- Of which features the tests of a query hold (docs/QUERY.md, "Tests").
use Rattle.std.specs.Prelude.{ℕ, Bool, ◌&&◌, IsTrue, bytes_eq, List}
use Rattle.std.specs.List.{AllByRecursion, list_any}
use Rattle.at_geom.specs.Shapes.{positions, are_all_within, Meet}
use Rattle.at_query.specs.declared.query.queries.Query.{Query}
use Rattle.at_query.specs.declared.query.queries.Test.{Test}
use Rattle.at_query.specs.declared.query.queries.Test.TheVariants.{InBox, MeetsShape, Has}
use Rattle.at_query.specs.declared.features.Feature.{Feature}
use Rattle.at_query.specs.declared.features.LentFeature.{LentFeature}
use Rattle.at_query.specs.declared.features.TextPair.{TextPair}

-- the feature of which the parts are lent
abbrev pub lent_feature : LentFeature → Feature
lent_feature lent = record { at = lent.at; shape = lent.shape.now; texts = lent.texts.now }

-- a text of the feature has the units of both
abbrev pub has_text : List TextPair → List ℕ → List ℕ → Bool
has_text pairs name value = list_any (λ (p : TextPair). bytes_eq p.name name && bytes_eq p.value value) pairs

abbrev pub TestHolds : Test → Feature → Type 0
TestHolds (InBox e) f = IsTrue (are_all_within e (positions f.shape))
TestHolds (MeetsShape s) f = Meet f.shape s
TestHolds (Has name value) f = IsTrue (has_text f.texts name value)

-- all tests of the query hold of the feature
abbrev pub Holds : Query → Feature → Type 0
Holds query f = AllByRecursion (λ t. TestHolds t f) query.tests
