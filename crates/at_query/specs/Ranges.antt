-- Queries and features whose coordinates are in range, at most 30,000,000 in size at seven decimal digits.
use Rattle.std.specs.Prelude.{List, All}
use Rattle.at_geom.specs.Shapes.{IsShapeInRange}
use Rattle.at_query.specs.declared.query.queries.Test.{Test}
use Rattle.at_query.specs.declared.query.queries.Test.TheVariants.{InBox, MeetsShape, Has}
use Rattle.at_query.specs.declared.query.queries.Query.{Query}
use Rattle.at_query.specs.declared.features.Feature.{Feature}

-- the coordinates of the shape that a test compares with
abbrev pub IsTestInRange : Test → Type 0
IsTestInRange (InBox e) = Unit {0}
IsTestInRange (MeetsShape s) = IsShapeInRange s
IsTestInRange (Has name value) = Unit {0}

abbrev pub AreTestsInRange : List Test → Type 0
AreTestsInRange tests = All IsTestInRange tests

abbrev pub IsQueryInRange : Query → Type 0
IsQueryInRange query = AreTestsInRange query.tests

abbrev pub IsFeatureInRange : Feature → Type 0
IsFeatureInRange f = IsShapeInRange f.shape

abbrev pub AreFeaturesInRange : List Feature → Type 0
AreFeaturesInRange fs = All IsFeatureInRange fs
