-- The value that begins the text.
use Rattle.std.proofs.lemmas.Result.{IfOk-weaker}
use Rattle.at_geojson.proofs.FeatureJoins.{value_told}
use Rattle.at_geojson.proofs.algebra.GeoAlgebraAlgebra.value.Goals as goal

pub returns : goal.returns
returns c = IfOk-weaker c.attempted.result _ _ (value_told c.args.self.now c.args.at c.args.text.now c.whole_value-whole.result c.whole_value-whole.ensures) c.attempted.ensures
