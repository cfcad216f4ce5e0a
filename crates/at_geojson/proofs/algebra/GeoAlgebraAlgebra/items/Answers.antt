-- The items of an array that begin the text.
use Rattle.std.proofs.lemmas.Result.{IfOk-weaker}
use Rattle.at_geojson.proofs.FeatureJoins.{items_told}
use Rattle.at_geojson.proofs.algebra.GeoAlgebraAlgebra.items.Goals as goal

pub returns : goal.returns
returns c = IfOk-weaker c.attempted.result _ _ (items_told c.args.self.now c.args.at c.args.text.now c.whole_items-whole.result c.whole_items-whole.ensures) c.attempted.ensures
