use Rattle.std.proofs.Common.{◌≤◌, length, refl, arith}
use Rattle.at_geojson.proofs.FeatureJoins.{feature_within}
use Rattle.at_geojson.proofs.FeatureFronts.{front_told}
use Rattle.at_geojson.proofs.root.feature_front.Goals as goal

pub overflow_cast-result : goal.overflow_cast-result
overflow_cast-result c =
    let within : c.in-Ok.field-0.end ≤ length c.args.text.now = feature_within c.args.algebra.now c.args.base c.args.text.now c.args.alloc 0 c.in-Ok.field-0 c.in-Ok.ensures.reads in
    omega (arith, within, c.requires)

pub returns-in-Ok : goal.returns-in-Ok
returns-in-Ok c = front_told c.args.algebra.now c.args.base c.args.text.now c.args.alloc c.in-Ok.field-0 _ refl refl c.in-Ok.ensures.reads

pub read_feature-requires-clause-own : goal.read_feature-requires-clause-own
read_feature-requires-clause-own c = (c.none-names.ensures c.args.text.now).own

pub read_feature-requires-clause-properties : goal.read_feature-requires-clause-properties
read_feature-requires-clause-properties c = (c.none-names.ensures c.args.text.now).properties
