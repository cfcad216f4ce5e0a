-- Each feature is read behind those before it.
use Rattle.std.proofs.Common.{arith, sym, subst}
use Rattle.at_geojson.specs.declared.atoms.atom.Items.{Items}
use Rattle.at_geojson.specs.FeatureRuns.{AreFeaturesRead}
use Rattle.at_geojson.proofs.FeatureJoins.{feature_within, feature_order, can_join, features_go_on}
use Rattle.at_geojson.proofs.at_once.feature_runs.read_features.Goals as goal

pub join_features-requires : goal.join_features-requires
join_features-requires c = can_join c.args.text.now.algebra.now c.args.text.now.base c.args.text.now.bytes.now c.args.text.now.alloc c.in-Some.first c.in-Ok.field-0 c.in-Ok.ensures.reads c.args.at c.features.end c.deref_mut.result.now
    (subst (λ (z : Items). AreFeaturesRead c.args.text.now.algebra.now c.args.text.now.base c.args.text.now.bytes.now c.args.at c.features.end z) (sym c.deref_mut.ensures.value) c.features.invariant.read)

pub skip_spaces-end-requires : goal.skip_spaces-end-requires
skip_spaces-end-requires c = feature_within c.args.text.now.algebra.now c.args.text.now.base c.args.text.now.bytes.now c.args.text.now.alloc c.in-Some.first c.in-Ok.field-0 c.in-Ok.ensures.reads

pub features-smaller : goal.features-smaller
features-smaller c = omega (arith, c.in-Some.ensures.order, c.in-Some.ensures.inside, feature_order c.args.text.now.algebra.now c.args.text.now.base c.args.text.now.bytes.now c.args.text.now.alloc c.in-Some.first c.in-Ok.field-0 c.in-Ok.ensures.reads, c.skip_spaces-end.ensures.order, c.skip_spaces-end.ensures.within)

pub features-preserved : goal.features-preserved
features-preserved c = record {
  own = c.in-Ok.ensures.own;
  properties = c.in-Ok.ensures.properties;
  read = features_go_on c.args.text.now.algebra.now c.args.text.now.base c.args.text.now.bytes.now c.args.text.now.alloc c.in-Some.first c.in-Ok.field-0 c.in-Ok.ensures.reads c.args.at c.features.end c.deref_mut.result.now
      (subst (λ (z : Items). AreFeaturesRead c.args.text.now.algebra.now c.args.text.now.base c.args.text.now.bytes.now c.args.at c.features.end z) (sym c.deref_mut.ensures.value) c.features.invariant.read)
      c.skip_spaces-end.result c.join_features.new.run c.in-Some.ensures c.in_ok-join_features-in-Ok.ensures.geometries c.in_ok-join_features-in-Ok.ensures.features
      c.skip_spaces-end.ensures.order c.skip_spaces-end.ensures.within c.skip_spaces-end.ensures.spaces;
}

pub begin_features-requires-clause-own : goal.begin_features-requires-clause-own
begin_features-requires-clause-own c = (c.none-names.ensures c.args.text.now.bytes.now).own

pub begin_features-requires-clause-properties : goal.begin_features-requires-clause-properties
begin_features-requires-clause-properties c = (c.none-names.ensures c.args.text.now.bytes.now).properties
