-- The run has the one feature's part.
use Rattle.std.proofs.Common.{subst, sym}
use Rattle.at_geojson.specs.declared.atoms.atom.Items.{Items}
use Rattle.at_geojson.specs.FeatureRuns.{AreFeaturesRead}
use Rattle.at_geojson.proofs.FeatureJoins.{feature_within, features_begin}
use Rattle.at_geojson.proofs.at_once.feature_runs.begin_features.Goals as goal

pub skip_spaces-end-requires : goal.skip_spaces-end-requires
skip_spaces-end-requires c = feature_within c.args.text.now.algebra.now c.args.text.now.base c.args.text.now.bytes.now c.args.text.now.alloc c.args.at c.in_ok-end.field-0 c.in_ok-end.ensures.reads

pub returns-clause-reads : goal.returns-clause-reads
returns-clause-reads c = subst (λ (z : Items). AreFeaturesRead c.args.text.now.algebra.now c.args.text.now.base c.args.text.now.bytes.now c.args.at c.skip_spaces-end.result z) (sym c.in_ok-run.ensures.ok)
    (features_begin c.args.text.now.algebra.now c.args.text.now.base c.args.text.now.bytes.now c.args.text.now.alloc c.args.at c.in_ok-end.field-0 c.in_ok-end.ensures.reads c.feature_items.result c.feature_items.ensures.geometries c.feature_items.ensures.features
    c.skip_spaces-end.result c.skip_spaces-end.ensures.order c.skip_spaces-end.ensures.within c.skip_spaces-end.ensures.spaces)
