-- Between features: those before were read.
use Rattle.std.proofs.Common.{◌-◌, length}
use Rattle.at_scan.specs.Members.{ArePlainOthers}
use Rattle.at_geojson.specs.FeatureRuns.{AreFeaturesRead}
use Rattle.at_geojson.proofs.at_once.feature_runs.read_features.Given as goal

abbrev pub invariant-features : goal.invariant-features
invariant-features l = record {
  own : ArePlainOthers l.text.bytes.now l.names.own;
  properties : ArePlainOthers l.text.bytes.now l.names.properties;
  read : AreFeaturesRead l.text.algebra.now l.text.base l.text.bytes.now l.at l.end l.run.value;
}

abbrev pub decreases-features : goal.decreases-features
decreases-features l = length l.text.bytes.now - l.end
