-- Between objects: those before are a run.
use Rattle.std.proofs.Common.{◌-◌, length}
use Rattle.at_geojson.specs.declared.atoms.atom.GeoAtom.TheVariants as atoms
use Rattle.at_geojson.specs.FeatureRuns.{AreItemsWhole}
use Rattle.at_geojson.proofs.at_once.object_runs.objects_behind.Given as goal

abbrev pub invariant-objects : goal.invariant-objects
invariant-objects l = AreItemsWhole l.text.algebra.now l.text.base l.text.bytes.now 0 (record { end = l.end; atom = atoms.Run l.run })

abbrev pub decreases-objects : goal.decreases-objects
decreases-objects l = length l.text.bytes.now - l.end
