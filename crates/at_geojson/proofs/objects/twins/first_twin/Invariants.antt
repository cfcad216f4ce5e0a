use Rattle.std.proofs.Common.{◌≡◌, take}
use Rattle.at_geojson.specs.Gathering.{firsts}
use Rattle.at_geojson.specs.Atoms.{twin_of}
use Rattle.at_geojson.proofs.objects.twins.first_twin.Given as goal

abbrev pub invariant-loop-atom : goal.invariant-loop-atom
invariant-loop-atom l = l.first ≡ firsts twin_of (take l.atom-index l.atoms)
