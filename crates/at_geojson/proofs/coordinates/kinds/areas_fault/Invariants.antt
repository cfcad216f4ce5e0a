use Rattle.std.proofs.Common.{◌≡◌, take}
use Rattle.at_geojson.specs.Gathering.{firsts}
use Rattle.at_geojson.specs.Gathering.{area_fault}
use Rattle.at_geojson.proofs.coordinates.kinds.areas_fault.Given as goal

abbrev pub invariant-loop-atom : goal.invariant-loop-atom
invariant-loop-atom l = l.first ≡ firsts area_fault (take l.atom-index l.atoms)
