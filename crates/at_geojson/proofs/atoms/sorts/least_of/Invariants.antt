use Rattle.std.proofs.Common.{◌≡◌, take, fold, min}
use Rattle.at_geojson.specs.Atoms.{at_of}
use Rattle.at_geojson.specs.Gathering.{first_at}
use Rattle.at_geojson.proofs.atoms.sorts.least_of.Given as goal

abbrev pub invariant-loop-atom : goal.invariant-loop-atom
invariant-loop-atom l = l.least ≡ fold (λ least a. min least (at_of a)) (first_at l.atoms) (take l.atom-index l.atoms)
