use Rattle.std.proofs.Common.{◌≡◌, drop}
use Rattle.at_geojson.specs.Gathering.{rank, are_all}
use Rattle.at_geojson.proofs.atoms.sorts.are_all.Given as goal

abbrev pub invariant-loop-atom : goal.invariant-loop-atom
invariant-loop-atom l = are_all (rank l.sort) (drop l.atom-index l.atoms) ≡ are_all (rank l.sort) l.atoms
