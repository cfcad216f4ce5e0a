use Rattle.at_geojson.specs.Arrays.{JoinsItems}
use Rattle.at_geojson.specs.Atoms.{AreOwnItems}
use Rattle.at_geojson.proofs.atoms.lists.all_items.Given as goal

abbrev pub invariant-loop-atom : goal.invariant-loop-atom
invariant-loop-atom l = AreOwnItems l.algebra l.items × JoinsItems l.algebra l.yielded l.items
