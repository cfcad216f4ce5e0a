use Rattle.std.proofs.Common.{◌≡◌, drop}
use Rattle.std.specs.List.{list_any}
use Rattle.at_geojson.specs.Gathering.{is_object}
use Rattle.at_geojson.proofs.atoms.lists.has_objects.Given as goal

abbrev pub invariant-loop-atom : goal.invariant-loop-atom
invariant-loop-atom l = list_any is_object (drop l.atom-index l.atoms) ≡ list_any is_object l.atoms
