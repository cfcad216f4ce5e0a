use Rattle.std.proofs.Common.{◌∷◌, [], ◌++◌, All, vec_len}
use Rattle.at_geojson.specs.declared.atoms.atom.GeoAtom.TheVariants as atoms
use Rattle.at_geojson.specs.Atoms.{IsOwn, AreOwnItems}
use Rattle.at_geojson.specs.Arrays.{Settles}
use Rattle.at_geojson.proofs.joined.runs.settled_run.Given as goal

abbrev pub decreases-loop-settled : goal.decreases-loop-settled
decreases-loop-settled l = vec_len l.items

abbrev pub invariant-loop-settled : goal.invariant-loop-settled
invariant-loop-settled l = All (IsOwn l.algebra) l.items.items × AreOwnItems l.algebra l.settled.value
    × Settles l.algebra (l.initial.items.items ++ atoms.Run l.initial.settled ∷ []) (l.items.items ++ atoms.Run l.settled ∷ [])
