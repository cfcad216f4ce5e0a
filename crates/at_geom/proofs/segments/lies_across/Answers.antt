use Rattle.std.specs.Prelude.{FitsSigned}
use Rattle.std.specs.Int.{w128}
use Rattle.std.proofs.Common.{rules}
use Rattle.std.proofs.lemmas.Int.{to_z-of_z}
use Rattle.at_geom.proofs.segments.lies_across.Goals as goal

pub returns : goal.returns
returns c =
    let (f, g) : FitsSigned w128 c.turn.result × FitsSigned w128 c.turn-2.result = search rules in
    rw (← c.turn.ensures, ← c.turn-2.ensures) (simp to_z-of_z at c.are_apart.ensures)
