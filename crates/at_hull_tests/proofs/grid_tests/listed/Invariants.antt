use Rattle.std.specs.Prelude.{All}
use Rattle.at_geom.specs.Segments.{IsInRange}
use Rattle.at_hull_tests.proofs.grid_tests.listed.Given as goal

abbrev pub invariant-loop : goal.invariant-loop
invariant-loop l = All IsInRange l.items.items
