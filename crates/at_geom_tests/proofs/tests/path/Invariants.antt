use Rattle.std.specs.Prelude.{All}
use Rattle.at_geom.specs.Segments.{IsInRange}
use Rattle.at_geom_tests.proofs.tests.path.Given as goal

abbrev pub invariant-loop-place : goal.invariant-loop-place
invariant-loop-place l = All IsInRange l.items.items
