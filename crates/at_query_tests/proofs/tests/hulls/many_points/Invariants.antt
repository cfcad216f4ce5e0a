use Rattle.std.specs.Prelude.{All}
use Rattle.at_geom.specs.Segments.{IsInRange}
use Rattle.at_query_tests.proofs.tests.hulls.many_points.Given as goal

abbrev pub invariant-loop-shift : goal.invariant-loop-shift
invariant-loop-shift l = All IsInRange l.items.items
