use Rattle.at_geom.specs.Shapes.{ArePathsInRange}
use Rattle.at_query_tests.proofs.tests.hulls.many_lines.Given as goal

abbrev pub invariant-loop-shift : goal.invariant-loop-shift
invariant-loop-shift l = ArePathsInRange l.items.items
