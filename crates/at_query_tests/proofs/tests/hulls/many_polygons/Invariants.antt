use Rattle.at_geom.specs.Shapes.{ArePolygonsInRange}
use Rattle.at_query_tests.proofs.tests.hulls.many_polygons.Given as goal

abbrev pub invariant-loop-shift : goal.invariant-loop-shift
invariant-loop-shift l = ArePolygonsInRange l.items.items
