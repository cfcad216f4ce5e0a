use Rattle.std.proofs.Common.{◌++◌}
use Rattle.at_geom.specs.Shapes.{positions_of_polygons}
use Rattle.at_hull.specs.Growth.{HaveOneHull, held}
use Rattle.at_query.proofs.answer.shape_hulls.take_polygons.Given as goal

abbrev pub invariant-loop-polygon : goal.invariant-loop-polygon
invariant-loop-polygon l = HaveOneHull (held l.initial.hull ++ positions_of_polygons l.yielded) (held l.hull)
