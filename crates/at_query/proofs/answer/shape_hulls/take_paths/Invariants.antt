use Rattle.std.proofs.Common.{◌++◌}
use Rattle.at_geom.specs.Shapes.{joined}
use Rattle.at_hull.specs.Growth.{HaveOneHull, held}
use Rattle.at_query.proofs.answer.shape_hulls.take_paths.Given as goal

abbrev pub invariant-loop-path : goal.invariant-loop-path
invariant-loop-path l = HaveOneHull (held l.initial.hull ++ joined l.yielded) (held l.hull)
