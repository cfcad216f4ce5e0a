use Rattle.std.proofs.Common.{◌≡◌, ◌++◌, take}
use Rattle.at_geom.specs.Shapes.{joined}
use Rattle.at_query.proofs.answer.shape_hulls.push_paths.Given as goal

abbrev pub invariant-loop-path : goal.invariant-loop-path
invariant-loop-path l = l.items.items ≡ l.initial.items.items ++ joined (take l.path-index l.paths)
