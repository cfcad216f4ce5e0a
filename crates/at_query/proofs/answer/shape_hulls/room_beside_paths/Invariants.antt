use Rattle.std.proofs.Common.{◌≡◌, ◌+◌, length, take}
use Rattle.at_geom.specs.Shapes.{joined}
use Rattle.at_query.proofs.answer.shape_hulls.room_beside_paths.Given as goal

abbrev pub invariant-loop-path : goal.invariant-loop-path
invariant-loop-path l = l.left + length (joined (take l.path-index l.paths)) ≡ l.room
