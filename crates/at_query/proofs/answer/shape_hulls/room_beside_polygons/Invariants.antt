use Rattle.std.proofs.Common.{◌≡◌, ◌+◌, length, take}
use Rattle.at_geom.specs.Shapes.{positions_of_polygons}
use Rattle.at_query.proofs.answer.shape_hulls.room_beside_polygons.Given as goal

abbrev pub invariant-loop-polygon : goal.invariant-loop-polygon
invariant-loop-polygon l = l.left + length (positions_of_polygons (take l.polygon-index l.polygons)) ≡ l.room
