use Rattle.std.proofs.Common.{◌++◌}
use Rattle.at_geom.specs.Shapes.{joined, positions, positions_of_polygons}
use Rattle.at_geom.proofs.ClosedRings.{in_some_closed}
use Rattle.at_geom.proofs.Found.{extent_covers, second_within}
use Rattle.at_geom.proofs.reaches.reach.Goals as goal

pub returns-then-are_closed : goal.returns-then-are_closed
returns-then-are_closed c = λ p h.
    let s = c.args.shape.now in
    let covered = second_within c.args.around (s.points ++ joined s.lines) (positions_of_polygons s.polygons) (extent_covers c.args.around (positions s) c.requires) in
    in_some_closed c.args.around p s.polygons covered (rw c.as_slice.ensures at (c.are_closed.ensures c.if-are_closed.true)) h
