-- As a ring the list is a hole.
use Rattle.at_geojson.proofs.coordinates.makers.TalliesMaker.add_line.Goals as goal

pub returns : goal.returns
returns g c before paths path h k = c.with_hole.ensures g.M.Asks.asked before paths path h (c.of_ring.ensures g.M.Asks.asked c.args.lines.now.extent path k)
