-- The first list is an exterior.
use Rattle.at_query.proofs.TallyFolds.{list_told}
use Rattle.at_geojson.proofs.coordinates.makers.TalliesMaker.first_line.Goals as goal

pub returns : goal.returns
returns g c before path h = list_told g.M.Asks.asked before path c.of_ring.result (c.of_ring.ensures g.M.Asks.asked before path h)
