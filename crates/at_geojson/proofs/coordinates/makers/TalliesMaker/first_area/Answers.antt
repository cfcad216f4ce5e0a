use Rattle.at_query.proofs.TallyFolds.{area_told}
use Rattle.at_geojson.proofs.coordinates.makers.TalliesMaker.first_area.Goals as goal

pub returns : goal.returns
returns g c before rings h = area_told g.M.Asks.asked before rings c.args.area h
