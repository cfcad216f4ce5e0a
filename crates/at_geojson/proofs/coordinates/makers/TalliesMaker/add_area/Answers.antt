use Rattle.at_geojson.specs.Makings.{polygon}
use Rattle.at_geojson.proofs.coordinates.makers.TalliesMaker.add_area.Goals as goal

pub returns : goal.returns
returns g c before polygons rings h k = c.with_polygon.ensures g.M.Asks.asked before polygons (polygon rings) h k
