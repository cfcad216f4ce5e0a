use Rattle.std.proofs.Common.{◌≡◌, map}
use Rattle.at_geojson.specs.Gathering.{polygon_in}
use Rattle.at_geojson.proofs.coordinates.kinds.into_polygons.Given as goal

abbrev pub invariant-loop-atom : goal.invariant-loop-atom
invariant-loop-atom l = l.polygons.items ≡ map polygon_in l.yielded
