use Rattle.std.proofs.Common.{◌≡◌, take}
use Rattle.at_band.specs.Thinned.{thinned_polygons}
use Rattle.at_band.proofs.thinning.polygons_within.Given as goal

abbrev pub invariant-loop-polygon : goal.invariant-loop-polygon
invariant-loop-polygon l = l.kept.items ≡ thinned_polygons l.heights.low l.heights.high (take l.polygon-index l.polygons)
