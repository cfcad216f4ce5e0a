use Rattle.std.proofs.Common.{◌≡◌, ◌+ℤ◌, drop, map}
use Rattle.std.specs.Int.{w128, int_wrap}
use Rattle.at_geom.specs.Regions.{sum_of, wrapped_area}
use Rattle.at_query.specs.Parts.{wrapped_sum}
use Rattle.at_query.proofs.answer.results.area_of.Given as goal

-- what is summed up, and the areas that are left
abbrev pub invariant-loop-polygon : goal.invariant-loop-polygon
invariant-loop-polygon l = int_wrap w128 (l.sum +ℤ sum_of (map wrapped_area (drop l.polygon-index l.polygons))) ≡ wrapped_sum l.polygons
