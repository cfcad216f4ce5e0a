use Rattle.std.proofs.Common.{◌≡◌, ◌-ℤ◌, drop, map}
use Rattle.std.specs.Int.{w128, int_wrap}
use Rattle.at_geom.specs.Regions.{sum_of, wrapped_ring_size}
use Rattle.at_geom.proofs.areas.without_holes.Given as goal

-- what is left, less the holes that are left
abbrev pub invariant-loop-hole : goal.invariant-loop-hole
invariant-loop-hole l = int_wrap w128 (l.left -ℤ sum_of (map wrapped_ring_size (drop l.hole-index l.holes))) ≡ int_wrap w128 (l.fn.area -ℤ sum_of (map wrapped_ring_size l.holes))
