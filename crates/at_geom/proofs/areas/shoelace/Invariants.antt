use Rattle.std.proofs.Common.{◌≡◌, ◌+ℤ◌, ◌∷◌, drop}
use Rattle.std.specs.Int.{w128, int_wrap}
use Rattle.at_geom.specs.Segments.{IsInRange}
use Rattle.at_geom.specs.Regions.{shoelace}
use Rattle.at_geom.proofs.areas.shoelace.Given as goal

-- the sum so far, and that of what is left
abbrev pub invariant-loop-to : goal.invariant-loop-to
invariant-loop-to l = record {
  from_in_range : IsInRange l.from;
  same_sum : int_wrap w128 (l.sum +ℤ shoelace (l.from ∷ drop l.to-index l.rest)) ≡ int_wrap w128 (shoelace l.ring);
}
