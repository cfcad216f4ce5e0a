use Rattle.at_geom.proofs.Crossings.{IsRingLeft}
use Rattle.at_geom.proofs.regions.place_in_ring.Given as goal

abbrev pub invariant-loop-to : goal.invariant-loop-to
invariant-loop-to l = IsRingLeft l.p l.ring l.from l.rest l.to-index l.is_odd
