use Rattle.std.proofs.Common.{arith}
use Rattle.at_band.proofs.CutHeights.{made_more}
use Rattle.at_band.proofs.zones.zones_at.Goals as goal

pub loop-heights-preserved : goal.loop-heights-preserved
loop-heights-preserved c = made_more _ c.loop-heights.invariant (omega arith) c.in_ok-push.ensures.items c.in_ok-zone_of.ensures.kept c.in_ok-zone_of.ensures.same
