use Rattle.at_geom.specs.Segments.{IsInRange}
use Rattle.bench_band.proofs.Lists.{all_pushed}
use Rattle.bench_band.proofs.rings.ring.Goals as goal

pub loop-t-preserved : goal.loop-t-preserved
loop-t-preserved c = all_pushed IsInRange c.push-in-loop-t.new.self.items c.loop-t.items.items c.on_square.result c.in_ok-push-2.ensures.items c.loop-t.invariant c.on_square.ensures
