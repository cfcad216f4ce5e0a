use Rattle.at_geom.specs.Shapes.{IsShapeInRange}
use Rattle.bench_band.proofs.Lists.{all_pushed}
use Rattle.bench_band.proofs.counts.points.Goals as goal

pub loop-preserved : goal.loop-preserved
loop-preserved c = all_pushed IsShapeInRange c.push.new.self.items c.loop.shapes.items c.in_ok-of_point.field-0 c.in_ok-push.ensures.items c.loop.invariant c.in_ok-of_point.ensures
