use Rattle.std.proofs.Common.{sym, subst, arith}
use Rattle.at_geom.specs.Shapes.{IsShapeInRange}
use Rattle.bench_band.proofs.counts.met.Goals as goal

pub meets-requires-clause-other_in_range : goal.meets-requires-clause-other_in_range
meets-requires-clause-other_in_range c = subst IsShapeInRange (sym c.shape-item.is) (c.requires.shapes_in_range c.loop-shape.shape-index c.shape-item.result (omega arith))
