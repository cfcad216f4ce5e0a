use Rattle.std.specs.Prelude.{All}
use Rattle.at_geom.specs.Shapes.{IsShapeInRange}
use Rattle.bench_band.proofs.counts.lines.Given as goal

abbrev pub invariant-loop : goal.invariant-loop
invariant-loop l = All IsShapeInRange l.shapes.items
