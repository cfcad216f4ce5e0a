use Rattle.std.specs.Prelude.{All}
use Rattle.at_geom.specs.Segments.{IsInRange}
use Rattle.bench_geom.proofs.hulls.random_positions.Given as goal

abbrev pub invariant-loop : goal.invariant-loop
invariant-loop l = All IsInRange l.items.items
