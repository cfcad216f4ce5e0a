use Rattle.std.specs.Prelude.{All}
use Rattle.at_geom.specs.Segments.{IsInRange}
use Rattle.at_band_tests.proofs.tests.comb.Given as goal

abbrev pub invariant-loop-tooth : goal.invariant-loop-tooth
invariant-loop-tooth l = All IsInRange l.items.items
