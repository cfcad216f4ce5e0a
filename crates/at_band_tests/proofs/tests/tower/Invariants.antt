use Rattle.std.specs.Prelude.{All}
use Rattle.at_geom.specs.Segments.{IsInRange}
use Rattle.at_band_tests.proofs.tests.tower.Given as goal

abbrev pub invariant-loop-floor : goal.invariant-loop-floor
invariant-loop-floor l = All IsInRange l.items.items
