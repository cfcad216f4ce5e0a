use Rattle.std.specs.Prelude.{◌≤◌}
use Rattle.at_query_tests.proofs.tests.hulls.hulls_told.Given as goal

abbrev pub invariant-loop-row : goal.invariant-loop-row
invariant-loop-row l = l.told ≤ l.row-index
