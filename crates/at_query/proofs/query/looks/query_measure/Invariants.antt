use Rattle.std.proofs.Common.{◌≡◌, drop}
use Rattle.std.specs.List.{list_any}
use Rattle.at_query.specs.Keeping.{looks_at_shapes}
use Rattle.at_query.proofs.query.looks.query_measure.Given as goal

abbrev pub invariant-loop-test : goal.invariant-loop-test
invariant-loop-test l = list_any looks_at_shapes (drop l.test-index l.query.tests) ≡ list_any looks_at_shapes l.query.tests
