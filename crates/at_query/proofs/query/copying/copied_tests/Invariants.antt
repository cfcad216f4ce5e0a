use Rattle.std.proofs.Common.{◌≡◌, take}
use Rattle.at_query.proofs.query.copying.copied_tests.Given as goal

abbrev pub invariant-loop-test : goal.invariant-loop-test
invariant-loop-test l = l.items.items ≡ take l.test-index l.tests
