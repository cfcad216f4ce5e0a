use Rattle.std.proofs.Common.{◌≡◌, take}
use Rattle.std.specs.List.{count_by}
use Rattle.at_query.specs.Keeping.{looks_at_texts}
use Rattle.at_query.proofs.query.looks.text_tests.Given as goal

abbrev pub invariant-loop-test : goal.invariant-loop-test
invariant-loop-test l = l.count ≡ count_by looks_at_texts (take l.test-index l.tests)
