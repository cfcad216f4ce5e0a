use Rattle.at_query.specs.Parts.{IsProper}
use Rattle.at_query_tests.proofs.tests.part_of_all.Given as goal

abbrev pub invariant-loop-index : goal.invariant-loop-index
invariant-loop-index l = IsProper l.all
