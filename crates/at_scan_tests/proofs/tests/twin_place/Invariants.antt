use Rattle.at_scan.specs.Members.{ArePlainOthers}
use Rattle.at_scan_tests.proofs.tests.twin_place.Given as goal

abbrev pub invariant-loop-at : goal.invariant-loop-at
invariant-loop-at l = ArePlainOthers l.text l.names
