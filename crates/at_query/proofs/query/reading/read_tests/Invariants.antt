use Rattle.std.proofs.Common.{◌-◌, length}
use Rattle.at_query.proofs.TestLists.{SoFar}
use Rattle.at_query.proofs.query.reading.read_tests.Given as goal

abbrev pub invariant-loop-from : goal.invariant-loop-from
invariant-loop-from l = SoFar l.rules.digits l.rules.how l.text l.at l.from l.items.items l.fault

abbrev pub decreases-loop-from : goal.decreases-loop-from
decreases-loop-from l = length l.text - l.from
