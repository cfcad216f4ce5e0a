use Rattle.std.proofs.Common.{◌-◌}
use Rattle.at_join.proofs.Squares.{AreSquares}
use Rattle.at_join_tests.proofs.tests.squares.Given as goal

-- the entries so far are proper, and their offsets rise up to the number
abbrev pub invariant-loop-number : goal.invariant-loop-number
invariant-loop-number l = AreSquares l.number l.entries.items

abbrev pub decreases-loop-number : goal.decreases-loop-number
decreases-loop-number l = l.count - l.number
