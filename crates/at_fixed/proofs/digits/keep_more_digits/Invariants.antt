use Rattle.std.proofs.Common.{length, ◌-◌}
use Rattle.at_fixed.specs.NumberSoFar.{KeepsDigits}
use Rattle.at_fixed.proofs.digits.keep_more_digits.Given as goal

abbrev pub invariant-loop-end : goal.invariant-loop-end
invariant-loop-end l = KeepsDigits l.text l.from l.end l.before l.kept

abbrev pub decreases-loop-end : goal.decreases-loop-end
decreases-loop-end l = length l.text - l.end
