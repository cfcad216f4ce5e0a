use Rattle.std.proofs.Common.{length, ◌-◌, ◌≤◌}
use Rattle.at_fixed.specs.NumberSoFar.{between}
use Rattle.at_wkt.proofs.Steps.{AreBlanks}
use Rattle.at_wkt.proofs.line.bytes.skip_blanks.Given as goal

abbrev pub invariant-loop-end : goal.invariant-loop-end
invariant-loop-end l = record { order : l.at ≤ l.end; within : l.end ≤ length l.text; blanks : AreBlanks (between l.text l.at l.end) }

abbrev pub decreases-loop-end : goal.decreases-loop-end
decreases-loop-end l = length l.text - l.end
