use Rattle.std.proofs.Common.{◌≡◌, ◌≤◌, ◌-◌, Some, length, take}
use Rattle.at_text.proofs.Machine.{run}
use Rattle.at_lex.specs.StringStates.{step, opening, inside}
use Rattle.at_lex.proofs.strings.scan_text.Given as goal

abbrev pub invariant-loop-len : goal.invariant-loop-len
invariant-loop-len l = record { fits : l.len ≤ length l.text; goes : run step opening (take l.len l.text) ≡ Some inside }

abbrev pub decreases-loop-len : goal.decreases-loop-len
decreases-loop-len l = length l.text - l.len
