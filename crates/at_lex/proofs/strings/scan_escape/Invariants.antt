use Rattle.std.proofs.Common.{◌≡◌, ◌≤◌, ◌-◌, Some, length, take}
use Rattle.at_text.proofs.Machine.{run}
use Rattle.at_lex.specs.StringStates.{step, opening, state_of}
use Rattle.at_lex.proofs.strings.scan_escape.Given as goal

abbrev pub invariant-loop-len : goal.invariant-loop-len
invariant-loop-len l = record { order : l.fn.from ≤ l.len; fits : l.len ≤ length l.text; goes : run step opening (take l.len l.text) ≡ Some (state_of l.state) }

abbrev pub decreases-loop-len : goal.decreases-loop-len
decreases-loop-len l = length l.text - l.len
