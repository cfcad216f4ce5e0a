use Rattle.std.proofs.Common.{◌≡◌, ◌≤◌, ◌-◌, length, take}
use Rattle.at_lex.specs.Spans.{StaysInText, end_of}
use Rattle.at_lex.proofs.strings.text_end.Given as goal

abbrev pub invariant-loop-len : goal.invariant-loop-len
invariant-loop-len l = record { fits : l.len ≤ length l.text; stays : StaysInText l.fn.start (take l.len l.text); state : l.state ≡ end_of l.fn.start (take l.len l.text) }

abbrev pub decreases-loop-len : goal.decreases-loop-len
decreases-loop-len l = length l.text - l.len
