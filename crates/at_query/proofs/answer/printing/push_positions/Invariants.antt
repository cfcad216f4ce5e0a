use Rattle.std.proofs.Common.{◌≡◌, ◌++◌, string_bytes, take}
use Rattle.at_query.specs.Printing.{positions_text}
use Rattle.at_query.proofs.answer.printing.push_positions.Given as goal

abbrev pub invariant-loop-position : goal.invariant-loop-position
invariant-loop-position l = string_bytes l.text ≡ string_bytes l.initial.text ++ positions_text l.digits (take l.position-index l.positions)
