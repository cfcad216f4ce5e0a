use Rattle.std.proofs.Common.{◌≡◌, ◌++◌, string_bytes, take}
use Rattle.at_query.specs.Printing.{offsets_text}
use Rattle.at_query.proofs.answer.printing.push_offsets.Given as goal

abbrev pub invariant-loop-at : goal.invariant-loop-at
invariant-loop-at l = string_bytes l.text ≡ string_bytes l.initial.text ++ offsets_text (take l.at-index l.offsets)
