use Rattle.std.proofs.Common.{◌≡◌, ◌++◌, string_bytes, take}
use Rattle.at_query.specs.Printing.{pairs_text}
use Rattle.at_query.proofs.answer.printing.push_pairs.Given as goal

abbrev pub invariant-loop-pair : goal.invariant-loop-pair
invariant-loop-pair l = string_bytes l.text ≡ string_bytes l.initial.text ++ pairs_text (take l.pair-index l.pairs)
