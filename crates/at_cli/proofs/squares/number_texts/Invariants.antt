use Rattle.std.proofs.Common.{◌≡◌, map, decimal}
use Rattle.std.specs.List.{range_with_len}
use Rattle.at_cli.proofs.squares.number_texts.Given as goal

-- those so far
abbrev pub invariant-loop-number : goal.invariant-loop-number
invariant-loop-number l = l.numbers.items ≡ map decimal (range_with_len 0 l.number)
