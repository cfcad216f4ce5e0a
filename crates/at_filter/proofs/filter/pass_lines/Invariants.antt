use Rattle.std.proofs.Common.{◌≡◌, ◌++◌, take, drop, map}
use Rattle.at_filter.specs.Filters.{byte_of_lines}
use Rattle.at_filter.proofs.filter.pass_lines.Given as goal

abbrev pub invariant-loop-at : goal.invariant-loop-at
invariant-loop-at l = l.bytes ≡ map byte_of_lines (take l.at l.initial.bytes) ++ drop l.at l.initial.bytes
