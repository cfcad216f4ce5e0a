use Rattle.std.proofs.Common.{◌≡◌, drop}
use Rattle.at_io.specs.PutFails.{limit_at}
use Rattle.at_io.proofs.mem_sink.limit_of.Given as goal

-- what is left of the list says of the number what the whole list says
abbrev pub invariant-loop-fail : goal.invariant-loop-fail
invariant-loop-fail l = limit_at (drop l.fail-index l.fails) l.number ≡ limit_at l.fails l.number
