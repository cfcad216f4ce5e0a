use Rattle.std.proofs.Common.{take}
use Rattle.at_wkt.specs.Readers.{KindsTried}
use Rattle.at_wkt.proofs.line.kinds.read_kind.Given as goal

abbrev pub invariant-loop-kind : goal.invariant-loop-kind
invariant-loop-kind l = KindsTried l.text l.at l.longest (take l.kind-index l.kind-items)
