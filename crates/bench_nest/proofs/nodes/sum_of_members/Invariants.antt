use Rattle.std.proofs.Common.{◌≡◌, ◌%◌, ◌^◌, take}
use Rattle.std.specs.List.{sum_by}
use Rattle.bench_nest.proofs.nodes.sum_of_members.Given as goal

abbrev pub invariant-loop-member : goal.invariant-loop-member
invariant-loop-member l = l.total ≡ sum_by (λ m. m.value) (take l.member-index l.members) % 2 ^ 64
