-- The bytes so far are the byte.
use Rattle.std.proofs.Common.{◌≡◌, ◌≤◌, ◌-◌, length, take, replicate}
use Rattle.at_nest.proofs.brackets.leading.Given as goal

abbrev pub invariant-loop-count : goal.invariant-loop-count
invariant-loop-count l = (l.count ≤ length l.bytes) × (take l.count l.bytes ≡ replicate l.count l.byte)

abbrev pub decreases-loop-count : goal.decreases-loop-count
decreases-loop-count l = length l.bytes - l.count
