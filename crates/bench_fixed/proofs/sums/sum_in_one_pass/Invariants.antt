use Rattle.std.proofs.Common.{length, ◌-◌}
use Rattle.bench_fixed.proofs.sums.sum_in_one_pass.Given as goal

abbrev pub decreases-loop-at : goal.decreases-loop-at
decreases-loop-at l = length l.text - l.at
