-- Between the numbers of an array: those before are counted.
use Rattle.std.proofs.Common.{◌-◌, ◌<◌, ◌≤◌, length}
use Rattle.bench_nest.specs.Passed.{AreItemsCounted}
use Rattle.bench_nest.proofs.passing.pass_numbers.Given as goal

abbrev pub invariant-numbers : goal.invariant-numbers
invariant-numbers l = record { order : l.at < l.place; within : l.place ≤ length l.text; counted : AreItemsCounted l.text l.at l.place l.count }

abbrev pub decreases-numbers : goal.decreases-numbers
decreases-numbers l = length l.text - l.place
