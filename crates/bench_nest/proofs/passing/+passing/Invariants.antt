-- Between items: those before are counted. Brackets stand less deep in a part.
use Rattle.std.proofs.Common.{◌+◌, ◌*◌, ◌-◌, ◌<◌, ◌≤◌, length}
use Rattle.bench_nest.specs.Passed.{AreItemsCounted, AreMembersCounted}
use Rattle.bench_nest.proofs.passing.+passing.Given as goal

abbrev pub decreases-pass_value : goal.decreases-pass_value
decreases-pass_value l = 4 * l.depth + 1

abbrev pub decreases-pass_any : goal.decreases-pass_any
decreases-pass_any l = 4 * l.depth + 2

abbrev pub decreases-pass_item : goal.decreases-pass_item
decreases-pass_item l = 4 * l.depth + 3

abbrev pub decreases-pass_array : goal.decreases-pass_array
decreases-pass_array l = 4 * l.depth

abbrev pub decreases-pass_object : goal.decreases-pass_object
decreases-pass_object l = 4 * l.depth

abbrev pub invariant-pass_array-items : goal.invariant-pass_array-items
invariant-pass_array-items l = record { order : l.at < l.place; within : l.place ≤ length l.text; counted : AreItemsCounted l.text l.at l.place l.count }

abbrev pub decreases-pass_array-items : goal.decreases-pass_array-items
decreases-pass_array-items l = length l.text - l.place

abbrev pub invariant-pass_object-members : goal.invariant-pass_object-members
invariant-pass_object-members l = record { order : l.at < l.place; within : l.place ≤ length l.text; counted : AreMembersCounted l.text l.at l.place l.count }

abbrev pub decreases-pass_object-members : goal.decreases-pass_object-members
decreases-pass_object-members l = length l.text - l.place
