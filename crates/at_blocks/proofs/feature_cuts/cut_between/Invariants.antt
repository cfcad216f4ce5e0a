use Rattle.std.proofs.Common.{◌≤◌, ◌-◌}
use Rattle.at_blocks.proofs.feature_cuts.cut_between.Given as goal

abbrev pub invariant-objects : goal.invariant-objects
invariant-objects l = (l.from ≤ l.place) × (l.place ≤ l.to)

abbrev pub decreases-objects : goal.decreases-objects
decreases-objects l = l.to - l.place
