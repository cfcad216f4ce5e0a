use Rattle.std.proofs.Common.{◌≤◌}
use Rattle.at_blocks.proofs.feature_cuts.before_spaces.Given as goal

abbrev pub invariant-spaces : goal.invariant-spaces
invariant-spaces l = l.place ≤ l.at

abbrev pub decreases-spaces : goal.decreases-spaces
decreases-spaces l = l.place
