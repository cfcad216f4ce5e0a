use Rattle.std.proofs.Common.{◌-◌, ◌≤◌, length}
use Rattle.at_scan.proofs.places.brackets_ahead.Given as goal

abbrev pub invariant-brackets : goal.invariant-brackets
invariant-brackets l = l.place ≤ length l.text

abbrev pub decreases-brackets : goal.decreases-brackets
decreases-brackets l = length l.text - l.place
