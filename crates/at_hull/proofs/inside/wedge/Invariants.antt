use Rattle.std.proofs.Common.{◌≤◌, ◌<◌, ◌-◌, length}
use Rattle.at_hull.proofs.inside.wedge.Given as goal

-- there are positions at both places, and the lower isn't the first
abbrev pub invariant-loop-low : goal.invariant-loop-low
invariant-loop-low l = record {
  first : 1 ≤ l.low;
  order : l.low < l.high;
  within : l.high < length l.hull;
}

abbrev pub decreases-loop-low : goal.decreases-loop-low
decreases-loop-low l = l.high - l.low
