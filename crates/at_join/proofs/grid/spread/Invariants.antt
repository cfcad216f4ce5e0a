use Rattle.std.proofs.Common.{◌≡◌, ◌≤◌, length, drop}
use Rattle.at_join.specs.Sides.{spread_onto}
use Rattle.at_join.proofs.grid.spread.Given as goal

-- the extent round the entries that were looked at, the last ones
abbrev pub invariant-loop-left : goal.invariant-loop-left
invariant-loop-left l = record {
  within : l.left ≤ length l.entries;
  joint : l.joint ≡ spread_onto l.fn.start (drop l.left l.entries);
}

abbrev pub decreases-loop-left : goal.decreases-loop-left
decreases-loop-left l = l.left
