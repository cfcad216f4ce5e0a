use Rattle.std.proofs.Common.{◌-◌, length, take}
use Rattle.at_join.specs.Meetings.{Finds}
use Rattle.at_join.specs.Sides.{IsInWindow, itself}
use Rattle.at_join.proofs.near.push_near.Given as goal

-- of the outlines so far those near the window were found
abbrev pub invariant-loop-at : goal.invariant-loop-at
invariant-loop-at l = Finds (IsInWindow l.window) itself (take l.at l.side.outlines.items) l.fn.near.items l.near.items

abbrev pub decreases-loop-at : goal.decreases-loop-at
decreases-loop-at l = length l.side.outlines.items - l.at
