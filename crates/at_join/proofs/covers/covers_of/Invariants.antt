use Rattle.std.proofs.Common.{◌≡◌, ◌-◌, ◌*◌, ◌<◌, ◌≤◌, length}
use Rattle.at_join.proofs.Covering.{CoverTo}
use Rattle.at_join.proofs.covers.covers_of.Given as goal

-- each outline so far lies in its cover, and the next cover begins at a whole stretch
abbrev pub invariant-loop-from : goal.invariant-loop-from
invariant-loop-from l = record {
  within : l.from ≤ length l.outlines;
  at : l.from < length l.outlines → l.from ≡ length l.covers.items * l.size;
  covers : CoverTo l.size l.covers.items l.outlines l.from;
}

abbrev pub decreases-loop-from : goal.decreases-loop-from
decreases-loop-from l = length l.outlines - l.from
