use Rattle.std.proofs.Common.{◌≡◌, All, reverse}
use Rattle.at_geom.specs.Segments.{IsInRange}
use Rattle.at_hull.specs.Walks.{popped}
use Rattle.at_hull.proofs.chains.drop_turns.Given as goal

-- what is still to be dropped
abbrev pub invariant-loop-next : goal.invariant-loop-next
invariant-loop-next l = record {
  same : popped l.next (reverse l.way.items) ≡ popped l.next (reverse l.initial.way.items);
  in_range : All IsInRange l.way.items;
}

abbrev pub decreases-loop-next : goal.decreases-loop-next
decreases-loop-next l = goal.left-loop-next l
