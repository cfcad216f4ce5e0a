use Rattle.std.proofs.Common.{◌+◌, ◌-◌, ◌≤◌, length, take}
use Rattle.std.specs.Prelude.{count_by}
use Rattle.at_query.specs.Results.{pairs_of}
use Rattle.at_join.specs.Meetings.{Finds}
use Rattle.at_join.specs.Sides.{CellHit, at_outlines, is_cell_here}
use Rattle.at_join.proofs.finding.Search.push_cell.Given as goal

-- the outlines so far are those of which the pairs were found and the steps taken
abbrev pub invariant-loop-from : goal.invariant-loop-from
invariant-loop-from g l = record {
  pairs : Finds (CellHit l.self.rect l.self.first.now l.self.second.now) at_outlines (pairs_of (take l.from l.self.first.now.outlines.items) l.self.second.now.outlines.items) l.fn.pairs.items l.pairs.items;
  steps : l.steps ≤ l.fn.steps + count_by (is_cell_here l.self.rect) (pairs_of (take l.from l.self.first.now.outlines.items) l.self.second.now.outlines.items);
}

abbrev pub decreases-loop-from : goal.decreases-loop-from
decreases-loop-from g l = length l.self.first.now.outlines.items - l.from
