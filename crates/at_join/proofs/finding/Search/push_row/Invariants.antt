use Rattle.std.proofs.Common.{◌+◌, ◌≤◌, ◌∷◌, [], take}
use Rattle.std.specs.Prelude.{count_by}
use Rattle.at_query.specs.Results.{pairs_of}
use Rattle.at_join.specs.Meetings.{Finds}
use Rattle.at_join.specs.Sides.{CellHit, at_outlines, is_row_here}
use Rattle.at_join.proofs.finding.Search.push_row.Given as goal

-- the outlines so far are those of which the pairs were found and the steps taken
abbrev pub invariant-loop-other : goal.invariant-loop-other
invariant-loop-other g l = record {
  pairs : Finds (CellHit l.self.rect l.self.first.now l.self.second.now) at_outlines (pairs_of (l.outline ∷ []) (take l.other-index l.near)) l.fn.pairs.items l.pairs.items;
  steps : l.steps ≤ l.fn.steps + count_by (is_row_here l.self.rect l.outline) (take l.other-index l.near);
}
