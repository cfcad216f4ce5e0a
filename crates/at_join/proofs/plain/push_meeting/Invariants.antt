use Rattle.std.proofs.Common.{◌∷◌, [], take}
use Rattle.at_query.specs.Results.{pairs_of}
use Rattle.at_join.specs.Meetings.{Finds, Meeting, at_entries}
use Rattle.at_join.proofs.plain.push_meeting.Given as goal

abbrev pub invariant-loop-other : goal.invariant-loop-other
invariant-loop-other l = Finds Meeting at_entries (pairs_of (l.entry ∷ []) (take l.other-index l.others)) l.fn.pairs.items l.pairs.items
