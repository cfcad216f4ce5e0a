use Rattle.std.proofs.Common.{◌≡◌, [], take}
use Rattle.at_query.specs.Results.{pairs_of}
use Rattle.at_join.specs.Meetings.{Finds, Meeting, at_entries}
use Rattle.at_join.proofs.plain.pairs_plain.Given as goal

abbrev pub invariant-loop-entry : goal.invariant-loop-entry
invariant-loop-entry l = record {
  same : l.entry-items ≡ l.a;
  pairs : Finds Meeting at_entries (pairs_of (take l.entry-index l.entry-items) l.b) [] l.pairs.items;
}
