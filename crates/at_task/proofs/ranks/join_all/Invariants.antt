use Rattle.std.proofs.Common.{◌≤◌, length, reverse}
use Rattle.at_text.specs.Spans.{StandsAt}
use Rattle.at_text.specs.Texts.{base_of as text_begin}
use Rattle.at_task.specs.Ranking.{AreBeside}
use Rattle.at_task.proofs.ranks.join_all.Given as goal

abbrev pub invariant-loop-before : goal.invariant-loop-before
invariant-loop-before g l = record {
  order : l.whole.from ≤ length l.bytes;
  whole : StandsAt (g.P.Pieces.stands l.reader) l.bytes l.whole.from (length l.bytes) l.whole.fragment;
  beside : AreBeside (g.P.Pieces.stands l.reader) l.bytes (text_begin l.bytes) l.whole.from (reverse l.ranks.items);
}

abbrev pub decreases-loop-before : goal.decreases-loop-before
decreases-loop-before g l = goal.left-loop-before g l
