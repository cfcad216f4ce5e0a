use Rattle.std.proofs.Common.{◌≤◌, reverse}
use Rattle.at_text.specs.Spans.{StandsAt}
use Rattle.at_text.specs.Texts.{base_of as text_begin}
use Rattle.at_task.specs.Ranking.{AreBeside}
use Rattle.at_task.proofs.ranks.settle.Given as goal

abbrev pub invariant-loop-last : goal.invariant-loop-last
invariant-loop-last g l = record {
  order : l.piece.from ≤ l.to;
  piece : StandsAt (g.P.Pieces.stands l.reader) l.bytes l.piece.from l.to l.piece.fragment;
  beside : AreBeside (g.P.Pieces.stands l.reader) l.bytes (text_begin l.bytes) l.piece.from (reverse l.ranks.items);
}

abbrev pub decreases-loop-last : goal.decreases-loop-last
decreases-loop-last g l = goal.left-loop-last g l
