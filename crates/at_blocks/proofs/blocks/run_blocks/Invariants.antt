use Rattle.std.proofs.Common.{get_or}
use Rattle.at_text.specs.Spans.{StandsAt}
use Rattle.at_blocks.specs.Places.{first_place}
use Rattle.at_blocks.proofs.blocks.run_blocks.Given as goal

abbrev pub invariant-loop-index : goal.invariant-loop-index
invariant-loop-index g l = StandsAt (g.P.Pieces.stands l.reader) l.bytes (first_place l.places) (get_or l.places l.index 0) l.whole
