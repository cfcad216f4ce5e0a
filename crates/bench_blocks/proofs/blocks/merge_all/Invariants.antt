use Rattle.std.proofs.Common.{length}
use Rattle.std.specs.Prelude.{slice_index}
use Rattle.at_text.specs.Spans.{StandsAt}
use Rattle.at_blocks.specs.Places.{first_place}
use Rattle.bench_blocks.proofs.blocks.merge_all.Given as goal

abbrev pub invariant-loop-fragment : goal.invariant-loop-fragment
invariant-loop-fragment g l = StandsAt (g.P.Pieces.stands l.reader) l.bytes (first_place l.places) (slice_index l.places (length l.yielded)) l.whole
