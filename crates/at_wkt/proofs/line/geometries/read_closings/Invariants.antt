use Rattle.std.proofs.Common.{length, ◌≤◌}
use Rattle.at_wkt.proofs.ProgressAnswers.{ClosesTo}
use Rattle.at_wkt.proofs.line.geometries.read_closings.Given as goal

abbrev pub invariant-loop-depth : goal.invariant-loop-depth
invariant-loop-depth l = record {
  closes : ClosesTo l.text l.fn.from l.fn.opened l.at l.depth;
  low : l.fn.from ≤ l.at;
  inside : l.at ≤ length l.text;
  deep : l.depth ≤ l.at;
}

abbrev pub decreases-loop-depth : goal.decreases-loop-depth
decreases-loop-depth l = l.depth
