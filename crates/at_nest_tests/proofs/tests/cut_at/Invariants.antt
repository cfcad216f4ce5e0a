-- What is read so far stands for its bytes.
use Rattle.std.proofs.Common.{◌≤◌}
use Rattle.at_text.specs.Spans.{span_of}
use Rattle.at_nest.specs.KeptItems.{OwnAtom}
use Rattle.at_nest.specs.FragmentMeanings.{StandsFor}
use Rattle.at_nest_tests.proofs.tests.cut_at.Given as goal

abbrev pub invariant-loop-place : goal.invariant-loop-place
invariant-loop-place g l = record {
  low : l.span.from ≤ l.at;
  high : l.at ≤ l.span.to;
  stands : StandsFor (OwnAtom (g.A.Algebra.is_own l.algebra) (g.A.Algebra.is_fold l.algebra) (g.A.Algebra.is_run l.algebra)) l.span.from (span_of l.bytes l.span.from l.at) l.whole;
}
