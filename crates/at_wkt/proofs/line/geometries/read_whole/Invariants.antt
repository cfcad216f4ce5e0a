use Rattle.std.proofs.Common.{length, ◌-◌}
use Rattle.at_wkt.proofs.ProgressAnswers.{StepsSoFar}
use Rattle.at_wkt.proofs.line.geometries.read_whole.Given as goal

abbrev pub invariant-geometries : goal.invariant-geometries
invariant-geometries l = StepsSoFar l.source.rules.digits l.source.rules.how l.source.rules.base l.source.text.now l.fn.at l.fn.gathered l.gathered l.progress

abbrev pub decreases-geometries : goal.decreases-geometries
decreases-geometries l = length l.source.text.now - l.progress.at
