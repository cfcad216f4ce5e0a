use Rattle.std.proofs.Common.{length, ◌-◌}
use Rattle.at_wkt.proofs.Names.{PositionRead}
use Rattle.at_wkt.proofs.CheckAnswers.{PassedSoFar}
use Rattle.at_wkt.proofs.line.checks.pass_row.Given as goal

abbrev pub invariant-positions : goal.invariant-positions
invariant-positions l = (first : PositionRead) × (last : PositionRead) × PassedSoFar l.source.rules l.source.text.now l.fn.from.at l.fn.from.dimension first last l.last.is_last l.last.behind l.count

abbrev pub decreases-positions : goal.decreases-positions
decreases-positions l = length l.source.text.now - l.last.behind.at
