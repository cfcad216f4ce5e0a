use Rattle.std.proofs.Common.{length, ◌-◌, false}
use Rattle.at_wkt.proofs.Names.{PositionRead}
use Rattle.at_wkt.proofs.CheckAnswers.{PassedSoFar}
use Rattle.at_wkt.proofs.line.checks.pass_positions.Given as goal

abbrev pub invariant-positions : goal.invariant-positions
invariant-positions l = (last : PositionRead) × PassedSoFar l.source.rules l.source.text.now l.fn.from.at l.fn.from.dimension l.first last false l.next l.count

abbrev pub decreases-positions : goal.decreases-positions
decreases-positions l = length l.source.text.now - l.next.at
