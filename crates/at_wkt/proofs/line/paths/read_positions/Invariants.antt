use Rattle.std.proofs.Common.{length, ◌-◌}
use Rattle.at_wkt.specs.Readers.{PositionsSoFar}
use Rattle.at_wkt.proofs.line.paths.read_positions.Given as goal

abbrev pub invariant-positions : goal.invariant-positions
invariant-positions l = PositionsSoFar l.source.rules l.source.text.now l.fn.from.at l.fn.from.dimension l.first l.last l.path.items l.fault

abbrev pub decreases-positions : goal.decreases-positions
decreases-positions l = length l.source.text.now - l.last.behind.at
