-- The positions so far were passed over, and one more.
use Rattle.std.proofs.Common.{◌-◌, ◌≤◌, length}
use Rattle.at_geojson.specs.PositionRuns.{PassesNext}
use Rattle.at_geojson.proofs.PositionReads.{ArePassedSoFar}
use Rattle.at_geojson.proofs.at_once.position_runs.pass_positions.Given as goal

abbrev pub invariant-positions : goal.invariant-positions
invariant-positions l = record { within : l.ahead ≤ length l.text.bytes.now; passed : ArePassedSoFar l.text.algebra.now l.text.base l.text.bytes.now l.end l.first l.count; next : PassesNext l.text.algebra.now l.text.bytes.now l.end l.ahead }

abbrev pub decreases-positions : goal.decreases-positions
decreases-positions l = length l.text.bytes.now - l.ahead
