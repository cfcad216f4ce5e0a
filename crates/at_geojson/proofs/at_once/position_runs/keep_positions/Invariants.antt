-- The positions so far, and their values.
use Rattle.std.proofs.Common.{◌-◌, ◌≤◌, All, Some, length}
use Rattle.at_geom.specs.Segments.{IsInRange}
use Rattle.at_geojson.proofs.PositionReads.{ArePositionsSoFar}
use Rattle.at_geojson.proofs.at_once.position_runs.keep_positions.Given as goal

abbrev pub invariant-positions : goal.invariant-positions
invariant-positions l = record {
  within : l.last.end ≤ length l.text.bytes.now;
  range : All IsInRange l.path.items;
  read : ArePositionsSoFar l.text.algebra.now l.text.base l.text.bytes.now l.last.end l.first (Some l.last.pair.pos) l.count l.path.items;
}

abbrev pub decreases-positions : goal.decreases-positions
decreases-positions l = length l.text.bytes.now - l.last.end
