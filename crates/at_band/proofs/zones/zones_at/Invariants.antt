use Rattle.at_band.specs.Banded.{IsZoneOf, heights_of_zone}
use Rattle.at_band.proofs.CutHeights.{AreMade}
use Rattle.at_band.proofs.zones.zones_at.Given as goal

abbrev pub invariant-loop-heights : goal.invariant-loop-heights
invariant-loop-heights l = AreMade (IsZoneOf l.shape) heights_of_zone l.cuts l.heights-index l.zones.items
