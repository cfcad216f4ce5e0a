use Rattle.at_band.specs.Banded.{IsBandOf, heights_of_band}
use Rattle.at_band.proofs.CutHeights.{AreMade}
use Rattle.at_band.proofs.zones.bands_at.Given as goal

abbrev pub invariant-loop-heights : goal.invariant-loop-heights
invariant-loop-heights l = AreMade (IsBandOf l.shape) heights_of_band l.cuts l.heights-index l.bands.items
