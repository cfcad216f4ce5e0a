use Rattle.std.proofs.Common.{drop}
use Rattle.at_geom.proofs.Elements.{SomeIsLeft}
use Rattle.at_band.specs.Banded.{IsMetIn}
use Rattle.at_band.proofs.bands.bands_are_met.Given as goal

abbrev pub invariant-loop-band : goal.invariant-loop-band
invariant-loop-band l = SomeIsLeft (IsMetIn l.a l.b l.shape) l.bands (drop l.band-index l.bands)
