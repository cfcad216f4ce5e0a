-- Something was made of the areas up to the place.
use Rattle.std.proofs.Common.{◌-◌, length}
use Rattle.at_geojson.proofs.MadeFolds.{AreAreasMade}
use Rattle.at_geojson.proofs.coordinates.makings.areas.Given as goal

abbrev pub invariant-areas : goal.invariant-areas
invariant-areas g l = AreAreasMade g.S.Maker.tells_areas l.fn.before l.text.algebra.now l.text.base l.text.bytes.now l.at l.least l.end l.fault l.made

abbrev pub decreases-areas : goal.decreases-areas
decreases-areas g l = length l.text.bytes.now - l.end
