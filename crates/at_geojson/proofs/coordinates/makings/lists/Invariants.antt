-- Something was made of the lists up to the place.
use Rattle.std.proofs.Common.{◌-◌, length}
use Rattle.at_geojson.proofs.MadeFolds.{AreLinesMade}
use Rattle.at_geojson.proofs.coordinates.makings.lists.Given as goal

abbrev pub invariant-lists : goal.invariant-lists
invariant-lists g l = AreLinesMade g.S.Maker.tells_lines l.fn.before l.text.algebra.now l.text.base l.text.bytes.now l.at l.least l.end l.as_lines l.as_rings l.made

abbrev pub decreases-lists : goal.decreases-lists
decreases-lists g l = length l.text.bytes.now - l.end
