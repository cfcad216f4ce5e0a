-- Something was made of the positions up to the place.
use Rattle.std.proofs.Common.{◌-◌, length}
use Rattle.at_geojson.proofs.MadeFolds.{AreMade}
use Rattle.at_geojson.proofs.coordinates.makings.positions.Given as goal

abbrev pub invariant-positions : goal.invariant-positions
invariant-positions g l = AreMade g.S.Reader.Reads.marks g.S.Reader.Reads.stands g.S.Maker.tells l.fn.before l.text.algebra.now l.text.base l.text.bytes.now l.at l.first l.last l.place l.count l.made

abbrev pub decreases-positions : goal.decreases-positions
decreases-positions g l = length l.text.bytes.now - l.last.end
