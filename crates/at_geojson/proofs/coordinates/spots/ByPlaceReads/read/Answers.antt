-- The position that stands there.
use Rattle.std.proofs.Common.{refl}
use Rattle.at_geojson.specs.Passing.{pair_of}
use Rattle.at_geojson.proofs.PassedPairs.{placed_pair}
use Rattle.at_geojson.proofs.coordinates.spots.ByPlaceReads.read.Goals as goal

pub returns : goal.returns
returns c =
    let (p, h) = c.in_ok-place.ensures in let place = c.in_ok-place.place in
    record {
      pair = pair_of c.args.text.now.base place p;
      at_is = refl;
      spaced = placed_pair c.args.text.now.algebra.now c.args.text.now.base c.args.text.now.bytes.now c.args.at place p h;
      marks = tt;
      stands = (place, refl, h);
    }
