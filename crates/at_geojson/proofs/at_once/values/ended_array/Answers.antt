use Rattle.std.proofs.Common.{refl}
use Rattle.at_geojson.proofs.ArrayAnswers.{closes_each}
use Rattle.at_geojson.proofs.at_once.values.ended_array.Goals as goal

pub returns : goal.returns
returns c = record {
  behind = refl;
  own = c.in_ok-atom.ensures.own;
  fold = closes_each c.args.algebra.now c.args.at c.args.items.items c.in_ok-atom.atom c.in_ok-atom.ensures.fold;
}
