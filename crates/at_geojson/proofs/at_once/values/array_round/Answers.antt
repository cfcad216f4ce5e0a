-- The array of one item.
use Rattle.std.proofs.Common.{◌+◌, [], ◌∷◌, refl}
use Rattle.at_geojson.proofs.ArrayAnswers.{closes_each}
use Rattle.at_geojson.proofs.ValueParts.{nest_more}
use Rattle.at_geojson.proofs.at_once.values.array_round.Goals as goal

pub returns : goal.returns
returns c =
    let asked = c.args.text.now.algebra.now in
    let base = c.args.text.now.base in
    let close = c.skip_spaces-close in
    let made = c.in_ok-atom in
    nest_more asked base c.args.text.now.bytes.now c.args.at close.result c.args.item (record { end = close.result + 1; atom = made.atom }) c.requires.opens c.requires.item close.ensures.order close.ensures.spaces
    (c.stands.ensures.inside c.if-not-stands.false) (c.stands.ensures.byte c.if-not-stands.false)
    (record { behind = refl; own = made.ensures.own; fold = closes_each asked (base + c.args.at) (c.args.item.atom ∷ []) made.atom made.ensures.fold })
