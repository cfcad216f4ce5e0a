-- A position of two numbers, and further ones.
use Rattle.std.proofs.Common.{rules, w64}
use Rattle.std.specs.Prelude.{FitsSigned}
use Rattle.std.proofs.lemmas.Int.{to_z-of_z}
use Rattle.at_geojson.proofs.ValueParts.{pair_read}
use Rattle.at_geojson.proofs.coordinates.pairs.opened_pair.Goals as goal

pub returns : goal.returns
returns c =
    let x = c.in_ok-x.x in let y = c.in_ok-y.y in
    let fx : FitsSigned w64 c.in_ok-x.x.number.value = search rules in
    let fy : FitsSigned w64 c.in_ok-y.y.number.value = search rules in
    pair_read c.args.text.now.algebra.now c.args.text.now.base c.args.text.now.bytes.now c.args.at x y _ _ (to_z-of_z w64 x.number.value fx) (to_z-of_z w64 y.number.value fy)
    c.requires.inside c.requires.opens c.in_ok-x.ensures c.in_ok-comma.comma c.in_ok-comma.ensures.order c.in_ok-comma.ensures.spaces c.in_ok-comma.ensures.byte c.in_ok-y.ensures
    c.in_ok-end.end c.in_ok-end.ensures
