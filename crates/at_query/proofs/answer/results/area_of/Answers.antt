use Rattle.std.specs.Prelude.{FitsSigned}
use Rattle.std.specs.Int.{w128, int_wrap, cast_signed}
use Rattle.std.proofs.Common.{◌+ℤ◌, ◌∙◌, ap, arith, rules}
use Rattle.std.proofs.lemmas.Int.{wrapping_add_onto}
use Rattle.at_geom.specs.Regions.{wrapped_area}
use Rattle.at_query.proofs.Areas.{area_step}
use Rattle.at_query.proofs.answer.results.area_of.Goals as goal

pub loop-polygon-preserved : goal.loop-polygon-preserved
loop-polygon-preserved c =
    let f : FitsSigned w128 c.doubled_area-sum.result = search rules in
    let e = wrapping_add_onto w128 c.loop-polygon.sum-bits c.doubled_area-sum.result (omega (arith, c.loop-polygon.auto.sum-fits)) f in
    area_step _ _ c.args.polygons.now c.loop-polygon.polygon-index c.polygon-item.result (omega arith)
    (e ∙ ap (λ t. int_wrap w128 (cast_signed w128 c.loop-polygon.sum-bits +ℤ t)) (c.doubled_area-sum.ensures.wrapped ∙ ap wrapped_area c.polygon-item.is))
    ∙ c.loop-polygon.invariant
