use Rattle.std.specs.Prelude.{FitsSigned}
use Rattle.std.specs.Int.{w128, int_wrap, cast_signed}
use Rattle.std.proofs.Common.{◌-ℤ◌, ◌∙◌, ap, arith, rules}
use Rattle.std.proofs.lemmas.Int.{wrapping_sub_onto}
use Rattle.at_geom.specs.Regions.{wrapped_ring_size}
use Rattle.at_geom.proofs.Shoelace.{holes_step}
use Rattle.at_geom.proofs.areas.without_holes.Goals as goal

pub loop-hole-preserved : goal.loop-hole-preserved
loop-hole-preserved c =
    let f : FitsSigned w128 c.ring_size-left.result = search rules in
    let e = wrapping_sub_onto w128 c.loop-hole.left-bits c.ring_size-left.result (omega (arith, c.loop-hole.auto.left-fits)) f in
    holes_step _ _ c.args.holes.now c.loop-hole.hole-index c.hole-item.result (omega arith) (e ∙ ap (λ t. int_wrap w128 (cast_signed w128 c.loop-hole.left-bits -ℤ t)) (c.ring_size-left.ensures ∙ ap wrapped_ring_size (c.as_slice.ensures ∙ c.hole-item.is))) ∙ c.loop-hole.invariant
