use Rattle.std.specs.Prelude.{FitsSigned}
use Rattle.std.specs.Int.{w128, int_wrap, cast_signed}
use Rattle.std.proofs.Common.{◌+ℤ◌, pos, sym, ap, ◌∙◌, arith, rules}
use Rattle.std.proofs.lemmas.Int.{ints, wrapping_add_onto}
use Rattle.at_geom.specs.Segments.{IsInRange}
use Rattle.at_geom.specs.Regions.{shoelace}
use Rattle.at_geom.proofs.Crossings.{rest_in_range}
use Rattle.at_geom.proofs.Elements.{head_of_all}
use Rattle.at_geom.proofs.Shoelace.{shoelace_step}
use Rattle.at_geom.proofs.areas.shoelace.Goals as goal

pub loop-to-init : goal.loop-to-init
loop-to-init c = record {
  from_in_range = head_of_all IsInRange c.in-Some.ensures.cases.0 c.requires;
  same_sum = ap (int_wrap w128) (ap (λ z. pos 0 +ℤ z) (ap shoelace (sym c.in-Some.ensures.cases.0)) ∙ omega (arith, ints));
}

pub shoelace_term-sum-requires-clause-b_in_range : goal.shoelace_term-sum-requires-clause-b_in_range
shoelace_term-sum-requires-clause-b_in_range c = rest_in_range _ _ _ _ _ c.in-Some.ensures.cases.0 c.requires (omega arith)

pub loop-to-preserved : goal.loop-to-preserved
loop-to-preserved c =
    let f : FitsSigned w128 c.shoelace_term-sum.result = search rules in
    let e = wrapping_add_onto w128 c.loop-to.sum-bits c.shoelace_term-sum.result (omega (arith, c.loop-to.auto.sum-fits)) f in
    record {
      from_in_range = rest_in_range _ _ _ _ _ c.in-Some.ensures.cases.0 c.requires (omega arith);
      same_sum = shoelace_step _ _ c.loop-to.from c.in-Some.rest.now c.loop-to.to-index _ (omega arith) (e ∙ ap (λ t. int_wrap w128 (cast_signed w128 c.loop-to.sum-bits +ℤ t)) c.shoelace_term-sum.ensures) ∙ c.loop-to.invariant.same_sum;
    }
