use Rattle.std.proofs.Common.{◌∙◌, ap, sym, refl, rules}
use Rattle.std.specs.Prelude.{FitsSigned}
use Rattle.std.specs.Int.{w128}
use Rattle.std.proofs.lemmas.Int.{wrapping_add_is}
use Rattle.std.proofs.lemmas.Result.{IfOk-weaker}
use Rattle.at_query.specs.declared.answer.parts.Part.TheVariants.{Area, Spread}
use Rattle.at_query.specs.Parts.{wrapped_sum}
use Rattle.at_query.specs.Accumulators.{added_by}
use Rattle.at_query.specs.Holding.{lent_feature}
use Rattle.at_query.proofs.Joining.{joins_offsets, joins_counts, joins_areas, joins_spreads}
use Rattle.at_query.proofs.answer.adding.add_lent_to_part.Goals as goal

pub returns-in-Offsets-clause-joined : goal.returns-in-Offsets-clause-joined
returns-in-Offsets-clause-joined c =
    IfOk-weaker c.push.result _ _ (λ u e. joins_offsets c.args.part.now _ _ _ _ c.in-Offsets.is (ap (added_by (lent_feature c.args.feature.now)) c.in-Offsets.is) e) c.push.ensures

pub returns-in-Count-clause-joined : goal.returns-in-Count-clause-joined
returns-in-Count-clause-joined c = joins_counts c.args.part.now _ c.in-Count.count 1 _ c.in-Count.is (ap (added_by (lent_feature c.args.feature.now)) c.in-Count.is) refl

pub returns-in-Area-clause-joined : goal.returns-in-Area-clause-joined
returns-in-Area-clause-joined c =
    let area_fits : FitsSigned w128 c.in-Area.area = search rules in
    let more_fits : FitsSigned w128 c.area_of.result = search rules in
    let one = ap (added_by (lent_feature c.args.feature.now)) c.in-Area.is ∙ ap Area (ap wrapped_sum (sym c.as_slice.ensures) ∙ sym c.area_of.ensures) in
    joins_areas c.args.part.now _ c.in-Area.area c.area_of.result _ c.in-Area.is one (wrapping_add_is w128 c.in-Area.area c.area_of.result area_fits more_fits)

pub returns-in-Spread-clause-joined : goal.returns-in-Spread-clause-joined
returns-in-Spread-clause-joined c =
    joins_spreads c.args.part.now _ c.in-Spread.spread c.extent.result _ c.in-Spread.is (ap (added_by (lent_feature c.args.feature.now)) c.in-Spread.is ∙ ap Spread (sym c.extent.ensures)) c.joined_spread.ensures
