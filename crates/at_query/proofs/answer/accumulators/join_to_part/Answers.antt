use Rattle.std.proofs.Common.{subst, sym}
use Rattle.at_query.specs.declared.answer.parts.Part.{Part}
use Rattle.at_query.specs.declared.answer.accumulators.Accumulator.{Accumulator}
use Rattle.at_query.specs.declared.answer.accumulators.Accumulator.TheVariants.{Part as APart}
use Rattle.at_query.specs.Parts.{JoinsParts}
use Rattle.at_query.specs.Accumulators.{JoinsAccumulators}
use Rattle.at_query.proofs.Accumulating.{parts_joined}
use Rattle.at_query.proofs.answer.accumulators.join_to_part.Goals as goal

pub returns-clause-joined : goal.returns-clause-joined
returns-clause-joined c =
    let both = c.in_ok-part-in-Part.field-0 in
    let J : Part → Type 0 = λ z. JoinsParts z c.in-Part.more both in
    let P : Accumulator → Type 0 = λ z. JoinsAccumulators (APart c.args.part.now) z (APart both) in
    subst P (sym c.in-Part.is) (parts_joined c.args.part.now c.in-Part.more both (subst J c.replace-before.ensures.value c.in_ok-part-in-Part.ensures.joined))
