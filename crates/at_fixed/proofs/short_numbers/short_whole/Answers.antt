use Rattle.std.proofs.Common.{refl, arith}
use Rattle.at_fixed.proofs.Reaches.{plain_whole}
use Rattle.at_fixed.proofs.short_numbers.short_whole.Goals as goal

pub returns-clause-whole : goal.returns-clause-whole
returns-clause-whole c =
    let ends = c.requires.ends in
    let (some, lead) = c.if-not-is_lead.ensures refl in
    plain_whole c.args.notation c.args.text.now c.args.ends.sign c.args.ends.first ends.sign ends.lead some lead c.args.digits c.args.how c.size_with_zeros.result c.size_with_zeros.ensures.value
    (omega (arith, c.size_with_zeros.ensures.bound)) (omega (arith, ends.behind.order, c.requires.near)) (grind (arith, c.if-text-ends-eq46.false))
