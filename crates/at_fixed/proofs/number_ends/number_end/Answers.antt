use Rattle.std.proofs.Common.{◌-◌, refl, arith}
use Rattle.at_fixed.proofs.Reaches.{plain_end, pointed_end}
use Rattle.at_fixed.proofs.number_ends.number_end.Goals as goal

pub returns-then-text-point-ne46-clause-reads : goal.returns-then-text-point-ne46-clause-reads
returns-then-text-point-ne46-clause-reads c =
    let ends = c.requires.ends in
    let (some, lead) = c.if-not-is_lead.ensures refl in
    plain_end c.args.notation c.args.text.now c.args.ends.sign c.args.ends.first ends.sign ends.lead some lead (omega (arith, ends.behind.order, c.requires.few)) (grind (arith, c.if-text-point-ne46.true))

pub returns-clause-reads : goal.returns-clause-reads
returns-clause-reads c =
    let ends = c.requires.ends in
    let (some, lead) = c.if-not-is_lead.ensures refl in
    let count = ends.behind.order in
    pointed_end c.args.notation c.args.text.now c.args.ends.sign c.args.ends.first ends.sign ends.lead some lead (record { end = c.args.ends.second; fraction = c.args.ends.second - c.args.ends.first - 1 })
    ends.behind (omega (arith, count)) (omega (arith, count, c.if-fraction-eq0.false)) c.requires.few (grind (arith, c.if-text-point-ne46.false))
