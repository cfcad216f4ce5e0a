use Rattle.std.proofs.Common.{◌≡◌, ◌==◌, true, ◌-◌, ◌+◌, slice_index, refl, arith}
use Rattle.at_fixed.proofs.Reaches.{pointed_whole}
use Rattle.at_fixed.proofs.short_numbers.pointed_whole.Goals as goal

pub returns-clause-whole : goal.returns-clause-whole
returns-clause-whole c =
    let ends = c.requires.ends in
    let (some, lead) = c.requires.lead in
    let (more, few, whole) = c.if-not-fraction_fits.ensures refl in
    let first = c.args.ends.first in
    let fraction = c.args.ends.second - (first + 1) in
    let order = ends.behind.order in
    let stands : (slice_index c.args.text.now first == 0x2E) ≡ true = grind (arith, c.requires.point) in
    pointed_whole c.args.notation c.args.text.now c.args.ends.sign first ends.sign ends.lead some lead (record { end = c.args.ends.second; fraction = fraction })
    ends.behind (omega (arith, order)) more (omega (arith, c.requires.near)) c.args.digits c.args.how c.size_with_zeros-lead.result c.size_with_zeros-rest.result
    c.size_with_zeros-lead.ensures.value c.size_with_zeros-rest.ensures.value whole
    (omega (arith, c.size_with_zeros-lead.ensures.bound, c.size_with_zeros-rest.ensures.bound)) stands
