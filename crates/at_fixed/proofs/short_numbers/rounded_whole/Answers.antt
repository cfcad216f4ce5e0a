use Rattle.std.proofs.Common.{◌≡◌, ◌==◌, true, ◌-◌, ◌+◌, ◌/◌, ◌^◌, ◌<◌, slice_index, arith}
use Rattle.at_fixed.proofs.DigitParts.{room_more}
use Rattle.at_fixed.proofs.PlainRuns.{first_digits}
use Rattle.at_fixed.proofs.Reaches.{pointed_rounded}
use Rattle.at_fixed.proofs.short_numbers.rounded_whole.Goals as goal

pub returns-clause-whole : goal.returns-clause-whole
returns-clause-whole c =
    let ends = c.requires.ends in
    let (some, lead) = c.requires.lead in
    let (more, few) = c.requires.more in
    let first = c.args.ends.first in
    let number = c.first_spelled-first.result in
    let fraction = c.args.ends.second - (first + 1) in
    let order = ends.behind.order in
    let stands : (slice_index c.args.text.now first == 0x2E) ≡ true = grind (arith, c.requires.point) in
    let small : number < 10 ^ 14 = room_more number (c.args.digits + 1) 14 c.first_spelled-first.ensures.bound (omega (arith, few)) in
    let most : c.in_ok-tenth.tenth ≡ (number + 5) / 10 = c.in_ok-tenth.ensures.0 in
    pointed_rounded c.args.notation c.args.text.now c.args.ends.sign first ends.sign ends.lead some lead (record { end = c.args.ends.second; fraction = fraction })
    ends.behind (omega (arith, order)) (omega (arith, more)) (omega (arith, c.requires.near)) c.args.digits c.size_with_zeros-lead.result number c.in_ok-tenth.tenth
    c.size_with_zeros-lead.ensures.value c.first_spelled-first.ensures.value (omega (arith, more)) c.in_ok-tenth.ensures
    (omega (arith, c.size_with_zeros-lead.ensures.bound, small, most)) stands

pub nearest_tenth-requires-clause-digits : goal.nearest_tenth-requires-clause-digits
nearest_tenth-requires-clause-digits c =
    let run = c.requires.ends.behind in
    let (more, few) = c.requires.more in
    (first_digits c.args.text.now (c.args.ends.first + 1) (c.args.ends.first + 1 + (c.args.digits + 1)) c.args.ends.second (omega arith) (omega (arith, more)) (omega (arith, run.within)) run.digits).1
