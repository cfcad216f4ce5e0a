use Rattle.std.proofs.Common.{◌+◌, sym, ap₂, arith, lit<}
use Rattle.at_wkt.proofs.Names.{first_fault, next}
use Rattle.at_wkt.proofs.ByteSteps.{test_eq, byte_inside}
use Rattle.at_wkt.proofs.PositionAnswers.{position_stands}
use Rattle.at_wkt.proofs.PlainAnswers.{one_skipped, space_skipped}
use Rattle.at_wkt.proofs.line.positions.plain_position.Goals as goal

pub returns-in-Ok-clause-stands : goal.returns-in-Ok-clause-stands
returns-in-Ok-clause-stands g c =
    let w = c.args.source.now.text.now in
    let (none, (n, stands, is)) = c.in_ok-x.ensures in
    let (none2, (m, stands2, is2)) = c.in_ok-y.ensures in
    let x = c.in_ok-x.x in let y = c.in_ok-y.y in
    let byte = test_eq (next w x.end) 0x20 c.stands.result c.stands.ensures c.if-not-stands.false in
    position_stands c.args.source.now.rules w c.args.from.at c.skip_space-start.result x.end (x.end + 1) y.end c.args.from.dimension n m x y c.in-Ok.numbers
    c.pos_at.result _ (space_skipped w c.args.from.at c.skip_space-start.result x.end n c.skip_space-start.ensures stands) stands
    (one_skipped w x.end y.end m (byte_inside w x.end 0x20 (lit< tt) byte) byte stands2) (omega arith) stands2 is is2
    (c.in-Ok.ensures c.args.source.now.rules.base) c.pos_at.ensures (sym (ap₂ first_fault none none2))
