use Rattle.std.proofs.Common.{◌+◌, None, refl, sym, ap₂, arith, lit<}
use Rattle.at_wkt.proofs.Names.{first_fault, next}
use Rattle.at_wkt.proofs.ByteSteps.{test_eq, byte_inside}
use Rattle.at_wkt.proofs.PositionAnswers.{position_stands}
use Rattle.at_wkt.proofs.PlainAnswers.{one_skipped, space_skipped}
use Rattle.at_wkt.proofs.line.positions.pass_position.Goals as goal

pub returns-in-Ok : goal.returns-in-Ok
returns-in-Ok g c =
    let w = c.args.source.now.text.now in
    let (rx, none, (n, stands, is)) = c.in_ok-x.ensures in
    let (ry, none2, (m, stands2, is2)) = c.in_ok-y.ensures in
    let x = c.in_ok-x.x in let y = c.in_ok-y.y in let behind = c.in-Ok.numbers in
    let byte = test_eq (next w x) 0x20 c.stands.result c.stands.ensures c.if-not-stands.false in (
      record { pos = record { x = rx.value; y = ry.value }; fault = None; is_last = behind.is_last; behind = behind.behind },
      position_stands c.args.source.now.rules w c.args.from.at c.skip_space-start.result x (x + 1) y c.args.from.dimension n m rx ry behind
          (record { x = rx.value; y = ry.value }) None (space_skipped w c.args.from.at c.skip_space-start.result x n c.skip_space-start.ensures stands) stands
          (one_skipped w x y m (byte_inside w x 0x20 (lit< tt) byte) byte stands2) (omega arith) stands2 is is2
          (c.in-Ok.ensures c.args.source.now.rules.base) refl (sym (ap₂ first_fault none none2)),
      refl,
      refl,
    )
