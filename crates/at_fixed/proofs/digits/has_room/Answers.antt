use Rattle.std.proofs.Common.{◌-◌, arith}
use Rattle.at_fixed.proofs.DigitParts.{room_more}
use Rattle.at_fixed.proofs.digits.has_room.Goals as goal

pub returns-then-before-lt-SMALL : goal.returns-then-before-lt-SMALL
returns-then-before-lt-SMALL c = λ _. room_more c.args.before 10 (19 - c.args.count) c.if-before-lt-SMALL.true (omega (arith, c.requires))
