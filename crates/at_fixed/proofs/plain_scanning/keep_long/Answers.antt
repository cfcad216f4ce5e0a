use Rattle.std.proofs.Common.{◌+◌, ◌-◌, ◌≡◌, subst, arith}
use Rattle.at_fixed.specs.NumberSoFar.{KeepsDigits}
use Rattle.at_fixed.proofs.DigitParts.{keeps_both, kept_small, room_more}
use Rattle.at_fixed.proofs.PlainRuns.{long_parts}
use Rattle.at_fixed.proofs.plain_scanning.keep_long.Goals as goal

pub keep_counted-first-requires-clause-digits : goal.keep_counted-first-requires-clause-digits
keep_counted-first-requires-clause-digits c = (long_parts _ _ _ c.requires.many (omega (arith, c.requires.few, c.requires.inside)) c.requires.digits).0

pub keep_counted-first-requires-clause-room : goal.keep_counted-first-requires-clause-room
keep_counted-first-requires-clause-room c = room_more c.args.before (19 - (c.args.to - c.args.from)) (19 - 8) c.requires.room (omega (arith, c.requires.many))

pub keep_counted-requires-clause-digits : goal.keep_counted-requires-clause-digits
keep_counted-requires-clause-digits c = (long_parts _ _ _ c.requires.many (omega (arith, c.requires.few, c.requires.inside)) c.requires.digits).1

pub keep_counted-requires-clause-room : goal.keep_counted-requires-clause-room
keep_counted-requires-clause-room c =
    let first = c.keep_counted-first.ensures in
    room_more c.keep_counted-first.result (19 - (c.args.to - c.args.from) + (c.args.from + 8 - c.args.from)) (19 - (c.args.to - c.args.from - 8))
    (kept_small _ _ _ _ _ _ first.order first.within first.digits first.value c.requires.room) (omega (arith, c.requires.many, c.requires.few))

pub returns : goal.returns
returns c =
    let place : c.args.from + 8 + (c.args.to - c.args.from - 8) ≡ c.args.to = omega (arith, c.requires.many) in
    keeps_both _ _ _ _ _ _ _ c.keep_counted-first.ensures
    (subst (λ z. KeepsDigits c.args.text.now (c.args.from + 8) z c.keep_counted-first.result c.keep_counted.result) place c.keep_counted.ensures)
