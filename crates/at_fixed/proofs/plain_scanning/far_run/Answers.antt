use Rattle.std.proofs.Common.{◌-◌, refl, arith}
use Rattle.at_fixed.proofs.DigitParts.{kept_small, room_more}
use Rattle.at_fixed.proofs.PlainRuns.{run_to}
use Rattle.at_fixed.proofs.plain_scanning.far_run.Goals as goal

pub keep_to-requires-clause-room : goal.keep_to-requires-clause-room
keep_to-requires-clause-room c = room_more c.args.before (19 - c.args.room) (19 - (c.args.to - c.args.from)) c.requires.room (omega (arith, c.requires.fits))

pub returns-clause-keeps : goal.returns-clause-keeps
returns-clause-keeps c =
    let (keeps, near) = c.in_ok-kept.ensures in
    record { keeps = run_to _ _ _ _ _ c.requires.run keeps; whole = refl; near = near; small = kept_small _ _ _ _ _ _ keeps.order keeps.within keeps.digits keeps.value c.requires.room }
