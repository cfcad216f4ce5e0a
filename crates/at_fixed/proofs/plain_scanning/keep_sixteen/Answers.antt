use Rattle.at_fixed.proofs.PlainRuns.{both_runs}
use Rattle.at_fixed.proofs.plain_scanning.keep_sixteen.Goals as goal

pub returns-then-second : goal.returns-then-second
returns-then-second c =
    (both_runs c.args.text.now c.args.from c.args.before c.in_ok-first.first c.in_ok-second.second c.in_ok-first.ensures c.if-first.false c.in_ok-second.ensures c.if-second.true, c.if-second.true)
