use Rattle.std.proofs.Common.{refl, arith}
use Rattle.at_fixed.proofs.Points.{kept_front}
use Rattle.at_fixed.proofs.plain_scanning.front_of.Goals as goal

pub returns-clause-reads : goal.returns-clause-reads
returns-clause-reads c =
    let run = c.requires.run in
    (kept_front c.args.notation c.args.text.now c.args.whole c.args.run.end c.args.run.kept c.requires.reads c.requires.point run.keeps (run.stops c.requires.all) (omega (arith, run.keeps.order, c.if-run-point.false)), refl)
