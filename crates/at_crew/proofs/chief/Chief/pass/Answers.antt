use Rattle.std.proofs.Common.{arith}
use Rattle.at_crew.proofs.Hires.{hires_kept}
use Rattle.at_crew.proofs.chief.Chief.pass.Goals as goal

pub split_seat-seat-requires : goal.split_seat-seat-requires
split_seat-seat-requires g c = let t = c.args.crew.now.table.shared in let me = c.args.self.now in let z = c.args.crew.now.sized in let i = me.sits in let l = c.requires.left in (
  c.requires.one_crew.0,
  omega (arith, z),
  hires_kept g.J.Job.stands (g.J.Job.facts t.key) (g.J.Job.count (g.J.Job.facts t.key)) me.seat.id me.seat.me.0 i.0.0 (omega (arith, i, l)),
)
