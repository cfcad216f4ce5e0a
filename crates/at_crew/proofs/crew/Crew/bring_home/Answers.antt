use Rattle.std.proofs.Common.{arith}
use Rattle.at_crew.proofs.Deposits.{root_homes}
use Rattle.at_crew.proofs.crew.Crew.bring_home.Goals as goal

pub fetch_or-requires : goal.fetch_or-requires
fetch_or-requires g c = let t = c.args.self.now.table.shared in let z = c.args.self.now.sized in let b = c.requires.bears in (
  c.requires.of,
  omega (arith, z),
  root_homes g.J.Job.stands g.J.Job.count (g.J.Job.facts t.key) t.table_id.slots c.args.self.now.blocks c.args.seat.now.id c.args.seat.now.me.0 c.args.seat.now.me.1 c.args.height b.2.0 z.0 b.1 b.2.1 b.2.2,
)
