use Rattle.std.proofs.Common.{rules, Bool, not, IsTrue, eq-eqb, subst, arith}
use Rattle.at_crew.proofs.Tree.{node_bound}
use Rattle.at_crew.proofs.Deposits.{deposits}
use Rattle.at_crew.proofs.Told.{second}
use Rattle.at_crew.proofs.crew.Crew.deposit.Goals as goal

pub fetch_or-found-requires : goal.fetch_or-found-requires
fetch_or-found-requires g c = let t = c.args.self.now.table.shared in let z = c.args.self.now.sized in let b = c.requires.bears in let n = node_bound c.args.self.now.blocks b.3.0 c.args.height c.args.node b.3.1 in (
  c.requires.of,
  omega (arith, z, n),
  deposits g.J.Job.stands g.J.Job.count (g.J.Job.facts t.key) t.table_id.slots c.args.self.now.blocks c.args.seat.now.id c.args.seat.now.me.0 c.args.seat.now.me.1 c.args.node c.args.height b.2.0 z.0 b.1 b.2.1 c.requires.below b.2.2,
)

pub returns-clause-second : goal.returns-clause-second
returns-clause-second g c = λ is. (let t = c.args.self.now.table.shared in let z = c.args.self.now.sized in let b = c.requires.bears in
    second g.J.Job.stands g.J.Job.count (g.J.Job.facts t.key) c.args.self.now.blocks c.args.height c.args.node c.fetch_or-found.result b.2.0 c.fetch_or-found.new.seat.me t.table_id.slots z.0 c.args.seat.now.me.0 c.args.seat.now.me.1 b.1 b.0 b.2.1 b.2.2 (λ e. (let q = subst (λ (q : Bool). IsTrue (not q)) (eq-eqb c.fetch_or-found.result 0 e) is in search rules)) c.fetch_or-found.ensures.2)
