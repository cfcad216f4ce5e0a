use Rattle.std.proofs.Common.{◌∙◌, ap, arith}
use mathlib.Core.Option.{none}
use Rattle.atomic_table.specs.Table.{step}
use Rattle.at_crew.specs.Seats.{leaf_of}
use Rattle.at_crew.proofs.Claims.{claims}
use Rattle.at_crew.proofs.Rising.{claim_more, claim_rises}
use Rattle.at_crew.proofs.crew.Crew.claim.Goals as goal

pub fetch_add-found-requires : goal.fetch_add-found-requires
fetch_add-found-requires g c = let t = c.args.self.now.table.shared in let p = c.args.pass.now in let z = c.args.self.now.sized in (
  c.requires.one_crew.0,
  omega (arith, z),
  claims g.J.Job.stands g.J.Job.count (g.J.Job.facts t.key) t.table_id.slots p.seat.id p.seat.me.0 p.seat.me.1 p.sits.0 (p.sits.4 ∙ ap (leaf_of p.seat.table_id.slots) c.requires.free) (p.sits.3 ∙ c.requires.goes_on),
)

pub invariant_of-pass-clause-rising : goal.invariant_of-pass-clause-rising
invariant_of-pass-clause-rising g c = let p = c.args.pass.now in claim_rises g.J.Job.count (step c.args.self.now.table.shared.table_id.slots 0 1 0 none) p.seat.me.1 c.fetch_add-found.result c.fetch_add-found.new.seat.me p.seat.me.0 c.fetch_add-found.ensures.2 p.last p.sits.2 p.rising p.unclaimed

pub invariant_of-pass-else-found-self-clause-rising : goal.invariant_of-pass-else-found-self-clause-rising
invariant_of-pass-else-found-self-clause-rising g c = let p = c.args.pass.now in claim_rises g.J.Job.count (step c.args.self.now.table.shared.table_id.slots 0 1 0 none) p.seat.me.1 c.fetch_add-found.result c.fetch_add-found.new.seat.me p.seat.me.0 c.fetch_add-found.ensures.2 p.last p.sits.2 p.rising p.unclaimed

pub returns-then-found-self-clause-rises : goal.returns-then-found-self-clause-rises
returns-then-found-self-clause-rises g c = let p = c.args.pass.now in claim_more g.J.Job.count (step c.args.self.now.table.shared.table_id.slots 0 1 0 none) p.seat.me.1 c.fetch_add-found.result c.fetch_add-found.new.seat.me p.seat.me.0 c.fetch_add-found.ensures.2 p.last p.sits.2 p.rising p.unclaimed

pub returns-else-found-self-clause-rises : goal.returns-else-found-self-clause-rises
returns-else-found-self-clause-rises g c = let p = c.args.pass.now in claim_more g.J.Job.count (step c.args.self.now.table.shared.table_id.slots 0 1 0 none) p.seat.me.1 c.fetch_add-found.result c.fetch_add-found.new.seat.me p.seat.me.0 c.fetch_add-found.ensures.2 p.last p.sits.2 p.rising p.unclaimed
