use Rattle.std.proofs.Common.{◌∙◌, ℕ, ◌+◌, ◌≤◌, All, Option, IsSomeAnd, sym, ap, subst}
use Rattle.at_crew.specs.Views.{HasFacts}
use Rattle.at_crew.proofs.Leaves.{leaf_bears}
use Rattle.at_crew.proofs.Rising.{settled_same}
use Rattle.at_crew.proofs.Powers.{power_of}
use Rattle.at_crew.proofs.crew.Crew.settle.Goals as goal

pub climb-merges-requires-clause-bears : goal.climb-merges-requires-clause-bears
climb-merges-requires-clause-bears g c = λ _ _. let p = c.args.pass.now in let f = g.J.Job.facts c.args.job.now in let k : ℕ = c.args.self.now.blocks in let z = c.args.self.now.sized in
    let power = power_of c.args.self.now.blocks c.args.self.now.power in let facts = subst (λ f. HasFacts f c.args.pass.now.seat.me.0) (sym c.requires.facts) c.requires.one_crew.1 in
    leaf_bears g.J.Job.stands (g.J.Job.facts c.args.job.now) c.args.self.now.blocks p.seat.table_id.slots c.in-Some.block p.holding p.seat.me c.exchange.new.seat.me c.args.part (power.0, power.1) (p.inside c.in-Some.block c.in-Some.is) facts p.sits.4 p.sits.5 c.in-Some.is
    (ap (λ t. t.slots) c.requires.one_crew.0 ∙ z.0) c.exchange.ensures.3 (subst (λ (o : Option ℕ). IsSomeAnd o (λ n. g.J.Job.stands (g.J.Job.facts c.args.job.now) c.args.part n (n + 1))) c.in-Some.is c.requires.stands)

pub invariant_of-pass-clause-rising : goal.invariant_of-pass-clause-rising
invariant_of-pass-clause-rising g c = let p = c.args.pass.now in let same = settled_same c.args.pass.now.seat.me c.exchange.new.seat.me c.climb-merges.new.seat.me _ c.exchange.ensures.3 c.climb-merges.ensures.merged in
    λ n e. subst (All (λ m. m ≤ n)) (sym same) (p.rising n e)

pub invariant_of-pass-clause-unclaimed : goal.invariant_of-pass-clause-unclaimed
invariant_of-pass-clause-unclaimed g c = let p = c.args.pass.now in let same = settled_same c.args.pass.now.seat.me c.exchange.new.seat.me c.climb-merges.new.seat.me _ c.exchange.ensures.3 c.climb-merges.ensures.merged in
    λ e. same ∙ p.unclaimed e
