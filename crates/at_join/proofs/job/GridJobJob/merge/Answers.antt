use Rattle.std.proofs.Common.{subst}
use Rattle.at_join.specs.declared.job.Joining.{Joining}
use Rattle.at_join.specs.Parts.{StandsFor}
use Rattle.at_join.proofs.PartLists.{merged}
use Rattle.at_join.proofs.job.GridJobJob.merge.Goals as goal

pub returns-in-Pairs-Pairs : goal.returns-in-Pairs-Pairs
returns-in-Pairs-Pairs g c a b d left right most =
    let job = c.args.self.now in
    let f : Joining = record { first = job.grid.first; second = job.grid.second; given_up = g.G.Gate.given_up job.gate.now } in
    merged f c.in-Pairs-Pairs.a c.in-Pairs-Pairs.b c.both.result a b d c.both.ensures
    (subst (λ p. StandsFor f p a b) c.in-Pairs-Pairs.is-0 left) (subst (λ p. StandsFor f p b d) c.in-Pairs-Pairs.is-1 right)
