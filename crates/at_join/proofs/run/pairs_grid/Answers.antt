use Rattle.std.proofs.Common.{arith, sym, subst, ◌∙◌}
use Rattle.std.specs.Prelude.{Contains}
use Rattle.at_join.specs.declared.job.Joining.{Joining}
use Rattle.at_join.specs.Cells.{Lists, InCells, ListsEach}
use Rattle.at_join.specs.Parts.{StandsFor}
use Rattle.at_join.proofs.AllPairs.{all_pairs}
use Rattle.at_join.proofs.run.pairs_grid.Goals as goal

pub returns-in-Pairs-clause-pairs : goal.returns-in-Pairs-clause-pairs
returns-in-Pairs-clause-pairs g c =
    let job = c.new-job.result in
    let f : Joining = record { first = job.grid.first; second = job.grid.second; given_up = g.G.Gate.given_up job.gate.now } in
    let whole = subst (λ x. StandsFor f x 0 64) c.in-Pairs.is c.in_ok-pairs.ensures in
    let grid = c.new-job.ensures.0 ∙ c.in_ok-new.ensures in
    let each = subst (λ (v : Lists). ListsEach (InCells v.first v.second 0 64) c.in-Pairs.pairs) grid whole.each in
    all_pairs c.args.a c.args.b c.in-Pairs.pairs c.in_order.result c.requires.first c.requires.second each c.in_order.ensures.same c.in_order.ensures.sorted c.in_order.ensures.fits

pub returns-in-Pairs-clause-gate : goal.returns-in-Pairs-clause-gate
returns-in-Pairs-clause-gate g c cell lt lost =
    let job = c.new-job.result in
    let f : Joining = record { first = job.grid.first; second = job.grid.second; given_up = g.G.Gate.given_up job.gate.now } in
    let whole = subst (λ x. StandsFor f x 0 64) c.in-Pairs.is c.in_ok-pairs.ensures in
    whole.none_lost cell (omega (arith)) lt (subst (λ v. Contains (g.G.Gate.given_up v) cell) (sym c.new-job.ensures.1) lost)
