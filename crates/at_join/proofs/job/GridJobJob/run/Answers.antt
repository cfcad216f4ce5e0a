use Rattle.std.proofs.Common.{◌≡◌, arith, sym, subst, ◌∙◌}
use Rattle.std.specs.Prelude.{Contains}
use Rattle.std.proofs.lemmas.Bool.{false≢true}
use Rattle.at_join.proofs.job.GridJobJob.run.Goals as goal

pub returns-in-Ok : goal.returns-in-Ok
returns-in-Ok g c = record {
  first = c.are_proper.ensures.0;
  second = c.are_proper.ensures.1;
  order = omega (arith);
  none_lost = λ cell from to lost.
      let same : cell ≡ c.args.block = omega (arith, from, to) in
      false≢true (sym c.if-gives_up.false ∙ c.gives_up.ensures.1 (subst (Contains (g.G.Gate.given_up c.args.self.now.gate.now)) same lost));
  each = c.in-Ok.ensures;
}
