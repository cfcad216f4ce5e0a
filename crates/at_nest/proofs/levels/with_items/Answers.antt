-- One atom more stands behind the others.
use Rattle.at_nest.specs.KeptItems.{OwnAtom}
use Rattle.at_nest.proofs.Held.{gains}
use Rattle.at_nest.proofs.Rows.{gains_on}
use Rattle.at_nest.proofs.levels.with_items.Goals as goal

pub loop-atom-preserved : goal.loop-atom-preserved
loop-atom-preserved g c = let own = g.A.Algebra.is_own c.args.algebra.now in let fold = g.A.Algebra.is_fold c.args.algebra.now in let run = g.A.Algebra.is_run c.args.algebra.now in (
  tt,
  tt,
  c.in_ok-add.ensures.own,
  gains_on (OwnAtom own fold run) c.args.items.items c.loop-atom.yielded c.loop-atom.items.items c.add.new.items.items c.in-Some.atom c.loop-atom.invariant.3 (gains own fold run c.loop-atom.items.items c.in-Some.atom c.add.new.items.items c.in_ok-add.ensures.own c.in_ok-add.ensures.fold),
)
