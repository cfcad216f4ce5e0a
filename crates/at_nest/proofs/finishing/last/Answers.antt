-- Each way to end goes its own.
use Rattle.std.proofs.Common.{sym, subst, Err, Result}
use Rattle.at_nest.specs.declared.finishing.NestEnd.{NestEnd}
use Rattle.at_nest.specs.Shown.{shown}
use Rattle.at_nest.specs.KeptItems.{OwnAtom}
use Rattle.at_nest.specs.LastBytes.{EndsSo}
use Rattle.at_nest.proofs.LastBytes.{ends_nothing, ends_stop, ends_open}
use Rattle.at_nest.proofs.finishing.last.Goals as goal

pub returns-in-Nothing : goal.returns-in-Nothing
returns-in-Nothing g c = let own = g.A.Algebra.is_own c.args.algebra.now in let fold = g.A.Algebra.is_fold c.args.algebra.now in let run = g.A.Algebra.is_run c.args.algebra.now in
    subst (λ (r : Result g.row.A-Atom.Denot NestEnd). EndsSo (OwnAtom own fold run) (shown c.args.body) c.args.from c.args.text.now r) (sym c.answer_of.ensures) (ends_nothing (OwnAtom own fold run) (shown c.args.body) c.args.from c.args.text.now c.in-Nothing.ensures)

pub returns-in-Stops : goal.returns-in-Stops
returns-in-Stops g c = let own = g.A.Algebra.is_own c.args.algebra.now in let fold = g.A.Algebra.is_fold c.args.algebra.now in let run = g.A.Algebra.is_run c.args.algebra.now in
    subst (λ (e : NestEnd). EndsSo (OwnAtom own fold run) (shown c.args.body) c.args.from c.args.text.now (Err e)) (sym c.stop_of.ensures) (ends_stop (OwnAtom own fold run) (shown c.args.body) c.args.from c.args.text.now c.in-Stops.halt c.in-Stops.ensures)

pub returns-in-Open : goal.returns-in-Open
returns-in-Open g c = let own = g.A.Algebra.is_own c.args.algebra.now in let fold = g.A.Algebra.is_fold c.args.algebra.now in let run = g.A.Algebra.is_run c.args.algebra.now in
    subst (λ (e : NestEnd). EndsSo (OwnAtom own fold run) (shown c.args.body) c.args.from c.args.text.now (Err e)) (sym c.open_of.ensures) (ends_open (OwnAtom own fold run) (shown c.args.body) c.args.from c.args.text.now c.in-Open.within c.in-Open.ensures)
