-- The brackets lengthen those before them, or stand alone.
use Rattle.std.proofs.lemmas.Result.{IfOk-weaker}
use Rattle.at_nest.specs.Shown.{shown}
use Rattle.at_nest.specs.KeptItems.{OwnAtom}
use Rattle.at_nest.proofs.Closers.{kept_pushes, longer_pushes}
use Rattle.at_nest.proofs.bodies.keep_closers.Goals as goal

pub returns-in-Some : goal.returns-in-Some
returns-in-Some g c = let own = g.A.Algebra.is_own c.args.algebra.now in let fold = g.A.Algebra.is_fold c.args.algebra.now in let run = g.A.Algebra.is_run c.args.algebra.now in
    longer_pushes (OwnAtom own fold run) (shown c.args.body.now) (shown c.put_closers.new.self) c.in-Some.ensures.0 c.args.closers c.in-Some.all c.requires.outside c.in-Some.ensures.1 c.in-Some.ensures.2 c.put_closers.ensures

pub returns-in-None : goal.returns-in-None
returns-in-None g c = let own = g.A.Algebra.is_own c.args.algebra.now in let fold = g.A.Algebra.is_fold c.args.algebra.now in let run = g.A.Algebra.is_run c.args.algebra.now in
    IfOk-weaker c.keep.result _ _ (λ r d. kept_pushes (OwnAtom own fold run) (shown c.args.body.now) (shown c.keep.new.self) r c.args.closers c.requires.outside d) c.keep.ensures
