-- What the algebra makes of a closed level stands for the level's tree.
use Rattle.std.proofs.Common.{sym, subst}
use Rattle.std.proofs.lemmas.Result.{IfOk-weaker}
use Rattle.at_nest.proofs.Held.{array_built, object_built}
use Rattle.at_nest.specs.Shown.{held_of, object_held}
use Rattle.at_nest.specs.KeptItems.{IsHeld, OwnAtom}
use Rattle.at_nest.proofs.levels.closed.Goals as goal

pub returns-in-Array-clause-fold : goal.returns-in-Array-clause-fold
returns-in-Array-clause-fold g c = let own = g.A.Algebra.is_own c.args.algebra.now in let fold = g.A.Algebra.is_fold c.args.algebra.now in let run = g.A.Algebra.is_run c.args.algebra.now in
    IfOk-weaker c.array.result _ _ (λ atom h l k. array_built own fold run c.in-Array.field-0.from c.in-Array.field-0.state c.in-Array.field-0.items.items atom l h (subst (λ z. IsHeld (OwnAtom own fold run) (held_of z) l) c.in-Array.is k)) c.array.ensures.fold

pub returns-clause-fold : goal.returns-clause-fold
returns-clause-fold g c = let own = g.A.Algebra.is_own c.args.algebra.now in let fold = g.A.Algebra.is_fold c.args.algebra.now in let run = g.A.Algebra.is_run c.args.algebra.now in let o = c.into_inner-from.result in
    IfOk-weaker c.object-in-Object.result _ _ (λ atom h l k. object_built own fold run o.from o.state o.members.items atom l h (subst (λ z. IsHeld (OwnAtom own fold run) (object_held z) l) (sym c.into_inner-from.ensures) (subst (λ z. IsHeld (OwnAtom own fold run) (held_of z) l) c.in-Object.is k))) c.object-in-Object.ensures.fold
