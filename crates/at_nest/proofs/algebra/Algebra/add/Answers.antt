-- The atom stands behind the others.
use Rattle.std.proofs.Common.{◌++◌, List, sym, subst}
use Rattle.at_nest.specs.Folds.{AreItemFolds}
use Rattle.at_nest.proofs.Held.{folds_append}
use Rattle.at_nest.proofs.algebra.Algebra.add.Goals as goal

pub returns-clause-fold : goal.returns-clause-fold
returns-clause-fold g c ts us h k = subst (λ (z : List g.row.Self-Atom.Denot). AreItemFolds (g.Self.Algebra.is_fold c.args.self.now) (g.Self.Algebra.is_run c.args.self.now) z (ts ++ us)) (sym c.in_ok-push.ensures.items)
    (folds_append (g.Self.Algebra.is_fold c.args.self.now) (g.Self.Algebra.is_run c.args.self.now) c.args.items.now.items ts c.args.atom us h k)
