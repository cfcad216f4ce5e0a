-- The brackets so far were all pushed.
use Rattle.at_nest.specs.Shown.{shown}
use Rattle.at_nest.specs.KeptItems.{OwnAtom}
use Rattle.at_nest.proofs.Closers.{Closed}
use Rattle.at_nest.proofs.bodies.close_all.Given as goal

abbrev pub invariant-loop-at : goal.invariant-loop-at
invariant-loop-at g l = Closed (OwnAtom (g.A.Algebra.is_own l.algebra) (g.A.Algebra.is_fold l.algebra) (g.A.Algebra.is_run l.algebra)) (shown l.fn.body) (shown l.body) l.closers l.at
