-- The items so far were all pushed.
use Rattle.at_nest.specs.Shown.{shown}
use Rattle.at_nest.specs.KeptItems.{OwnAtom}
use Rattle.at_nest.proofs.Joining.{SoFar}
use Rattle.at_nest.proofs.bodies.join.Given as goal

abbrev pub invariant-loop-piece : goal.invariant-loop-piece
invariant-loop-piece g l =
    (goal.iterator-loop-piece g).can_next l.piece-iterator ×
    (goal.iterator-loop-piece g).is_finite l.piece-iterator ×
    SoFar (OwnAtom (g.A.Algebra.is_own l.source.algebra.now) (g.A.Algebra.is_fold l.source.algebra.now) (g.A.Algebra.is_run l.source.algebra.now)) l.source.bytes.now (shown l.fn.body) l.yielded (shown l.body)
