-- The atoms so far stand behind the others.
use Rattle.std.proofs.Common.{All}
use Rattle.at_nest.specs.KeptItems.{OwnAtom, GainsAll}
use Rattle.at_nest.proofs.levels.with_items.Given as goal

abbrev pub invariant-loop-atom : goal.invariant-loop-atom
invariant-loop-atom g l =
    (goal.iterator-loop-atom g).can_next l.atom-iterator ×
    (goal.iterator-loop-atom g).is_finite l.atom-iterator ×
    All (g.A.Algebra.is_own l.algebra) l.items.items ×
    GainsAll (OwnAtom (g.A.Algebra.is_own l.algebra) (g.A.Algebra.is_fold l.algebra) (g.A.Algebra.is_run l.algebra)) l.fn.items.items l.yielded l.items.items
