-- The members so far stand behind the others.
use Rattle.at_nest.specs.KeptItems.{OwnAtom, GainsMembers}
use Rattle.at_nest.proofs.member_rows.with_members.Given as goal

abbrev pub invariant-loop-member : goal.invariant-loop-member
invariant-loop-member g l =
    (goal.iterator-loop-member g).can_next l.member-iterator ×
    (goal.iterator-loop-member g).is_finite l.member-iterator ×
    GainsMembers (OwnAtom (g.A.Algebra.is_own l.fn.source.algebra.now) (g.A.Algebra.is_fold l.fn.source.algebra.now) (g.A.Algebra.is_run l.fn.source.algebra.now)) l.source.bytes.now l.fn.members.items l.yielded l.members.items
