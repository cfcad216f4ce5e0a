-- One member more stands behind the others.
use Rattle.std.proofs.Common.{List, ◌∷◌, ◌++◌, All, length, sym, ◌∙◌, ap, subst}
use Rattle.std.proofs.Math.Seq.{drop-append_seam}
use Rattle.std.proofs.lemmas.List.Elements.{All-drop, All-head}
use Rattle.std.specs.Vec.Iter.{into_iter_items}
use Rattle.at_nest.specs.declared.pieces.NamedValue.{NamedValue}
use Rattle.at_nest.proofs.Joining.{taken_front}
use Rattle.at_nest.specs.KeptItems.{OwnAtom, HasName}
use Rattle.at_nest.proofs.MemberRows.{gains_member}
use Rattle.at_nest.proofs.member_rows.with_members.Goals as goal

pub loop-member-preserved : goal.loop-member-preserved
loop-member-preserved g c = let own = g.A.Algebra.is_own c.args.source.now.algebra.now in let fold = g.A.Algebra.is_fold c.args.source.now.algebra.now in let run = g.A.Algebra.is_run c.args.source.now.algebra.now in
    (tt, tt, gains_member (OwnAtom own fold run) c.args.source.now.bytes.now c.args.members.items c.loop-member.members.items c.push.new.self.items c.loop-member.yielded c.in-Some.member c.in_ok-named_member.field-0 c.loop-member.invariant.2 c.in_ok-named_member.ensures c.in_ok-push.ensures.items)

pub named_member-requires-clause-name : goal.named_member-requires-clause-name
named_member-requires-clause-name g c =
    let P : NamedValue g.row.A-Atom.Denot → Type 0 = HasName c.args.source.now.bytes.now in
    let whole = sym c.into_iter-member-iterator.ensures.into_iter_gives.0 ∙ (taken_front _ _ _ c.loop-member.yielded_by ∙ ap (λ (z : List (NamedValue g.row.A-Atom.Denot)). c.loop-member.yielded ++ z) c.in-Some.ensures.steps.0) in
    All-head P c.in-Some.member (into_iter_items c.next.new.self)
    (subst (All P) (drop-append_seam c.loop-member.yielded (c.in-Some.member ∷ into_iter_items c.next.new.self)) (All-drop P (length c.loop-member.yielded) (c.loop-member.yielded ++ c.in-Some.member ∷ into_iter_items c.next.new.self) (subst (All P) whole c.requires.names)))
