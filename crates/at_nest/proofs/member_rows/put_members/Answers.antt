-- An object goes on with the members, and an array takes none.
use Rattle.std.proofs.Common.{◌≡◌, Some, sym, ◌∙◌, ap, subst}
use Rattle.std.proofs.lemmas.Result.{IfOk-weaker}
use Rattle.at_nest.specs.declared.levels.ObjectState.TheVariants as object
use Rattle.at_nest.specs.Shown.{Held, shown, held_of, object_held, object_level}
use Rattle.at_nest.specs.KeptItems.{IsAtomOf, OwnAtom, IsBehindComma, PutsMembers}
use Rattle.at_nest.proofs.MemberRows.{each_has_name, members_in_object}
use Rattle.at_nest.proofs.member_rows.put_members.Goals as goal

pub with_members-requires-clause-names : goal.with_members-requires-clause-names
with_members-requires-clause-names g c κs within = each_has_name (IsAtomOf g.A.Algebra c.args.source.now.algebra.now) c.args.source.now.bytes.now c.args.row c.requires.row

pub returns-in_ok-new-in-Object : goal.returns-in_ok-new-in-Object
returns-in_ok-new-in-Object g c = let own = g.A.Algebra.is_own c.args.source.now.algebra.now in let fold = g.A.Algebra.is_fold c.args.source.now.algebra.now in let run = g.A.Algebra.is_run c.args.source.now.algebra.now in
    let o = c.into_inner-from.result in let all = c.in_ok-members-in-Object.members.items in
    let held : object_held o ≡ held_of c.args.level = ap object_held c.into_inner-from.ensures ∙ sym (ap held_of c.in-Object.is) in
    IfOk-weaker c.put.result _ _
    (λ r d. subst (λ (z : Held g.row.A-Atom.Denot). PutsMembers (OwnAtom own fold run) c.args.source.now.bytes.now (shown c.args.body.now) (shown c.put.new.self) r z c.args.row) held
    (members_in_object (OwnAtom own fold run) c.args.source.now.bytes.now (shown c.args.body.now) (shown c.put.new.self) r o.from c.args.row.comma o.state o.members.items all c.args.row
    (subst IsBehindComma (sym held) c.requires.comma) c.in_ok-members-in-Object.ensures
    (d (object_held o) (Some (object_level o.from object.Value all)) (ap object_held c.in_ok-new-in-Object.ensures.ok))))
    c.put.ensures
