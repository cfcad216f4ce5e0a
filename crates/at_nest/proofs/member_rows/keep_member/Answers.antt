-- The members before it have one more, or some begin.
use Rattle.std.proofs.Common.{[], ◌∷◌, ◌++◌, ◌∙◌, ap, sym, append-nil}
use Rattle.std.proofs.lemmas.Result.{IfOk-weaker}
use Rattle.at_nest.specs.declared.pieces.Piece.{Piece}
use Rattle.at_nest.specs.Shown.{shown, show_as}
use Rattle.at_nest.specs.KeptItems.{OwnAtom}
use Rattle.at_nest.proofs.MemberRows.{members_begun, members_longer}
use Rattle.at_nest.proofs.member_rows.keep_member.Goals as goal

pub returns-in-Some-Members : goal.returns-in-Some-Members
returns-in-Some-Members g c = let own = g.A.Algebra.is_own c.args.algebra.now in let fold = g.A.Algebra.is_fold c.args.algebra.now in let run = g.A.Algebra.is_run c.args.algebra.now in
    IfOk-weaker c.lengthen_members.result _ _
    (λ r d. members_longer (OwnAtom own fold run) (shown c.args.body.now) (show_as c.pop.new.self.items (shown c.args.body.now).levels) (shown c.lengthen_members.new.body) r c.in-Some-Members.row c.args.member c.args.value c.requires
    (c.in-Some-Members.ensures.items ∙ ap (λ (z : Piece g.row.A-Atom.Denot). c.pop.new.self.items ++ z ∷ []) c.in-Some-Members.field-0-is) d)
    c.lengthen_members.ensures

pub returns-in_ok-push-in-Some : goal.returns-in_ok-push-in-Some
returns-in_ok-push-in-Some g c = let own = g.A.Algebra.is_own c.args.algebra.now in let fold = g.A.Algebra.is_fold c.args.algebra.now in let run = g.A.Algebra.is_run c.args.algebra.now in
    IfOk-weaker c.begin_members.result _ _
    (λ r d. members_begun (OwnAtom own fold run) (shown c.args.body.now) (show_as c.push.new.self.items (shown c.args.body.now).levels) (shown c.begin_members.new.body) r c.args.member c.args.value c.requires (c.in_ok-push-in-Some.ensures.items ∙ sym c.in-Some.ensures.items) d)
    c.begin_members.ensures

pub returns-in-None : goal.returns-in-None
returns-in-None g c = let own = g.A.Algebra.is_own c.args.algebra.now in let fold = g.A.Algebra.is_fold c.args.algebra.now in let run = g.A.Algebra.is_run c.args.algebra.now in
    IfOk-weaker c.begin_members-in-None.result _ _
    (λ r d. members_begun (OwnAtom own fold run) (shown c.args.body.now) (show_as c.pop.new.self.items (shown c.args.body.now).levels) (shown c.begin_members-in-None.new.body) r c.args.member c.args.value c.requires (sym (c.in-None.ensures.items ∙ append-nil c.pop.new.self.items)) d)
    c.begin_members-in-None.ensures
