-- The comma, the name and the colon are taken from what was last.
use Rattle.std.proofs.Common.{arith}
use Rattle.std.proofs.lemmas.Result.{IfOk-weaker}
use Rattle.at_nest.specs.Shown.{shown, show_as}
use Rattle.at_nest.specs.KeptItems.{OwnAtom}
use Rattle.at_nest.proofs.MemberRows.{member_behind, without_awaited}
use Rattle.at_nest.proofs.member_rows.keep_awaited.Goals as goal

pub returns : goal.returns
returns g c = let own = g.A.Algebra.is_own c.args.algebra.now in let fold = g.A.Algebra.is_fold c.args.algebra.now in let run = g.A.Algebra.is_run c.args.algebra.now in
    let q = without_awaited (OwnAtom own fold run) c.args.body.now.outer.items c.truncate.new.self.items c.args.member c.saturating_sub.result c.requires.awaits (omega (arith, c.saturating_sub.ensures, c.len.ensures, c.args.body.now.outer.ok)) c.truncate.ensures.items in
    IfOk-weaker c.keep_member.result _ _
    (λ r d. member_behind (OwnAtom own fold run) (shown c.args.body.now) (show_as c.truncate.new.self.items (shown c.args.body.now).levels) (shown c.keep_member.new.body) r c.args.member q.0 c.args.value c.requires.outside c.requires.outside q.1 d)
    c.keep_member.ensures
