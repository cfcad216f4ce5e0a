-- Members stand before the first open level, or are put into the innermost one, where that takes a comma.
use Rattle.std.proofs.Common.{None, sym}
use Rattle.std.proofs.lemmas.Result.{IfOk-weaker}
use Rattle.at_nest.specs.Shown.{shown, held_of, comma_next}
use Rattle.at_nest.proofs.Adding.{innermost_own}
use Rattle.at_nest.proofs.Rows.{step_on, step_refused, comma_own}
use Rattle.at_nest.proofs.MemberRows.{members_outside, members_refused, members_put}
use Rattle.at_nest.proofs.member_rows.add_members.Goals as goal

pub returns-in-None : goal.returns-in-None
returns-in-None g c = IfOk-weaker c.keep.result _ _
    (λ r d. members_outside _ c.args.source.now.bytes.now (shown c.args.body.now) (shown c.keep.new.self) r c.args.row (shown c.innermost.new.self).outer c.in-None.ensures.levels.0 (sym c.innermost.ensures.outer) d)
    c.keep.ensures

pub put_members-requires-clause-level : goal.put_members-requires-clause-level
put_members-requires-clause-level g c κs within = let own = g.A.Algebra.is_own c.args.source.now.algebra.now in let fold = g.A.Algebra.is_fold c.args.source.now.algebra.now in let run = g.A.Algebra.is_run c.args.source.now.algebra.now in
    comma_own own (held_of c.in-Some.level) (held_of c.in-On.level) (innermost_own own fold run (shown c.args.body.now) (held_of c.in-Some.level) (shown c.innermost.new.self).levels c.requires.held c.in-Some.ensures.levels) (step_on (held_of c.in-Some.level) (comma_next (held_of c.in-Some.level)) c.in-On.level c.in-On.ensures)

pub returns-in-Refused : goal.returns-in-Refused
returns-in-Refused g c = let step = step_refused (held_of c.in-Some.level) (comma_next (held_of c.in-Some.level)) c.in-Refused.level c.in-Refused.ensures in
    IfOk-weaker c.put.result _ _
    (λ r d. members_refused _ c.args.source.now.bytes.now (shown c.args.body.now) (shown c.put.new.self) r (shown c.innermost.new.self).outer (shown c.innermost.new.self).levels (held_of c.in-Some.level) c.args.row c.in-Some.ensures.levels (sym c.innermost.ensures.outer) step.0 (d (held_of c.in-Some.level) None step.1))
    c.put.ensures

pub returns-in-On : goal.returns-in-On
returns-in-On g c = IfOk-weaker c.put_members.result _ _
    (λ r p. members_put _ c.args.source.now.bytes.now (shown c.args.body.now) (shown c.innermost.new.self) (shown c.put_members.new.body) r (held_of c.in-Some.level) (held_of c.in-On.level) c.args.row c.in-Some.ensures.levels c.innermost.ensures.outer
    (step_on (held_of c.in-Some.level) (comma_next (held_of c.in-Some.level)) c.in-On.level c.in-On.ensures) p)
    c.put_members.ensures
