-- Each bracket goes behind what is kept.
use Rattle.std.proofs.Common.{arith, sym, ◌∙◌}
use Rattle.std.proofs.lemmas.Result.{IfOk-weaker}
use Rattle.at_nest.specs.Shown.{shown}
use Rattle.at_nest.proofs.Closers.{closed_rest, closed_on, closed_all, closed_halt}
use Rattle.at_nest.proofs.bodies.close_all.Goals as goal

pub returns-then-is_outside : goal.returns-then-is_outside
returns-then-is_outside g c =
    IfOk-weaker c.keep_closers.result _ _
    (λ r d. closed_rest _ (shown c.args.body.now) (shown c.loop-at.body) (shown c.keep_closers.new.body) c.args.closers c.rest.result c.loop-at.at r c.rest.ensures.first c.rest.ensures.second c.rest.ensures.from c.rest.ensures.last c.loop-at-test.true c.loop-at.invariant d)
    c.keep_closers.ensures

pub returns-then-is_some : goal.returns-then-is_some
returns-then-is_some g c =
    closed_halt _ (shown c.args.body.now) (shown c.loop-at.body) (shown c.close.new.body) c.args.closers c.kind_at.result c.loop-at.at c.in_ok-halt.halt c.kind_at.ensures (sym c.is_some.ensures ∙ c.if-is_some.true) c.loop-at-test.true c.loop-at.invariant c.in_ok-halt.ensures

pub loop-at-preserved : goal.loop-at-preserved
loop-at-preserved g c = closed_on _ (shown c.args.body.now) (shown c.loop-at.body) (shown c.close.new.body) c.args.closers c.kind_at.result c.loop-at.at c.in_ok-halt.halt c.kind_at.ensures (sym c.is_some.ensures ∙ c.if-is_some.false) c.loop-at.invariant c.in_ok-halt.ensures

pub returns-else-is_some : goal.returns-else-is_some
returns-else-is_some g c =
    closed_all _ (shown c.args.body.now) (shown c.loop-at.body) (shown c.close.new.body) c.args.closers c.kind_at.result c.loop-at.at c.in_ok-halt.halt c.kind_at.ensures (sym c.is_some.ensures ∙ c.if-is_some.false) (omega (arith, c.loop-at-test.true)) c.loop-at.invariant c.in_ok-halt.ensures
