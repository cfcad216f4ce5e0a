-- The token stops the span, or the items of the right one go behind it.
use Rattle.std.proofs.Common.{Option, subst, ◌-◌, take, drop}
use Rattle.std.proofs.lemmas.Result.{IfOk-weaker}
use Rattle.at_nest.specs.declared.pieces.SpanStop.{SpanStop}
use Rattle.at_nest.specs.Shown.{shown}
use Rattle.at_nest.specs.KeptItems.{OwnAtom}
use Rattle.at_nest.specs.Reading.{Reads}
use Rattle.at_nest.proofs.Neighbours.{meets_on, meets_stop}
use Rattle.at_nest.proofs.variants.join_items.Goals as goal

pub returns-in-None : goal.returns-in-None
returns-in-None g c = let own = g.A.Algebra.is_own c.args.source.now.algebra.now in let fold = g.A.Algebra.is_fold c.args.source.now.algebra.now in let run = g.A.Algebra.is_run c.args.source.now.algebra.now in
    let text = take (c.args.to - c.args.from) (drop c.args.from c.args.source.now.bytes.now) in
    IfOk-weaker c.join.result _ _
    (λ r d. meets_on (OwnAtom own fold run) c.args.source.now.bytes.now (shown c.args.body.now) (shown c.cut_token.new.body) (shown c.args.behind) (shown c.join.new.body) r c.args.from text
    (subst (λ (z : Option SpanStop). Reads (OwnAtom own fold run) (shown c.args.body.now) (shown c.cut_token.new.body) z c.args.from text) c.in-None.is c.in_ok-cut_token.ensures) d)
    c.join.ensures

pub returns-in-Some : goal.returns-in-Some
returns-in-Some g c = let own = g.A.Algebra.is_own c.args.source.now.algebra.now in let fold = g.A.Algebra.is_fold c.args.source.now.algebra.now in let run = g.A.Algebra.is_run c.args.source.now.algebra.now in
    let text = take (c.args.to - c.args.from) (drop c.args.from c.args.source.now.bytes.now) in
    meets_stop (OwnAtom own fold run) c.args.source.now.bytes.now (shown c.args.body.now) (shown c.args.behind) (shown c.cut_token.new.body) c.in-Some.halt c.args.from text
    (subst (λ (z : Option SpanStop). Reads (OwnAtom own fold run) (shown c.args.body.now) (shown c.cut_token.new.body) z c.args.from text) c.in-Some.is c.in_ok-cut_token.ensures)
