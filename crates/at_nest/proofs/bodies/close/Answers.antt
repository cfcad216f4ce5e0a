-- A closing bracket stands where it is kept, is refused, or closes the innermost level.
use Rattle.std.proofs.Common.{refl, sym, ◌∙◌, subst, None}
use Rattle.std.proofs.lemmas.Result.{IfOk-weaker}
use Rattle.at_nest.specs.Shown.{shown, held_of}
use Rattle.at_nest.specs.KeptItems.{OwnAtom, PushesValue}
use Rattle.at_nest.proofs.Adding.{innermost_own, without_innermost}
use Rattle.at_nest.proofs.Showing.{close_refused, close_closes}
use Rattle.at_nest.proofs.Closers.{one_pushes, pushes_same}
use Rattle.at_nest.specs.Forms.{closes}
use Rattle.at_nest.proofs.bodies.close.Goals as goal

pub closed-requires-clause-own : goal.closed-requires-clause-own
closed-requires-clause-own g c κs within = innermost_own (g.A.Algebra.is_own c.args.algebra.now) (g.A.Algebra.is_fold c.args.algebra.now) (g.A.Algebra.is_run c.args.algebra.now) (shown c.args.body.now) (held_of c.in-Some.level) (shown c.innermost.new.self).levels c.requires c.in-Some.ensures.levels

pub returns-then-is_outside : goal.returns-then-is_outside
returns-then-is_outside g c = let own = g.A.Algebra.is_own c.args.algebra.now in let fold = g.A.Algebra.is_fold c.args.algebra.now in let run = g.A.Algebra.is_run c.args.algebra.now in
    IfOk-weaker c.keep_closers.result _ _ (λ r d. one_pushes (OwnAtom own fold run) (shown c.args.body.now) (shown c.keep_closers.new.body) r c.args.bracket c.args.at c.of_kind.result c.of_kind.ensures d)
    c.keep_closers.ensures

pub returns-in-None : goal.returns-in-None
returns-in-None g c = let own = g.A.Algebra.is_own c.args.algebra.now in let fold = g.A.Algebra.is_fold c.args.algebra.now in let run = g.A.Algebra.is_run c.args.algebra.now in
    IfOk-weaker c.keep_closers-in-None.result _ _
    (λ r d. pushes_same (OwnAtom own fold run) (shown c.args.body.now) (shown c.innermost.new.self) (shown c.keep_closers-in-None.new.body) r (closes c.args.bracket c.args.at) c.innermost.ensures.outer (c.in-None.ensures.levels.1 ∙ sym c.in-None.ensures.levels.0)
    (one_pushes (OwnAtom own fold run) (shown c.innermost.new.self) (shown c.keep_closers-in-None.new.body) r c.args.bracket c.args.at c.of_kind-in-None.result c.of_kind-in-None.ensures d))
    c.keep_closers-in-None.ensures

pub read_value-requires-clause-held : goal.read_value-requires-clause-held
read_value-requires-clause-held g c κs within = let own = g.A.Algebra.is_own c.args.algebra.now in let fold = g.A.Algebra.is_fold c.args.algebra.now in let run = g.A.Algebra.is_run c.args.algebra.now in
    without_innermost (OwnAtom own fold run) (shown c.args.body.now) (shown c.innermost.new.self).outer (held_of c.in-Some.level) (shown c.innermost.new.self).levels c.requires c.in-Some.ensures.levels (sym c.innermost.ensures.outer)

pub returns-in_ok-atom-in-Some : goal.returns-in_ok-atom-in-Some
returns-in_ok-atom-in-Some g c = let own = g.A.Algebra.is_own c.args.algebra.now in let fold = g.A.Algebra.is_fold c.args.algebra.now in let run = g.A.Algebra.is_run c.args.algebra.now in
    let x = c.in_ok-atom-in-Some.atom in
    IfOk-weaker c.read_value.result _ _
    (λ r d base w f h. close_closes (OwnAtom own fold run) base w (shown c.args.body.now) (shown c.innermost.new.self).outer (shown c.innermost.new.self).levels (shown c.read_value.new.body) r (held_of c.in-Some.level) c.args.bracket c.args.at x f c.in-Some.ensures.levels
    (sym c.innermost.ensures.outer) (sym c.can_close.ensures ∙ c.if-can_close.true)
    (subst (λ n. PushesValue (OwnAtom own fold run) (shown c.innermost.new.self) (shown c.read_value.new.body) r n x) c.first-from.ensures d) h
    (λ l k. (c.in_ok-atom-in-Some.ensures.own, c.in_ok-atom-in-Some.ensures.fold l k)))
    c.read_value.ensures

pub returns-else-can_close : goal.returns-else-can_close
returns-else-can_close g c = let own = g.A.Algebra.is_own c.args.algebra.now in let fold = g.A.Algebra.is_fold c.args.algebra.now in let run = g.A.Algebra.is_run c.args.algebra.now in
    IfOk-weaker c.put.result _ _
    (λ r d base w f h. close_refused (OwnAtom own fold run) base w (shown c.args.body.now) (shown c.innermost.new.self).outer (shown c.innermost.new.self).levels (shown c.put.new.self) r (held_of c.in-Some.level) c.args.bracket c.args.at f c.in-Some.ensures.levels
    (sym c.innermost.ensures.outer) (sym c.can_close.ensures ∙ c.if-can_close.false) (d (held_of c.in-Some.level) None refl) h)
    c.put.ensures
