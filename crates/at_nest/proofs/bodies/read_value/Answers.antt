-- The value stands before the first open level, or goes into the innermost one.
use Rattle.std.proofs.Common.{sym}
use Rattle.std.proofs.lemmas.Result.{IfOk-weaker}
use Rattle.at_nest.specs.Shown.{shown, held_of, value_next}
use Rattle.at_nest.specs.KeptItems.{OwnAtom}
use Rattle.at_nest.proofs.Adding.{innermost_own}
use Rattle.at_nest.proofs.Showing.{value_put}
use Rattle.at_nest.proofs.bodies.read_value.Goals as goal

pub with_value-requires-clause-level : goal.with_value-requires-clause-level
with_value-requires-clause-level g c κs within = innermost_own (g.A.Algebra.is_own c.args.algebra.now) (g.A.Algebra.is_fold c.args.algebra.now) (g.A.Algebra.is_run c.args.algebra.now) (shown c.args.body.now) (held_of c.in-Some.level) (shown c.innermost.new.self).levels c.requires.held c.in-Some.ensures.levels

pub returns-in_ok-with_value-in-Some : goal.returns-in_ok-with_value-in-Some
returns-in_ok-with_value-in-Some g c = let own = g.A.Algebra.is_own c.args.algebra.now in let fold = g.A.Algebra.is_fold c.args.algebra.now in let run = g.A.Algebra.is_run c.args.algebra.now in
    let (ys, more, step) = c.in_ok-with_value-in-Some.ensures in
    IfOk-weaker c.put.result _ _
    (λ r d base w f t h k. value_put (OwnAtom own fold run) base w (shown c.args.body.now) (shown c.innermost.new.self).outer (shown c.innermost.new.self).levels (shown c.put.new.self) r (held_of c.in-Some.level) c.args.from c.args.atom ys t f c.in-Some.ensures.levels (sym c.innermost.ensures.outer)
    (d (held_of c.in-Some.level) (value_next (held_of c.in-Some.level) c.args.atom ys) step) more h k)
    c.put.ensures
