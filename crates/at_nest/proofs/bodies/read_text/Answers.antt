-- The string is a name where the innermost level wants one, else a value.
use Rattle.std.proofs.Common.{refl, sym, ◌∙◌}
use Rattle.std.proofs.lemmas.Result.{IfOk-weaker}
use Rattle.at_nest.specs.declared.levels.MemberName.{MemberName}
use Rattle.at_nest.specs.Tree.{text}
use Rattle.at_nest.specs.Shown.{shown, held_of, name_next, value_next}
use Rattle.at_nest.specs.KeptItems.{OwnAtom}
use Rattle.at_nest.proofs.Held.{name_moves, text_moves}
use Rattle.at_nest.proofs.Adding.{innermost_own}
use Rattle.at_nest.proofs.Showing.{text_put}
use Rattle.at_nest.proofs.bodies.read_text.Goals as goal

pub returns-in_ok-units-in-Some : goal.returns-in_ok-units-in-Some
returns-in_ok-units-in-Some g c = let own = g.A.Algebra.is_own c.args.algebra.now in let fold = g.A.Algebra.is_fold c.args.algebra.now in let run = g.A.Algebra.is_run c.args.algebra.now in
    let name : MemberName = record { units = c.in_ok-units-in-Some.field-0; at = c.args.at } in
    let next = name_next (held_of c.in-Some.level) name in
    IfOk-weaker c.put.result _ _
    (λ r d cs ok e base w f h t. text_put (OwnAtom own fold run) base w (shown c.args.body.now) (shown c.innermost.new.self).outer (shown c.innermost.new.self).levels (shown c.put.new.self) r (held_of c.in-Some.level) c.args.at next cs f c.in-Some.ensures.levels
    (sym c.innermost.ensures.outer) (d (held_of c.in-Some.level) next c.name.ensures) h
    (λ l k. name_moves (OwnAtom own fold run) (held_of c.in-Some.level) l c.args.at name cs (sym c.wants_name.ensures ∙ c.if-wants_name.true) k (c.in_ok-units-in-Some.ensures cs ok e) refl))
    c.put.ensures

pub with_value-requires-clause-level : goal.with_value-requires-clause-level
with_value-requires-clause-level g c κs within = innermost_own (g.A.Algebra.is_own c.args.algebra.now) (g.A.Algebra.is_fold c.args.algebra.now) (g.A.Algebra.is_run c.args.algebra.now) (shown c.args.body.now) (held_of c.in-Some.level) (shown c.innermost.new.self).levels c.requires.held c.in-Some.ensures.levels

pub returns-in_ok-with_value-in-Some : goal.returns-in_ok-with_value-in-Some
returns-in_ok-with_value-in-Some g c = let own = g.A.Algebra.is_own c.args.algebra.now in let fold = g.A.Algebra.is_fold c.args.algebra.now in let run = g.A.Algebra.is_run c.args.algebra.now in
    let x = c.in_ok-atom-in-Some.atom in
    let (ys, more, step) = c.in_ok-with_value-in-Some.ensures in
    let next = value_next (held_of c.in-Some.level) x ys in
    IfOk-weaker c.put-else-wants_name.result _ _
    (λ r d cs ok e base w f h t. text_put (OwnAtom own fold run) base w (shown c.args.body.now) (shown c.innermost.new.self).outer (shown c.innermost.new.self).levels (shown c.put-else-wants_name.new.self) r (held_of c.in-Some.level) c.args.at next cs f c.in-Some.ensures.levels
    (sym c.innermost.ensures.outer) (d (held_of c.in-Some.level) next step) h
    (λ l k. text_moves (OwnAtom own fold run) (held_of c.in-Some.level) l c.args.at x ys cs (sym c.wants_name.ensures ∙ c.if-wants_name.false) k (c.in_ok-atom-in-Some.ensures.own, c.in_ok-atom-in-Some.ensures.fold (text c.args.at cs) (refl, (ok, e))) more))
    c.put-else-wants_name.ensures
