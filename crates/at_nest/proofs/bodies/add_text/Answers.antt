-- A string whose role was unknown is a name where the innermost level wants one, else a value.
use Rattle.std.proofs.Common.{refl, sym, ◌∙◌}
use Rattle.std.proofs.lemmas.Result.{IfOk-weaker}
use Rattle.at_nest.specs.declared.levels.MemberName.{MemberName}
use Rattle.at_nest.specs.declared.pieces.Piece.TheVariants.{Text}
use Rattle.at_nest.specs.Shown.{shown, held_of, name_next, value_next}
use Rattle.at_nest.specs.KeptItems.{IsAtomOf, OwnAtom}
use Rattle.at_nest.proofs.Held.{name_moves, text_moves}
use Rattle.at_nest.proofs.Showing.{text_put, text_bytes}
use Rattle.at_nest.proofs.Adding.{adds_text, has_text, innermost_own, some_items}
use Rattle.at_nest.proofs.bodies.add_text.Goals as goal

pub units-requires-clause-whole : goal.units-requires-clause-whole
units-requires-clause-whole g c = let t = has_text (IsAtomOf g.A.Algebra c.args.source.now.algebra.now) c.args.source.now.bytes.now (shown c.args.body.now) c.args.span c.args.atom c.requires.held in
    (t.cs, t.at.0, text_bytes c.args.source.now.bytes.now t.base t.w c.args.span t.cs t.part t.at)

pub returns-in_ok-units-in-Some : goal.returns-in_ok-units-in-Some
returns-in_ok-units-in-Some g c = let own = g.A.Algebra.is_own c.args.source.now.algebra.now in let fold = g.A.Algebra.is_fold c.args.source.now.algebra.now in let run = g.A.Algebra.is_run c.args.source.now.algebra.now in
    let name : MemberName = record { units = c.in_ok-units-in-Some.field-0; at = c.args.span.from } in
    let next = name_next (held_of c.in-Some.level) name in
    IfOk-weaker c.put.result _ _
    (λ r d. adds_text (OwnAtom own fold run) c.args.source.now.bytes.now (shown c.args.body.now) (shown c.put.new.self) r c.args.span c.args.atom
    (λ base w f cs part h t k. text_put (OwnAtom own fold run) base w (shown c.args.body.now) (shown c.innermost.new.self).outer (shown c.innermost.new.self).levels (shown c.put.new.self) r (held_of c.in-Some.level) c.args.span.from next cs f c.in-Some.ensures.levels
    (sym c.innermost.ensures.outer) (d (held_of c.in-Some.level) next c.name.ensures) h
    (λ l q. name_moves (OwnAtom own fold run) (held_of c.in-Some.level) l c.args.span.from name cs (sym c.wants_name.ensures ∙ c.if-wants_name.true) q (c.in_ok-units-in-Some.ensures cs t.0 (text_bytes c.args.source.now.bytes.now base w c.args.span cs part t)) refl)))
    c.put.ensures

pub with_value-requires-clause-level : goal.with_value-requires-clause-level
with_value-requires-clause-level g c κs within = let own = g.A.Algebra.is_own c.args.source.now.algebra.now in let fold = g.A.Algebra.is_fold c.args.source.now.algebra.now in let run = g.A.Algebra.is_run c.args.source.now.algebra.now in
    innermost_own own fold run (shown c.args.body.now) (held_of c.in-Some.level) (shown c.innermost.new.self).levels (some_items (OwnAtom own fold run) c.args.source.now.bytes.now (shown c.args.body.now) (Text c.args.span c.args.atom) c.requires.held) c.in-Some.ensures.levels

pub returns-in_ok-with_value-in-Some : goal.returns-in_ok-with_value-in-Some
returns-in_ok-with_value-in-Some g c = let own = g.A.Algebra.is_own c.args.source.now.algebra.now in let fold = g.A.Algebra.is_fold c.args.source.now.algebra.now in let run = g.A.Algebra.is_run c.args.source.now.algebra.now in
    let (ys, more, step) = c.in_ok-with_value-in-Some.ensures in
    let next = value_next (held_of c.in-Some.level) c.args.atom ys in
    IfOk-weaker c.put-else-wants_name.result _ _
    (λ r d. adds_text (OwnAtom own fold run) c.args.source.now.bytes.now (shown c.args.body.now) (shown c.put-else-wants_name.new.self) r c.args.span c.args.atom
    (λ base w f cs part h t k. text_put (OwnAtom own fold run) base w (shown c.args.body.now) (shown c.innermost.new.self).outer (shown c.innermost.new.self).levels (shown c.put-else-wants_name.new.self) r (held_of c.in-Some.level) c.args.span.from next cs f c.in-Some.ensures.levels
    (sym c.innermost.ensures.outer) (d (held_of c.in-Some.level) next step) h
    (λ l q. text_moves (OwnAtom own fold run) (held_of c.in-Some.level) l c.args.span.from c.args.atom ys cs (sym c.wants_name.ensures ∙ c.if-wants_name.false) q k more)))
    c.put-else-wants_name.ensures
