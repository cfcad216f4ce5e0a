-- The items go into a row behind a comma, or into the innermost array.
use Rattle.std.proofs.Common.{◌∷◌, sym, ◌∙◌, ap}
use Rattle.std.proofs.lemmas.Result.{IfOk-weaker}
use Rattle.at_nest.specs.declared.levels.Level.{Level}
use Rattle.at_nest.specs.declared.levels.Level.TheVariants.{Array}
use Rattle.at_nest.specs.Shown.{shown, held_of, value_next}
use Rattle.at_nest.specs.KeptItems.{OwnAtom}
use Rattle.at_nest.proofs.Adding.{innermost_own}
use Rattle.at_nest.proofs.Rows.{items_put}
use Rattle.at_nest.proofs.bodies.put_items.Goals as goal

pub array_value-requires-clause-level : goal.array_value-requires-clause-level
array_value-requires-clause-level g c κs within = innermost_own (g.A.Algebra.is_own c.args.algebra.now) (g.A.Algebra.is_fold c.args.algebra.now) (g.A.Algebra.is_run c.args.algebra.now) (shown c.args.body.now) (held_of (Array c.in-Some-Array.level)) (shown c.innermost.new.self).levels c.requires.held
    (c.in-Some-Array.ensures.levels ∙ ap (λ (z : Level g.row.A-Atom.Denot). held_of z ∷ (shown c.innermost.new.self).levels) c.in-Some-Array.field-0-is)

pub returns-in_ok-array_value-in-Some-Array : goal.returns-in_ok-array_value-in-Some-Array
returns-in_ok-array_value-in-Some-Array g c = let own = g.A.Algebra.is_own c.args.algebra.now in let fold = g.A.Algebra.is_fold c.args.algebra.now in let run = g.A.Algebra.is_run c.args.algebra.now in
    let level = c.in-Some-Array.level in
    let (ys, more, step) = c.in_ok-array_value-in-Some-Array.ensures in
    IfOk-weaker c.put.result _ _
    (λ r d. items_put (OwnAtom own fold run) (shown c.args.body.now) (shown c.innermost.new.self).outer (shown c.innermost.new.self).levels (shown c.put.new.self) r level.from level.state level.items.items c.args.from c.args.atom ys
    (c.in-Some-Array.ensures.levels ∙ ap (λ (z : Level g.row.A-Atom.Denot). held_of z ∷ (shown c.innermost.new.self).levels) c.in-Some-Array.field-0-is) (sym c.innermost.ensures.outer)
    (d (held_of (Array level)) (value_next (held_of (Array level)) c.args.atom ys) step) more)
    c.put.ensures
