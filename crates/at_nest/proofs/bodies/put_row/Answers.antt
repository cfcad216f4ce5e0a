-- An array goes on with the values, and an object takes none.
use Rattle.std.proofs.Common.{◌≡◌, List, Some, None, refl, sym, ap, subst}
use Rattle.std.proofs.lemmas.Result.{IfOk-weaker}
use Rattle.at_nest.specs.declared.levels.Level.{Level}
use Rattle.at_nest.specs.declared.levels.Level.TheVariants as level
use Rattle.at_nest.specs.declared.levels.ArrayLevel.{ArrayLevel}
use Rattle.at_nest.specs.declared.levels.ArrayState.TheVariants as array
use Rattle.at_nest.specs.Shown.{shown, held_of, array_level}
use Rattle.at_nest.specs.KeptItems.{IsAtomOf, Content, IsRowNext, PutsRow}
use Rattle.at_nest.proofs.bodies.put_row.Goals as goal

takes_no_row : {X : Type 0} (IsKept : X → Content → Type 0) (l : Level X) → ((a : ArrayLevel X) → l ≡ level.Array a → ⊥) → (zs : List X) → IsRowNext IsKept (held_of l) zs None
takes_no_row IsKept (level.Array a) h zs = absurd (h a refl)
takes_no_row IsKept _ h zs = tt

pub returns-in_ok-items-in-Array : goal.returns-in_ok-items-in-Array
returns-in_ok-items-in-Array g c = IfOk-weaker c.put.result _ _
    (λ r d. subst (λ (z : Level g.row.A-Atom.Denot). PutsRow (IsAtomOf g.A.Algebra c.args.algebra.now) (shown c.args.body.now) (shown c.put.new.self, r) (held_of z) c.args.row) (sym c.in-Array.is)
    (Some (array_level c.in-Array.field-0.from array.Value c.in_ok-items-in-Array.items.items), (c.in_ok-items-in-Array.items.items, refl, c.in_ok-items-in-Array.ensures), d (array_level c.in-Array.field-0.from c.in-Array.field-0.state c.in-Array.field-0.items.items) (Some (array_level c.in-Array.field-0.from array.Value c.in_ok-items-in-Array.items.items)) (ap held_of c.array.ensures)))
    c.put.ensures

pub returns-in_default : goal.returns-in_default
returns-in_default g c = IfOk-weaker c.put-in_default.result _ _
    (λ r d. (None, takes_no_row (IsAtomOf g.A.Algebra c.args.algebra.now) c.args.level c.in_default.not-Array c.args.row.items.items, d (held_of c.args.level) None refl))
    c.put-in_default.ensures
