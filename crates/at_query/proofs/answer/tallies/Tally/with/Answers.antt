-- A position widens the extent, and an edge adds its term.
use Rattle.std.specs.Prelude.{FitsSigned}
use Rattle.std.specs.Int.{w128, int_wrap, int_wrapping_add}
use Rattle.std.proofs.Common.{[], ◌∷◌, ◌++◌, pos, ◌+ℤ◌, Some, None, refl, ap, sym, subst, ◌∙◌, rules}
use Rattle.std.proofs.lemmas.Int.{wrapping_add_is}
use Rattle.at_query.specs.declared.query.looks.Measure.{Measure}
use Rattle.at_query.specs.declared.answer.tallies.Tally.{Tally}
use Rattle.at_query.specs.Tallies.{SumsUp}
use Rattle.at_query.proofs.TallyFolds.{extent_more, area_more}
use Rattle.at_query.proofs.answer.tallies.Tally.with.Goals as goal

pub returns-in-Extent : goal.returns-in-Extent
returns-in-Extent c before front =
    let u : Tally = record { extent = Some c.widened.result; area = pos 0 } in
    subst (λ (m : Measure). SumsUp m before (front ++ c.args.last ∷ []) c.args.self → SumsUp m before ((front ++ c.args.last ∷ []) ++ c.args.next ∷ []) u) (sym c.in-Extent.is)
    (extent_more before (front ++ c.args.last ∷ []) c.args.next c.args.self u (ap Some c.widened.ensures) refl)

pub returns-in-Area : goal.returns-in-Area
returns-in-Area c before front =
    let f : FitsSigned w128 c.args.self.area = search rules in
    let g : FitsSigned w128 c.shoelace_term.result = search rules in
    let e = wrapping_add_is w128 c.args.self.area c.shoelace_term.result f g ∙ ap (λ t. int_wrap w128 (c.args.self.area +ℤ t)) c.shoelace_term.ensures in
    let u : Tally = record { extent = None; area = int_wrapping_add w128 c.args.self.area c.shoelace_term.result } in
    subst (λ (m : Measure). SumsUp m before (front ++ c.args.last ∷ []) c.args.self → SumsUp m before ((front ++ c.args.last ∷ []) ++ c.args.next ∷ []) u) (sym c.in-Area.is)
    (area_more before front c.args.last c.args.next c.args.self u refl e)
