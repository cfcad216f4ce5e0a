use Rattle.std.proofs.Common.{refl, sym, ◌∙◌, ap, subst}
use Rattle.std.proofs.lemmas.Result.{IfOk-weaker}
use Rattle.at_nest.specs.Folds.{trees}
use Rattle.at_geojson.specs.Gathering.{least_of, rank, sort_of_all, MakesAreas}
use Rattle.at_geojson.proofs.SortFacts.{all_sorted}
use Rattle.at_geojson.proofs.OwnFolds.{areas_own}
use Rattle.at_geojson.proofs.RunFolds.{single_items}
use Rattle.at_geojson.proofs.MixedFolds.{mixed_folds}
use Rattle.at_geojson.proofs.ArrayAnswers.{areas_fold, numbers_fold}
use Rattle.at_geojson.proofs.atoms.lists.items_atom.Goals as goal

pub returns-in-Number-clause-fold : goal.returns-in-Number-clause-fold
returns-in-Number-clause-fold c =
    let asked = c.args.algebra.now in
    let items = c.args.items.items in
    let sort = ap sort_of_all (sym c.as_slice.ensures.value) ∙ (sym c.sort_of_all.ensures ∙ c.in-Number.is) in
    IfOk-weaker c.numbers_atom.result _ _ (λ r d ts h. numbers_fold asked c.args.at items c.requires.some c.requires.twins r sort d (trees ts)
    (single_items asked 1 refl refl refl items ts h (all_sorted 0 items (ap rank sort)))) c.numbers_atom.ensures.made

pub track_array-requires-clause-positions : goal.track_array-requires-clause-positions
track_array-requires-clause-positions c = all_sorted 1 c.args.items.items (ap rank (ap sort_of_all (sym c.as_slice.ensures.value) ∙ (sym c.sort_of_all.ensures ∙ c.in-Position.is)))

pub series_array-requires-clause-lists : goal.series_array-requires-clause-lists
series_array-requires-clause-lists c = all_sorted 2 c.args.items.items (ap rank (ap sort_of_all (sym c.as_slice.ensures.value) ∙ (sym c.sort_of_all.ensures ∙ c.in-Points.is)))

pub returns-in-Lists-clause-own : goal.returns-in-Lists-clause-own
returns-in-Lists-clause-own c = IfOk-weaker c.areas_atom.result _ _ (λ r d. areas_own c.args.algebra.now c.args.at c.least_of-least.result c.args.items.items r c.requires.own
    (subst (λ b. MakesAreas b c.args.at c.least_of-least.result c.args.items.items r) c.needs_shapes.ensures d)) c.areas_atom.ensures

pub returns-in-Lists-clause-fold : goal.returns-in-Lists-clause-fold
returns-in-Lists-clause-fold c =
    let asked = c.args.algebra.now in
    let items = c.args.items.items in
    let sort = ap sort_of_all (sym c.as_slice.ensures.value) ∙ (sym c.sort_of_all.ensures ∙ c.in-Lists.is) in
    IfOk-weaker c.areas_atom.result _ _ (λ r d ts h. areas_fold asked c.args.at items c.requires.some c.requires.twins c.needs_shapes.result c.least_of-least.result r c.needs_shapes.ensures
    (c.least_of-least.ensures ∙ ap least_of c.as_slice-in-Lists.ensures.value) sort d (trees ts) (single_items asked 4 refl refl refl items ts h (all_sorted 3 items (ap rank sort)))) c.areas_atom.ensures

pub returns-in-Other-clause-fold : goal.returns-in-Other-clause-fold
returns-in-Other-clause-fold c =
    let sort = ap sort_of_all (sym c.as_slice.ensures.value) ∙ (sym c.sort_of_all.ensures ∙ c.in-Other.is) in
    IfOk-weaker c.list_atom.result _ _ (λ r d ts h. mixed_folds c.args.algebra.now c.args.at c.args.items.items r c.requires.some c.requires.twins (ap rank sort) d ts h) c.list_atom.ensures.made
