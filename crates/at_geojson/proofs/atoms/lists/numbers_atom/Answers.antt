use Rattle.std.proofs.Common.{◌≡◌, Some, sym, ◌∙◌, ap}
use Rattle.at_geojson.specs.Gathering.{pair_atom, least_of}
use Rattle.at_geojson.proofs.OwnFolds.{pair_own}
use Rattle.at_geojson.proofs.atoms.lists.numbers_atom.Goals as goal

pub returns-in-Some-clause-own : goal.returns-in-Some-clause-own
returns-in-Some-clause-own c =
    let items = c.args.items.items in
    let made : pair_atom c.args.at (least_of items) items ≡ Some c.in-Some.atom = ap (λ n. pair_atom c.args.at n items) (sym (c.least_of.ensures ∙ ap least_of c.as_slice.ensures.value)) ∙ (ap (pair_atom c.args.at c.least_of.result) (sym c.as_slice-2.ensures.value) ∙ (sym c.pair_atom.ensures ∙ c.in-Some.is)) in
    pair_own c.args.algebra.now c.args.at (least_of items) items c.in-Some.atom c.requires made
