use Rattle.std.proofs.Common.{refl, ◌∙◌, ap}
use Rattle.at_nest.specs.Tree.{text}
use Rattle.at_scan.specs.Names.{kind_of_text}
use Rattle.at_query.specs.declared.query.queries.Query.{Query}
use Rattle.at_geojson.specs.declared.atoms.atom.GeoAtom.TheVariants.{Text}
use Rattle.at_geojson.specs.declared.atoms.atom.TextAtom.{TextAtom}
use Rattle.at_geojson.specs.Atoms.{asked_units}
use Rattle.at_geojson.proofs.ScalarFolds.{folds_one, text_folds}
use Rattle.at_geojson.proofs.atoms.scalars.decoded_atom.Goals as goal

pub returns-clause-fold : goal.returns-clause-fold
returns-clause-fold c =
    let asked = c.args.algebra.now in
    let (cs, j, e) = c.requires.string in
    let units = c.in_ok-found.ensures cs j e in
    let a : TextAtom = record { at = c.args.at; kind = c.kind_of-kind.result; units = c.in_ok-units.units } in
    let k = c.kind_of-kind.ensures ∙ (ap kind_of_text c.as_slice.ensures ∙ ap kind_of_text units) in
    let u = c.in_ok-units.ensures ∙ (ap (λ tests. asked_units tests c.in_ok-found.found) (c.as_slice-2.ensures ∙ ap (λ (q : Query). q.tests) c.query.ensures.same) ∙ ap (asked_units asked.query.tests) units) in
    folds_one asked (Text a) c.args.at c.args.text.now (text c.args.at cs) (refl, (j, e)) (text_folds asked a cs k u)
