use Rattle.std.proofs.Common.{None, Some, if◌then◌else◌, sym, ◌∙◌, ap, refl}
use Rattle.at_lex.specs.Strings.{units_of}
use Rattle.at_nest.specs.Tree.{text}
use Rattle.at_scan.specs.Names.{kind_of_text}
use Rattle.at_scan.proofs.SimpleTexts.{simple_units}
use Rattle.at_query.specs.Keeping.{asks_value}
use Rattle.at_geojson.specs.declared.atoms.atom.GeoAtom.TheVariants.{Text}
use Rattle.at_geojson.specs.declared.atoms.atom.TextAtom.{TextAtom}
use Rattle.at_geojson.proofs.ScalarFolds.{folds_one, text_folds}
use Rattle.at_geojson.proofs.atoms.scalars.simple_atom.Goals as goal

pub returns-clause-fold : goal.returns-clause-fold
returns-clause-fold c =
    let asked = c.args.algebra.now in
    let (cs, j, e) = c.requires.string in
    let a : TextAtom = record { at = c.args.at; kind = c.kind_of.result; units = None } in
    let same = (simple_units c.args.text.now cs j e c.requires.simple).1 in
    let k = c.kind_of.ensures ∙ ap kind_of_text same in
    let u = ap (λ b. if b then Some (units_of cs) else None) (sym (ap (asks_value asked.query.tests) (sym same) ∙ c.requires.unasked)) in
    folds_one asked (Text a) c.args.at c.args.text.now (text c.args.at cs) (refl, (j, e)) (text_folds asked a cs k u)
