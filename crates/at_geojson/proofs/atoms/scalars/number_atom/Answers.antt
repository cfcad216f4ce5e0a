use Rattle.std.proofs.Common.{rules, Ok, Err, sym, subst, w64}
use Rattle.std.specs.Prelude.{FitsSigned}
use Rattle.std.proofs.lemmas.Int.{to_z-of_z}
use Rattle.at_wkt.specs.Positions.{fault_of}
use Rattle.at_nest.specs.Tree.{number}
use Rattle.at_geojson.specs.declared.atoms.atom.GeoAtom.TheVariants.{Number, BadNumber}
use Rattle.at_geojson.specs.Atoms.{IsOwn, IsFold}
use Rattle.at_geojson.proofs.ScalarFolds.{number_found, folds_one, number_folds, bad_number_at, own_number}
use Rattle.at_geojson.proofs.atoms.scalars.number_atom.Goals as goal

pub returns-in-Ok-clause-own : goal.returns-in-Ok-clause-own
returns-in-Ok-clause-own c =
    let (n, s, e) = number_found c.args.algebra.now c.args.at c.args.text.now (Ok c.in-Ok.value) c.digits.result c.how.result c.digits.ensures c.how.ensures c.requires.number c.in-Ok.ensures in
    let fits : FitsSigned w64 c.in-Ok.value = search rules in
    subst (λ z. IsOwn c.args.algebra.now (Number (record { at = c.args.at; value = z }))) (sym (to_z-of_z w64 c.in-Ok.value fits))
    (own_number c.args.algebra.now (record { at = c.args.at; value = c.in-Ok.value }) n e)

pub returns-in-Ok-clause-fold : goal.returns-in-Ok-clause-fold
returns-in-Ok-clause-fold c t r =
    let (n, s, e) = number_found c.args.algebra.now c.args.at c.args.text.now (Ok c.in-Ok.value) c.digits.result c.how.result c.digits.ensures c.how.ensures c.requires.number c.in-Ok.ensures in
    let fits : FitsSigned w64 c.in-Ok.value = search rules in
    subst (λ z. IsFold c.args.algebra.now (Number (record { at = c.args.at; value = z })) t) (sym (to_z-of_z w64 c.in-Ok.value fits))
    (folds_one c.args.algebra.now (Number (record { at = c.args.at; value = c.in-Ok.value })) c.args.at c.args.text.now (number c.args.at n) s
    (number_folds c.args.algebra.now (record { at = c.args.at; value = c.in-Ok.value }) n e) t r)

pub returns-in-Err-clause-fold : goal.returns-in-Err-clause-fold
returns-in-Err-clause-fold c t r =
    let (n, s, e) = number_found c.args.algebra.now c.args.at c.args.text.now (Err c.in-Err.why) c.digits.result c.how.result c.digits.ensures c.how.ensures c.requires.number c.in-Err.ensures in
    subst (λ f. IsFold c.args.algebra.now (BadNumber f) t) (sym c.number_fault.ensures)
    (folds_one c.args.algebra.now (BadNumber (fault_of c.in-Err.why c.args.at)) c.args.at c.args.text.now (number c.args.at n) s
    (bad_number_at c.args.algebra.now c.args.at n c.in-Err.why e) t r)
