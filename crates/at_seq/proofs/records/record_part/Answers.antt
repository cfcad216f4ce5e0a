use Rattle.std.proofs.Common.{Result, subst}
use Rattle.std.proofs.lemmas.Result.{IfOk-weaker}
use Rattle.at_nest.specs.TextAnswers.{Answers}
use Rattle.at_nest.specs.declared.finishing.NestEnd.{NestEnd}
use Rattle.at_geojson.specs.declared.atoms.atom.GeoAtom.{GeoAtom}
use Rattle.at_geojson.specs.Atoms.{IsGeoAtom}
use Rattle.at_seq.proofs.Gathers.{root_has, end_has}
use Rattle.at_seq.proofs.records.record_part.Goals as goal

pub returns-in-Ok : goal.returns-in-Ok
returns-in-Ok c at text same answers =
    let P : Result GeoAtom NestEnd → Type 0 = λ z. Answers (IsGeoAtom c.args.algebra.now) at text z in
    IfOk-weaker c.part_of_root.result _ _ (λ part e. root_has c.args.algebra.now (record { at = at; text = text }) c.in-Ok.atom c.root_part.result part (subst P c.in-Ok.is answers) c.root_part.ensures e) c.part_of_root.ensures

pub returns-in_ok-end_fault-in-Err : goal.returns-in_ok-end_fault-in-Err
returns-in_ok-end_fault-in-Err c at text same answers =
    let P : Result GeoAtom NestEnd → Type 0 = λ z. Answers (IsGeoAtom c.args.algebra.now) at text z in
    end_has c.args.algebra.now (record { at = at; text = text }) c.args.to c.in-Err.end c.in_ok-end_fault-in-Err.field-0 same (subst P c.in-Err.is answers) c.in_ok-end_fault-in-Err.ensures
