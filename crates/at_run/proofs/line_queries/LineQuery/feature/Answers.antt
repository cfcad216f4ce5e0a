use Rattle.std.proofs.Common.{List, [], ◌∷◌, length, take, subst}
use Rattle.std.proofs.Math.Seq.{take-length}
use Rattle.std.proofs.lemmas.Result.{err_from_is_err_and}
use Rattle.at_query.specs.declared.query.queries.Test.{Test}
use Rattle.at_text.specs.Refusals.{IfFound}
use Rattle.at_wkt.specs.Answers.{HasLineShape, HasFirstLineFault}
use Rattle.at_query.specs.declared.answer.gathered.Gathered.TheVariants.{Failed}
use Rattle.at_run.specs.Gathering.{Asked, IsGathered}
use Rattle.at_run.specs.Labelling.{AreFrontTexts}
use Rattle.at_run.proofs.LineParts.{read_shape, read_fault, gathered_syntax, found_weaker}
use Rattle.at_run.proofs.line_queries.LineQuery.feature.Goals as goal

pub returns-in-Err : goal.returns-in-Err
returns-in-Err c =
    gathered_syntax c.args.self.now c.args.at c.args.text.now c.in-Err.fault (simp take-length at c.in-Err.ensures)

pub returns-in_err-shape : goal.returns-in_err-shape
returns-in_err-shape c =
    let asked = c.args.self.now in let text = c.args.text.now in let line = c.in-Ok.line in
    let p = err_from_is_err_and c.from_residual-in_err-shape.result c.from_residual-in_err-shape.ensures.1 in
    rw (p.1, p.2)
    (found_weaker c.in_err-shape.field-0.0 (HasFirstLineFault asked.digits asked.how line.at (take line.len line.ahead.now)) (λ fault. IsGathered asked (Failed fault) (record { at = c.args.at; text = text } ∷ []))
    (λ fault h. rw take-length at (read_fault asked text (length text) c.args.at line c.in-Ok.ensures fault h))
    (subst (λ (a : Asked). IfFound c.in_err-shape.field-0.0 (HasFirstLineFault a.digits a.how line.at (take line.len line.ahead.now))) c.self.view_is c.in_err-shape.ensures))

pub returns : goal.returns
returns c =
    let text = c.args.text.now in let line = c.in-Ok.line in let shape = c.in_ok-shape.shape in let texts = c.in_ok-texts.texts in
    rw take-length at (read_shape c.args.self.now text (length text) c.args.at line c.in-Ok.ensures shape texts
    (subst (λ (a : Asked). HasLineShape a.digits a.how line.at (take line.len line.ahead.now) shape) c.self.view_is c.in_ok-shape.ensures)
    (subst (λ (a : Asked). AreFrontTexts a.query.tests line.label.now texts) c.self.view_is (subst (λ (ts : List Test). AreFrontTexts ts line.label.now texts) c.as_slice.ensures c.in_ok-texts.ensures)))
