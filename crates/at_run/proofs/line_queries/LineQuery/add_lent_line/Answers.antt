use Rattle.std.proofs.Common.{List, [], ◌∷◌, take, sym, subst}
use Rattle.std.proofs.lemmas.Result.{IfOk-weaker}
use Rattle.at_geom.specs.Shapes.{IsShapeInRange}
use Rattle.at_query.proofs.ShapeRanges.{shape_in}
use Rattle.at_query.specs.declared.features.Feature.{Feature}
use Rattle.at_query.specs.declared.query.queries.Test.{Test}
use Rattle.at_text.specs.declared.refusals.Refusal.{Refusal}
use Rattle.at_text.specs.Refusals.{IfFound}
use Rattle.at_wkt.specs.Answers.{HasLineShape, HasFirstLineFault}
use Rattle.at_wkt.specs.Lines.{FileLine}
use Rattle.at_query.specs.declared.answer.gathered.Gathered.TheVariants.{Failed}
use Rattle.at_query.specs.GatheredParts.{AddsFeature}
use Rattle.at_run.specs.Gathering.{Asked, IsGathered}
use Rattle.at_run.specs.Labelling.{AreFrontTexts}
use Rattle.at_run.proofs.LineParts.{read_shape, read_fault, gathered_syntax, found_weaker, joins_own, joins_lines, owns_feature, adds_feature}
use Rattle.at_run.proofs.line_queries.LineQuery.add_lent_line.Goals as goal

pub returns-in-Err-clause-fold : goal.returns-in-Err-clause-fold
returns-in-Err-clause-fold c lines before =
    let text = take c.args.len c.args.ahead.now in
    joins_lines c.args.gathered.now (Failed c.in-Err.fault) c.add_fault.new.gathered c.add_fault.ensures c.args.self.now lines (record { at = c.args.at; text = text } ∷ []) before (gathered_syntax c.args.self.now c.args.at text c.in-Err.fault c.in-Err.ensures)

pub add_lent-requires-clause-feature_in_range : goal.add_lent-requires-clause-feature_in_range
add_lent-requires-clause-feature_in_range c =
    subst IsShapeInRange (sym c.in-Ok-read_line.ensures.shape_is) (shape_in c.self.inside.digits c.self.inside.how c.in-Ok-read_line.ensures.geometry)

pub returns-in-Ok-read_line-clause-own : goal.returns-in-Ok-read_line-clause-own
returns-in-Ok-read_line-clause-own c =
    let read : Feature = record { at = c.args.at; shape = c.in-Ok-read_line.shape.now; texts = c.in_ok-texts.texts } in
    let P : Asked → Type 0 = λ asked. AddsFeature asked.query read c.args.gathered.now c.add_lent.new.gathered in
    IfOk-weaker c.add_lent.result _ _ (λ u adds. owns_feature c.args.self.now.query read c.args.gathered.now c.add_lent.new.gathered (subst P c.self.view_is adds) c.requires.own) c.add_lent.ensures

pub returns-in-Ok-read_line-clause-fold : goal.returns-in-Ok-read_line-clause-fold
returns-in-Ok-read_line-clause-fold c =
    let line = c.in-Ok.line in
    let shape = c.in-Ok-read_line.shape.now in let texts = c.in_ok-texts.texts in
    let read : Feature = record { at = c.args.at; shape = shape; texts = texts } in
    let text : FileLine = record { at = c.args.at; text = take c.args.len c.args.ahead.now } in
    let is = read_shape c.args.self.now c.args.ahead.now c.args.len c.args.at line c.in-Ok.ensures shape texts
    (subst (λ (a : Asked). HasLineShape a.digits a.how line.at (take line.len line.ahead.now) shape) c.self.view_is c.in-Ok-read_line.ensures)
    (subst (λ (a : Asked). AreFrontTexts a.query.tests line.label.now texts) c.self.view_is (subst (λ (ts : List Test). AreFrontTexts ts line.label.now texts) c.as_slice.ensures c.in_ok-texts.ensures)) in
    let Q : Asked → Type 0 = λ asked. AddsFeature asked.query read c.args.gathered.now c.add_lent.new.gathered in
    IfOk-weaker c.add_lent.result _ _ (λ u adds. adds_feature c.args.self.now text read c.args.gathered.now c.add_lent.new.gathered is (subst Q c.self.view_is adds)) c.add_lent.ensures

pub returns-clause-own : goal.returns-clause-own
returns-clause-own c = IfOk-weaker c.add_end.result _ _ (λ u (fault, e, joins). joins_own c.args.gathered.now (Failed fault) c.add_end.new.gathered joins c.args.self.now c.requires.own tt) c.add_end.ensures

pub returns-clause-fold : goal.returns-clause-fold
returns-clause-fold c =
    let line = c.in-Ok.line in let end = c.in-Err-read_line.end in
    let text : FileLine = record { at = c.args.at; text = take c.args.len c.args.ahead.now } in
    let Q : Asked → Type 0 = λ asked. IfFound end (HasFirstLineFault asked.digits asked.how line.at (take line.len line.ahead.now)) in
    let P : Refusal → Type 0 = λ z. IfFound z (λ fault. IsGathered c.args.self.now (Failed fault) (text ∷ [])) in
    let found : P end = found_weaker end (HasFirstLineFault c.args.self.now.digits c.args.self.now.how line.at (take line.len line.ahead.now)) (λ fault. IsGathered c.args.self.now (Failed fault) (text ∷ []))
    (λ fault h. read_fault c.args.self.now c.args.ahead.now c.args.len c.args.at line c.in-Ok.ensures fault h) (subst Q c.self.view_is c.in-Err-read_line.ensures) in
    IfOk-weaker c.add_end.result _ _ (λ u (fault, e, joins) lines before. joins_lines c.args.gathered.now (Failed fault) c.add_end.new.gathered joins c.args.self.now lines (text ∷ []) before (subst P e found)) c.add_end.ensures
