use Rattle.std.proofs.Common.{◌∷◌, [], subst}
use Rattle.std.proofs.lemmas.Result.{IfOk-weaker}
use Rattle.at_text.specs.declared.refusals.Refusal.{Refusal}
use Rattle.at_text.specs.Refusals.{IfFound}
use Rattle.at_wkt.specs.Lines.{FileLine}
use Rattle.at_query.specs.declared.answer.gathered.Gathered.TheVariants.{Failed}
use Rattle.at_query.specs.GatheredParts.{AddsFeature}
use Rattle.at_run.specs.Gathering.{Asked, IsGathered}
use Rattle.at_run.proofs.LineParts.{joins_own, joins_lines, owns_feature, adds_feature}
use Rattle.at_run.proofs.line_queries.LineQuery.add_line.Goals as goal

pub returns-in-Ok-clause-own : goal.returns-in-Ok-clause-own
returns-in-Ok-clause-own c =
    let P : Asked → Type 0 = λ asked. AddsFeature asked.query c.in-Ok.feature c.args.gathered.now c.add_feature.new.gathered in
    IfOk-weaker c.add_feature.result _ _ (λ u adds. owns_feature c.args.self.now.query c.in-Ok.feature c.args.gathered.now c.add_feature.new.gathered (subst P c.self.view_is adds) c.requires.own) c.add_feature.ensures

pub returns-in-Ok-clause-fold : goal.returns-in-Ok-clause-fold
returns-in-Ok-clause-fold c =
    let P : Asked → Type 0 = λ asked. AddsFeature asked.query c.in-Ok.feature c.args.gathered.now c.add_feature.new.gathered in
    let line : FileLine = record { at = c.args.at; text = c.args.text.now } in
    IfOk-weaker c.add_feature.result _ _ (λ u adds. adds_feature c.args.self.now line c.in-Ok.feature c.args.gathered.now c.add_feature.new.gathered c.in-Ok.ensures (subst P c.self.view_is adds)) c.add_feature.ensures

pub returns-in-Err-clause-own : goal.returns-in-Err-clause-own
returns-in-Err-clause-own c = IfOk-weaker c.add_end.result _ _ (λ u (fault, e, joins). joins_own c.args.gathered.now (Failed fault) c.add_end.new.gathered joins c.args.self.now c.requires.own tt) c.add_end.ensures

pub returns-in-Err-clause-fold : goal.returns-in-Err-clause-fold
returns-in-Err-clause-fold c =
    let line : FileLine = record { at = c.args.at; text = c.args.text.now } in
    let P : Refusal → Type 0 = λ z. IfFound z (λ fault. IsGathered c.args.self.now (Failed fault) (line ∷ [])) in
    IfOk-weaker c.add_end.result _ _ (λ u (fault, e, joins) lines before. joins_lines c.args.gathered.now (Failed fault) c.add_end.new.gathered joins c.args.self.now lines (line ∷ []) before (subst P e c.in-Err.ensures)) c.add_end.ensures
