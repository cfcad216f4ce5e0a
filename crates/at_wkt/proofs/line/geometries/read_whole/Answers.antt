use Rattle.std.proofs.lemmas.Bool.{not-false, not-true}
use Rattle.at_wkt.proofs.Names.{Open, Stuck, Expected}
use Rattle.at_wkt.proofs.ProgressAnswers.{steps_start, steps_more, steps_stuck, steps_end}
use Rattle.at_text.proofs.Exits.{exits}
use Rattle.at_wkt.proofs.line.geometries.read_whole.Goals as goal

pub geometries-init : goal.geometries-init
geometries-init c = steps_start c.args.source.now.rules.digits c.args.source.now.rules.how c.args.source.now.rules.base c.args.source.now.text.now c.args.at c.args.gathered.now c.requires.inside

pub geometries-preserved : goal.geometries-preserved
geometries-preserved c = steps_more c.args.source.now.rules.digits c.args.source.now.rules.how c.args.source.now.rules.base c.args.source.now.text.now c.args.at c.args.gathered.now c.geometries.gathered _ c.geometries.progress c.in_ok-progress.progress c.geometries.invariant
    (not-true c.geometries.progress.is_over c.geometries-test.true) c.in_ok-progress.ensures

pub returns-in_err-progress : goal.returns-in_err-progress
returns-in_err-progress c = exits c.from_residual.result c.in_err-progress.field-0.0 _ (Stuck (λ d. Expected c.args.source.now.rules.digits c.args.source.now.rules.how c.geometries.progress.depth) c.args.source.now.rules.base c.args.source.now.text.now c.geometries.progress.at Open) _ c.from_residual.ensures.1
    (λ n h. steps_stuck c.args.source.now.rules.digits c.args.source.now.rules.how c.args.source.now.rules.base c.args.source.now.text.now c.args.at c.args.gathered.now c.geometries.gathered c.geometries.progress n c.geometries.invariant (not-true c.geometries.progress.is_over c.geometries-test.true) h) c.in_err-progress.ensures

pub returns : goal.returns
returns c = steps_end c.args.source.now.rules.digits c.args.source.now.rules.how c.args.source.now.rules.base c.args.source.now.text.now c.args.at c.args.gathered.now c.geometries.gathered c.geometries.progress c.geometries.invariant (not-false c.geometries.progress.is_over c.geometries-test.false)
