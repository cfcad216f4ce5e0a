use Rattle.std.proofs.Common.{◌+◌, ◌≤◌, length, sym, subst, arith}
use Rattle.std.proofs.lemmas.Bool.{not-true}
use Rattle.at_text.specs.Syntax.{IsSyntaxFault}
use Rattle.at_query.proofs.StringParts.{text_stops}
use Rattle.at_run.specs.Labels.{LabelledLine}
use Rattle.at_run.proofs.LabelSteps.{label_stops}
use Rattle.at_run.proofs.labels.label_end.Goals as goal

pub returns-then-not-taken : goal.returns-then-not-taken
returns-then-not-taken c =
    let inside = c.requires.quote.inside in
    let within : c.args.quote ≤ length c.args.text.now = omega (arith, inside) in
    let stops = text_stops c.args.text.now c.args.quote c.take_text-taken.result.len within c.take_text-taken.result.whole c.take_text-taken.ensures (not-true c.take_text-taken.result.whole c.if-not-taken.true) in
    subst (IsSyntaxFault (LabelledLine c.args.at) c.args.at c.args.text.now) (sym c.stop_at.ensures)
    (label_stops c.args.at c.args.text.now c.args.quote (c.args.quote + c.take_text-taken.result.len) c.requires.quote stops)
