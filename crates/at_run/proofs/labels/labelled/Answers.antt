use Rattle.std.proofs.Common.{take, refl, sym, subst, ◌∙◌, true≢false}
use Rattle.std.specs.Str.{IsUtf8}
use Rattle.at_text.specs.Spans.{span_of}
use Rattle.at_run.proofs.LabelSteps.{line_end, part_front, label_valid, is_behind}
use Rattle.at_run.proofs.labels.labelled.Goals as goal

pub returns-then-not-is_valid : goal.returns-then-not-is_valid
returns-then-not-is_valid c valid =
    let ahead = c.args.ahead.now in let len = c.args.len in let quote = c.args.quote in let end = c.args.end in
    let same = part_front ahead len quote end c.requires.label.order (line_end ahead len quote end c.requires.inside c.requires.label) in
    let label : IsUtf8 (span_of ahead quote end) = subst IsUtf8 (sym same) (label_valid c.args.at (take len ahead) quote end c.requires.label valid) in
    absurd (true≢false (sym (c.is_valid.ensures.1 label) ∙ c.if-not-is_valid.true))

pub returns : goal.returns
returns c =
    is_behind c.args.ahead.now c.args.len c.args.at c.args.quote c.args.end _ c.requires.inside c.requires.label (c.is_valid.ensures.0 c.if-not-is_valid.false) refl refl refl refl
