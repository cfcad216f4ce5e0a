use Rattle.std.proofs.Common.{◌++◌, ap, ◌∙◌}
use Rattle.std.proofs.lemmas.Result.{on_ok_weaker}
use Rattle.at_cli.proofs.SquareTexts.{feature_together, four_texts}
use Rattle.at_cli.proofs.made.push_feature.Goals as goal

pub returns : goal.returns
returns c =
    let old = c.args.text.now.items in
    on_ok_weaker c.push_corners.result (feature_together old c.push_all.new.text.items c.push_corners.new.text.items c.args.before.now c.args.number.now c.args.left.now c.args.right.now c.args.row.now c.requires
    (c.in_ok-push_all.ensures ∙ ap (λ z. old ++ z) (four_texts c.as_bytes.result.now c.as_slice.result.now c.as_bytes-2.result.now c.as_slice-2.result.now _ _ _ _ c.as_bytes.ensures.value c.as_slice.ensures c.as_bytes-2.ensures.value c.as_slice-2.ensures))) c.push_corners.ensures
