use Rattle.std.proofs.Common.{◌+◌, ◌*◌, ◌/◌, sym, ap, arith, ◌∙◌}
use Rattle.std.proofs.Math.Nat.{mod-add-div}
use Rattle.std.proofs.lemmas.List.{get_or_default}
use Rattle.std.proofs.lemmas.Bool.{not-true}
use Rattle.at_join.specs.Boxes.{touch_of}
use Rattle.at_join.proofs.Covering.{no_extent}
use Rattle.at_join.proofs.covers.is_clear.Goals as goal

pub returns : goal.returns
returns c t =
    let number = c.args.at / c.args.size in
    let e = mod-add-div c.args.at c.args.size in
    let z = c.if-at-size-ne0.false in (
      number,
      (sym e ∙ ap (λ r. r + c.args.size * number) z ∙ omega (arith)),
      λ d. ap (λ x. touch_of x c.args.window) (get_or_default c.args.covers.now number d no_extent c.if-number-covers.false) ∙ sym (c.touch.ensures) ∙ not-true c.touch.result t,
    )
