-- One level more, or the first that may not stand where it does.
use Rattle.std.proofs.Common.{◌+◌, ◌∷◌, ◌++◌, [], ◌<◌, length, take, drop, take-append-drop, arith, sym, ◌∙◌, ap, Ok, Err}
use Rattle.std.proofs.lemmas.Result.{err_from_is_err_and}
use Rattle.at_nest.specs.Shown.{open_levels}
use Rattle.at_nest.specs.NextItems.{levels_next}
use Rattle.at_nest.proofs.OwnItems.{take_next}
use Rattle.at_nest.proofs.NextItems.{next_step, next_off}
use Rattle.at_nest.proofs.finishing.opens_next.Goals as goal

pub loop-level-preserved : goal.loop-level-preserved
loop-level-preserved g c =
    let below : c.loop-level.level-index < length c.args.opens.now = omega (arith, c.loop-level-test.true) in
    ap (λ z. levels_next (Ok c.args.next) (open_levels z)) (take_next c.args.opens.now c.loop-level.level-index c.level-item.result below c.level-item.is)
    ∙ next_step (Ok c.args.next) (take c.loop-level.level-index c.args.opens.now) c.level-item.result c.loop-level.next (Ok c.in_ok-next.next) c.loop-level.invariant c.in_ok-next.ensures

pub returns-in_err-next : goal.returns-in_err-next
returns-in_err-next g c =
    let below : c.loop-level.level-index < length c.args.opens.now = omega (arith, c.loop-level-test.true) in
    let (place, is_place, same) = err_from_is_err_and c.from_residual.result c.from_residual.ensures.1 in
    is_place ∙ ap Err same ∙ (sym (next_off (Ok c.args.next) (take c.loop-level.level-index c.args.opens.now ++ c.level-item.result ∷ []) (drop (c.loop-level.level-index + 1) c.args.opens.now) c.in_err-next.field-0.0
    (next_step (Ok c.args.next) (take c.loop-level.level-index c.args.opens.now) c.level-item.result c.loop-level.next (Err c.in_err-next.field-0.0) c.loop-level.invariant c.in_err-next.ensures))
    ∙ (ap (λ z. levels_next (Ok c.args.next) (open_levels (z ++ drop (c.loop-level.level-index + 1) c.args.opens.now))) (sym (take_next c.args.opens.now c.loop-level.level-index c.level-item.result below c.level-item.is))
    ∙ ap (λ z. levels_next (Ok c.args.next) (open_levels z)) (take-append-drop (c.loop-level.level-index + 1) c.args.opens.now)))
