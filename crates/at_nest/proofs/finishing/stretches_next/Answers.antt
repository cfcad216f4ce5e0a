-- One stretch more, or the first level that may not stand where it does.
use Rattle.std.proofs.Common.{◌+◌, ◌∷◌, ◌++◌, [], ◌<◌, List, length, take, drop, take-append-drop, arith, sym, ◌∙◌, ap, Ok, Err}
use Rattle.at_nest.specs.declared.open_levels.Stretch.{Stretch}
use Rattle.std.proofs.lemmas.Result.{err_from_is_err_and}
use Rattle.at_nest.specs.Shown.{open_levels, stretched}
use Rattle.at_nest.specs.NextItems.{levels_next}
use Rattle.at_nest.proofs.OwnItems.{take_next}
use Rattle.at_nest.proofs.StretchesNext.{stretch_more, stretches_off}
use Rattle.at_nest.proofs.finishing.stretches_next.Goals as goal

pub loop-stretch-preserved : goal.loop-stretch-preserved
loop-stretch-preserved g c =
    let below : c.loop-stretch.stretch-index < length c.args.stretches.now = omega (arith, c.loop-stretch-test.true) in
    ap (λ (z : List (Stretch g.row.T.Denot)). levels_next (Ok c.args.next) (open_levels (stretched z))) (take_next c.args.stretches.now c.loop-stretch.stretch-index c.stretch-item.result below c.stretch-item.is)
    ∙ stretch_more (Ok c.args.next) (take c.loop-stretch.stretch-index c.args.stretches.now) c.stretch-item.result c.loop-stretch.next (Ok c.in_ok-next.next) c.loop-stretch.invariant c.in_ok-next.ensures

pub returns-in_err-next : goal.returns-in_err-next
returns-in_err-next g c =
    let below : c.loop-stretch.stretch-index < length c.args.stretches.now = omega (arith, c.loop-stretch-test.true) in
    let (place, is_place, same) = err_from_is_err_and c.from_residual.result c.from_residual.ensures.1 in
    is_place ∙ ap Err same ∙ (sym (stretches_off (Ok c.args.next) (take c.loop-stretch.stretch-index c.args.stretches.now ++ c.stretch-item.result ∷ []) (drop (c.loop-stretch.stretch-index + 1) c.args.stretches.now) c.in_err-next.field-0.0
    (stretch_more (Ok c.args.next) (take c.loop-stretch.stretch-index c.args.stretches.now) c.stretch-item.result c.loop-stretch.next (Err c.in_err-next.field-0.0) c.loop-stretch.invariant c.in_err-next.ensures))
    ∙ (ap (λ (z : List (Stretch g.row.T.Denot)). levels_next (Ok c.args.next) (open_levels (stretched (z ++ drop (c.loop-stretch.stretch-index + 1) c.args.stretches.now)))) (sym (take_next c.args.stretches.now c.loop-stretch.stretch-index c.stretch-item.result below c.stretch-item.is))
    ∙ ap (λ (z : List (Stretch g.row.T.Denot)). levels_next (Ok c.args.next) (open_levels (stretched z))) (take-append-drop (c.loop-stretch.stretch-index + 1) c.args.stretches.now)))
