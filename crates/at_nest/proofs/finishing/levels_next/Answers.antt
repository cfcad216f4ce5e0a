-- The last levels stand behind the stretches.
use Rattle.std.proofs.Common.{◌∙◌, sym, ap, List, Ok}
use Rattle.at_nest.specs.declared.levels.Open.{Open}
use Rattle.at_nest.specs.declared.open_levels.Stretch.{Stretch}
use Rattle.at_nest.specs.Shown.{open_levels, stretched}
use Rattle.at_nest.specs.NextItems.{levels_next}
use Rattle.at_nest.proofs.NextItems.{next_more, next_off}
use Rattle.at_nest.proofs.finishing.levels_next.Goals as goal

pub returns-in-Ok : goal.returns-in-Ok
returns-in-Ok g c = sym (next_more (Ok c.args.next) (stretched c.args.levels.now.before.items) c.args.levels.now.last.items c.in-Ok.inside c.opens_next.result
    (sym (c.in-Ok.ensures ∙ ap (λ (z : List (Stretch g.row.T.Denot)). levels_next (Ok c.args.next) (open_levels (stretched z))) c.as_slice.ensures.value))
    (c.opens_next.ensures ∙ ap (λ (z : List (Open g.row.T.Denot)). levels_next (Ok c.in-Ok.inside) (open_levels z)) c.as_slice-in-Ok.ensures.value))

pub returns-in-Err : goal.returns-in-Err
returns-in-Err g c = sym (next_off (Ok c.args.next) (stretched c.args.levels.now.before.items) c.args.levels.now.last.items c.in-Err.place
    (sym (c.in-Err.ensures ∙ ap (λ (z : List (Stretch g.row.T.Denot)). levels_next (Ok c.args.next) (open_levels (stretched z))) c.as_slice.ensures.value)))
