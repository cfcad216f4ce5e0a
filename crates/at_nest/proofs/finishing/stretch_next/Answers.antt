-- The innermost level stands behind those round it.
use Rattle.std.proofs.Common.{◌∙◌, sym, ap, List, Ok}
use Rattle.at_nest.specs.declared.levels.Open.{Open}
use Rattle.at_nest.specs.Shown.{open_levels}
use Rattle.at_nest.specs.NextItems.{levels_next}
use Rattle.at_nest.proofs.StretchesNext.{in_stretch, off_stretch}
use Rattle.at_nest.proofs.finishing.stretch_next.Goals as goal

pub returns-in-Ok : goal.returns-in-Ok
returns-in-Ok g c = in_stretch (Ok c.args.next) c.args.stretch.now c.in-Ok.inside c.open_next.result
    (sym (c.in-Ok.ensures ∙ ap (λ (z : List (Open g.row.T.Denot)). levels_next (Ok c.args.next) (open_levels z)) c.as_slice.ensures.value)) c.open_next.ensures

pub returns-in-Err : goal.returns-in-Err
returns-in-Err g c = off_stretch (Ok c.args.next) c.args.stretch.now c.in-Err.place
    (sym (c.in-Err.ensures ∙ ap (λ (z : List (Open g.row.T.Denot)). levels_next (Ok c.args.next) (open_levels z)) c.as_slice.ensures.value))
