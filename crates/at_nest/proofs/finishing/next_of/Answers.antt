-- The first item that may not stand where it does stays so behind the open levels.
use Rattle.std.proofs.Common.{◌∙◌, ap}
use Rattle.at_nest.specs.Shown.{shown}
use Rattle.at_nest.specs.NextItems.{outer_next}
use Rattle.at_nest.proofs.NextItems.{next_error}
use Rattle.at_nest.proofs.finishing.next_of.Goals as goal

pub returns-in-Err : goal.returns-in-Err
returns-in-Err g c = next_error (shown c.args.body.now) c.in-Err.place (c.in-Err.ensures ∙ ap outer_next c.as_slice.ensures.value)
