use Rattle.std.proofs.Common.{Ok, Err, sym, ◌∙◌, ap}
use Rattle.at_nest.specs.declared.levels.Open.{Open}
use Rattle.at_nest.specs.Shown.{helds_of}
use Rattle.at_nest.specs.NextItems.{levels_next}
use Rattle.at_nest.proofs.Nests.{nested_off}
use Rattle.at_nest.proofs.finishing.first_of.Goals as goal

pub returns-in-Nested : goal.returns-in-Nested
returns-in-Nested g c n none = ap (λ (z : Open g.row.T.Denot). levels_next (Ok n) (helds_of z)) c.in-Nested.is ∙ (nested_off g.row.T.Denot c.in-Nested.nest.last c.in-Nested.nest.more n none ∙ ap Err (sym c.saturating_sub.ensures))
