-- The nest is one longer, or a nest of one array is opened.
use Rattle.std.proofs.Common.{List, ◌∙◌, ap}
use Rattle.at_nest.specs.declared.levels.Open.{Open}
use Rattle.at_nest.specs.declared.levels.Open.TheVariants.{Nested}
use Rattle.at_nest.specs.Shown.{show_as, open_levels, opens_of}
use Rattle.at_nest.proofs.Showing.{open_last}
use Rattle.at_nest.proofs.bodies.Body.open_square.Goals as goal

pub returns-in_ok-push-in-None : goal.returns-in_ok-push-in-None
returns-in_ok-push-in-None g c = ap (λ (z : List (Open g.row.T.Denot)). show_as c.args.self.now.outer.items (open_levels z)) c.in_ok-push-in-None.ensures
    ∙ ap (λ z. show_as c.args.self.now.outer.items z) (open_last (opens_of c.args.self.now.levels) (Nested (record { last = c.args.at; more = 0 })))
