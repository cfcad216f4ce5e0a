use Rattle.std.proofs.Common.{ap, ◌∙◌, ◌++◌, List}
use Rattle.at_nest.specs.declared.levels.Open.{Open}
use Rattle.at_nest.specs.Shown.{show_as, open_levels, opens_of}
use Rattle.at_nest.proofs.Showing.{open_last}
use Rattle.at_nest.proofs.bodies.Body.push.Goals as goal

pub returns : goal.returns
returns g c = ap (λ (z : List (Open g.row.T.Denot)). show_as c.args.self.now.outer.items (open_levels z)) c.in_ok-push.ensures
    ∙ ap (λ z. show_as c.args.self.now.outer.items z) (open_last (opens_of c.args.self.now.levels) c.of.result ∙ ap (λ z. z ++ open_levels (opens_of c.args.self.now.levels)) c.of.ensures)
