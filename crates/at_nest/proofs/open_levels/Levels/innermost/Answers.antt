-- The last one is behind all others.
use Rattle.std.proofs.Common.{◌-◌, List, length, sym, ◌∙◌, ap, slice_get}
use Rattle.at_nest.specs.declared.levels.Open.{Open}
use Rattle.at_nest.specs.Shown.{stretched}
use Rattle.at_nest.proofs.Nests.{last_got}
use Rattle.at_nest.proofs.Stretches.{last_over}
use Rattle.at_nest.proofs.open_levels.Levels.innermost.Goals as goal

pub returns-in-Some : goal.returns-in-Some
returns-in-Some g c = sym (last_over (stretched c.args.self.now.before.items) c.args.self.now.last.items c.in-Some.level.now (sym (c.in-Some.ensures.value ∙ (ap (λ (z : List (Open g.row.T.Denot)). slice_get z (length z - 1)) c.as_slice.ensures.value ∙ last_got c.args.self.now.last.items))))
