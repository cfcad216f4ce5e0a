-- The innermost of the last stretch.
use Rattle.std.proofs.Common.{◌-◌, List, length, sym, ◌∙◌, ap, slice_get}
use Rattle.at_nest.specs.declared.open_levels.Stretch.{Stretch}
use Rattle.at_nest.proofs.Nests.{last_got}
use Rattle.at_nest.proofs.Stretches.{last_innermost}
use Rattle.at_nest.proofs.open_levels.Levels.innermost_before.Goals as goal

pub returns-in-Some : goal.returns-in-Some
returns-in-Some g c = sym (last_innermost c.args.self.now.before.items c.in-Some.stretch.now (sym (c.in-Some.ensures.value ∙ (ap (λ (z : List (Stretch g.row.T.Denot)). slice_get z (length z - 1)) c.as_slice.ensures.value ∙ last_got c.args.self.now.before.items))))
