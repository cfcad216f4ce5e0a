-- What may stand behind the stretches so far.
use Rattle.std.proofs.Common.{◌≡◌, Ok, take}
use Rattle.at_nest.specs.Shown.{open_levels, stretched}
use Rattle.at_nest.specs.NextItems.{levels_next}
use Rattle.at_nest.proofs.finishing.stretches_next.Given as goal

abbrev pub invariant-loop-stretch : goal.invariant-loop-stretch
invariant-loop-stretch g l = levels_next (Ok l.fn.next) (open_levels (stretched (take l.stretch-index l.stretches))) ≡ Ok l.next
