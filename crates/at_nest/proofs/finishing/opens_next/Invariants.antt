-- What may stand behind the levels so far.
use Rattle.std.proofs.Common.{◌≡◌, Ok, take}
use Rattle.at_nest.specs.Shown.{open_levels}
use Rattle.at_nest.specs.NextItems.{levels_next}
use Rattle.at_nest.proofs.finishing.opens_next.Given as goal

abbrev pub invariant-loop-level : goal.invariant-loop-level
invariant-loop-level g l = levels_next (Ok l.fn.next) (open_levels (take l.level-index l.opens)) ≡ Ok l.next
