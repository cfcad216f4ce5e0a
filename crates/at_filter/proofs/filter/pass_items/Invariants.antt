use Rattle.std.proofs.Common.{◌≡◌, ◌≤◌, ◌-◌, ◌++◌, take, drop, length}
use Rattle.at_filter.specs.declared.filter.Filter.TheVariants.{Items}
use Rattle.at_filter.specs.Filters.{filtered, seen_behind}
use Rattle.at_filter.proofs.filter.pass_items.Given as goal

abbrev pub invariant-loop-at : goal.invariant-loop-at
invariant-loop-at l = (filtered Items l.fn.before l.initial.bytes ≡ take l.at l.bytes ++ filtered Items l.seen (drop l.at l.bytes))
    × (seen_behind Items l.fn.before l.initial.bytes ≡ seen_behind Items l.seen (drop l.at l.bytes))
    × (l.at ≤ length l.bytes) × (length l.bytes ≡ length l.initial.bytes)

abbrev pub decreases-loop-at : goal.decreases-loop-at
decreases-loop-at l = length l.initial.bytes - l.at
