use Rattle.std.proofs.Common.{◌≡◌, ◌++◌, drop}
use Rattle.at_join.specs.Sides.{outlined}
use Rattle.at_join.proofs.outlines.outlines_of.Given as goal

-- the outlines so far, and those of the entries that are left
abbrev pub invariant-loop-entry : goal.invariant-loop-entry
invariant-loop-entry l = l.outlines.items ++ outlined l.index (drop l.entry-index l.entries) ≡ outlined 0 l.entries
