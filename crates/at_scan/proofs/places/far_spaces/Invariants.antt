-- The bytes that were passed are white space.
use Rattle.std.proofs.Common.{◌-◌, ◌≤◌, length}
use Rattle.at_fixed.specs.NumberSoFar.{between}
use Rattle.at_lex.specs.Spans.{AreSpaces}
use Rattle.at_scan.proofs.places.far_spaces.Given as goal

abbrev pub invariant-far : goal.invariant-far
invariant-far l = record { order : l.at ≤ l.end; within : l.end ≤ length l.text; spaces : AreSpaces (between l.text l.at l.end) }

abbrev pub decreases-far : goal.decreases-far
decreases-far l = length l.text - l.end

abbrev pub invariant-near : goal.invariant-near
invariant-near l = record { order : l.at ≤ l.end; within : l.end ≤ length l.text; spaces : AreSpaces (between l.text l.at l.end) }

abbrev pub decreases-near : goal.decreases-near
decreases-near l = length l.text - l.end
