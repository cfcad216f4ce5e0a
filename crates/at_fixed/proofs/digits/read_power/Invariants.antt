use Rattle.std.proofs.Common.{length, ◌-◌, ◌≤◌, ◌<◌, ◌^◌}
use Rattle.at_fixed.specs.Numerals.{AreDigits}
use Rattle.at_fixed.specs.NumberSoFar.{between, digits_behind, SameOrHuge}
use Rattle.at_fixed.proofs.digits.read_power.Given as goal

abbrev pub invariant-loop-end : goal.invariant-loop-end
invariant-loop-end l = record {
  order : l.from ≤ l.end;
  within : l.end ≤ length l.text;
  digits : AreDigits (between l.text l.from l.end);
  size : SameOrHuge l.size (digits_behind 0 (between l.text l.from l.end));
  fits : l.size < 2 ^ 40;
}

abbrev pub decreases-loop-end : goal.decreases-loop-end
decreases-loop-end l = length l.text - l.end
