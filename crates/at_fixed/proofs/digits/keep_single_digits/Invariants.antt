use Rattle.std.proofs.Common.{length, ◌-◌, ◌≡◌, ◌≤◌, ◌<◌, ◌^◌}
use Rattle.at_fixed.specs.Numerals.{AreDigits}
use Rattle.at_fixed.specs.NumberSoFar.{between, digits_behind}
use Rattle.at_fixed.proofs.digits.keep_single_digits.Given as goal

abbrev pub invariant-loop-end : goal.invariant-loop-end
invariant-loop-end l = record {
  order : l.from ≤ l.end;
  within : l.end ≤ length l.text;
  digits : AreDigits (between l.text l.from l.end);
  value : l.kept ≡ digits_behind l.before (between l.text l.from l.end);
  fits : l.kept < 10 ^ 19;
  full : 10 ^ 18 ≤ l.before → l.end ≡ l.from;
}

abbrev pub decreases-loop-end : goal.decreases-loop-end
decreases-loop-end l = length l.text - l.end
