use Rattle.std.proofs.Common.{ℕ, length, ◌-◌, ◌≡◌, ◌≤◌, nat_lt}
use Rattle.at_fixed.specs.Numerals.{AreDigits}
use Rattle.at_fixed.specs.NumberSoFar.{between, digits_behind}
use Rattle.at_fixed.proofs.digits.drop_digits.Given as goal

abbrev pub invariant-loop-end : goal.invariant-loop-end
invariant-loop-end l = record {
  order : l.from ≤ l.end;
  within : l.end ≤ length l.text;
  digits : AreDigits (between l.text l.from l.end);
  cut : (rest : ℕ) → l.before ≡ nat_lt 0 rest → l.is_cut ≡ nat_lt 0 (digits_behind rest (between l.text l.from l.end));
}

abbrev pub decreases-loop-end : goal.decreases-loop-end
decreases-loop-end l = length l.text - l.end
