-- Further numbers were passed over.
use Rattle.std.proofs.Common.{◌-◌, ℕ, ◌≤◌, List, length}
use Rattle.at_fixed.specs.NumberSoFar.{between}
use Rattle.at_lex.specs.Spans.{AreSpaces}
use Rattle.at_scan.specs.Numbers.{AreFurther}
use Rattle.at_scan.proofs.numbers.further_end.Given as goal

abbrev pub invariant-further : goal.invariant-further
invariant-further l = record {
  first : ℕ;
  before : l.at ≤ first;
  spaces : AreSpaces (between l.text l.at first);
  order : first ≤ l.end;
  within : l.end ≤ length l.text;
  places : List ℕ;
  further : AreFurther l.text first places l.end;
}

abbrev pub decreases-further : goal.decreases-further
decreases-further l = length l.text - l.end
