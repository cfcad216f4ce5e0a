use Rattle.std.proofs.Common.{length, ◌-◌, ◌+◌, ◌≤◌, ◌≡◌, take}
use Rattle.at_fixed.specs.NumberSoFar.{between}
use Rattle.at_query.proofs.query.bytes.skip_word.Given as goal

abbrev pub invariant-loop-count : goal.invariant-loop-count
invariant-loop-count l = record {
  fits : l.count ≤ length l.word;
  within : l.at + l.count ≤ length l.text;
  text : between l.text l.at (l.at + l.count) ≡ take l.count l.word;
}

abbrev pub decreases-loop-count : goal.decreases-loop-count
decreases-loop-count l = length l.word - l.count
