-- Up to the last one so far all are brackets.
use Rattle.std.proofs.Common.{◌≡◌, ℕ, ◌-◌, ◌<◌, ◌≤◌, length, slice_index}
use Rattle.at_geojson.proofs.at_once.values.last_bracket.Given as goal

abbrev pub invariant-brackets : goal.invariant-brackets
invariant-brackets l = record {
  order : l.at ≤ l.last;
  inside : l.last < length l.text;
  brackets : (k : ℕ) → l.at ≤ k → k ≤ l.last → slice_index l.text k ≡ 0x5B;
}

abbrev pub decreases-brackets : goal.decreases-brackets
decreases-brackets l = length l.text - l.last
