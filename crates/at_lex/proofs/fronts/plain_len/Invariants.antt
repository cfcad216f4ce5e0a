use Rattle.std.proofs.Common.{◌≡◌, ℕ, ◌<◌, ◌≤◌, ◌-◌, true, length, slice_index}
use Rattle.at_lex.specs.Strings.{is_plain}
use Rattle.at_lex.proofs.fronts.plain_len.Given as goal

abbrev pub invariant-loop-len : goal.invariant-loop-len
invariant-loop-len l = record { fits : l.len ≤ length l.text; passes : (k : ℕ) → k < l.len → is_plain (slice_index l.text k) ≡ true }

abbrev pub decreases-loop-len : goal.decreases-loop-len
decreases-loop-len l = length l.text - l.len
