use Rattle.std.proofs.Common.{◌≡◌, ℕ, ◌<◌, true, slice_index}
use Rattle.at_lex.specs.Strings.{is_plain}
use Rattle.at_lex.proofs.fronts.near_plain_len.Given as goal

abbrev pub invariant-loop-i : goal.invariant-loop-i
invariant-loop-i l = (k : ℕ) → k < l.i → is_plain (slice_index l.text k) ≡ true
