use Rattle.std.proofs.Common.{◌≡◌, ℕ, ◌<◌, true, slice_index}
use Rattle.at_text.specs.Texts.{is_digit}
use Rattle.at_lex.proofs.fronts.digit_len.Given as goal

abbrev pub invariant-loop-i : goal.invariant-loop-i
invariant-loop-i l = (k : ℕ) → k < l.i → is_digit (slice_index l.text k) ≡ true
