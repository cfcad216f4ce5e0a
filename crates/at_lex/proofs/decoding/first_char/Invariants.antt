use Rattle.std.proofs.Common.{◌≡◌, ℕ, ◌<◌, false, take}
use Rattle.std.specs.Str.{is_utf8}
use Rattle.at_lex.proofs.decoding.first_char.Given as goal

abbrev pub invariant-loop-n : goal.invariant-loop-n
invariant-loop-n l = (k : ℕ) → 0 < k → k < l.n → is_utf8 (take k l.bytes) ≡ false
