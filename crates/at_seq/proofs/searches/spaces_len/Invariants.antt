use Rattle.std.proofs.Common.{◌≡◌, ℕ, ◌<◌, true, slice_index}
use Rattle.at_text.specs.Texts.{is_space}
use Rattle.at_seq.proofs.searches.spaces_len.Given as goal

abbrev pub invariant-loop-index : goal.invariant-loop-index
invariant-loop-index l = (k : ℕ) → k < l.index → is_space (slice_index l.text k) ≡ true
