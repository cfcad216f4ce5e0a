use Rattle.std.proofs.Common.{◌≡◌, ℕ, ◌<◌, true, slice_index}
use Rattle.at_wkt.specs.Geometry.{is_blank}
use Rattle.at_run.proofs.labels.blank_len.Given as goal

abbrev pub invariant-loop-index : goal.invariant-loop-index
invariant-loop-index l = (k : ℕ) → k < l.index → is_blank (slice_index l.text k) ≡ true
