use Rattle.std.proofs.Common.{ℤ, ◌≤ℤ◌, ◌<ℤ◌}
use Rattle.std.specs.Prelude.{All}
use Rattle.at_text.specs.Lists.{SomeOf}
use Rattle.at_band.specs.Banded.{IsAt, IsOrdered, IsWithin}
use Rattle.at_band.proofs.cuts.cut_heights.Given as goal

abbrev pub invariant-loop-index : goal.invariant-loop-index
invariant-loop-index l = record {
  ordered : All IsOrdered l.parts.items;
  within : All (IsWithin l.whole) l.parts.items;
  above : l.whole.low ≤ℤ l.heights.high;
  below : l.heights.high ≤ℤ l.whole.high;
  covering : (y : ℤ) → l.whole.low ≤ℤ y → y <ℤ l.heights.high → SomeOf (IsAt y) l.parts.items;
}
