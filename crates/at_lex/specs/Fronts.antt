-- How far the bytes of a class go.
use Rattle.std.specs.Prelude.{◌≡◌, ℕ, ◌+◌, ◌<◌, ◌≤◌, ◌==◌, ◌||◌, not, Bool, true, false, List, length, slice_index}

-- the first n bytes pass the test, and the byte behind them, where there is one, does not
pub record IsFront (test : ℕ → Bool) (w : List ℕ) (n : ℕ) : Type 0 where
  pub fits : n ≤ length w
  pub passes : (k : ℕ) → k < n → test (slice_index w k) ≡ true
  pub stops : n < length w → test (slice_index w n) ≡ false

-- of so many bytes from a place on, the first n pass the test, and the one behind them, where they aren't all, does not
pub record IsFrontAt (test : ℕ → Bool) (w : List ℕ) (at count n : ℕ) : Type 0 where
  pub few : n ≤ count
  pub passes : (k : ℕ) → at ≤ k → k < at + n → test (slice_index w k) ≡ true
  pub stops : n < count → test (slice_index w (at + n)) ≡ false

-- a byte that neither ends a string nor escapes a byte of it
abbrev pub is_quiet : ℕ → Bool
is_quiet b = not (b == 0x22 || b == 0x5C)
