-- Counts that never fall and stand still at the end of their type.
use Rattle.std.specs.Prelude.{◌≡◌, ◌⊎◌, ℕ, ◌+◌, ◌-◌, ◌^◌, ◌<◌, min}

-- where a count stands still
abbrev pub last_count : ℕ
last_count = 2 ^ 64 - 1

-- one more, or the last count once that is reached
abbrev pub next_count : ℕ → ℕ
next_count n = min (n + 1) last_count

-- the count is greater than before, or at its end
abbrev pub Rose : ℕ → ℕ → Type 0
Rose old new = (old < new) ⊎ (new ≡ last_count)
