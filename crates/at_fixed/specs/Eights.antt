-- Eight bytes read at once. Only contracts of private functions cite this.
use Rattle.std.specs.Prelude.{◌≡◌, ℕ, ◌+◌, ◌-◌, ◌*◌, ◌/◌, ◌%◌, ◌^◌, ◌<◌, ◌≤◌, ◌==◌, true, false, if◌then◌else◌, List}
use Rattle.std.specs.Prelude.{slice_index, bit_and}
use Rattle.std.specs.Int.{trailing_zeros, w64}
use Rattle.at_text.specs.Texts.{is_digit}

-- the place of the lowest bit that is set, or n
abbrev pub first_set : ℕ → ℕ → ℕ
first_set mask n = if mask == 0 then n else trailing_zeros w64 mask

-- so many of the eight bytes at a place are digits, and the next of them isn't
pub record IsDigitRun (w : List ℕ) (at count : ℕ) : Type 0 where
  pub few : count ≤ 8
  pub digits : (k : ℕ) → at ≤ k → k < at + count → is_digit (slice_index w k) ≡ true
  pub stops : count < 8 → is_digit (slice_index w (at + count)) ≡ false

-- the eight bytes at a place, the first of them the lowest
abbrev pub eight_bytes : List ℕ → ℕ → ℕ
eight_bytes w at = slice_index w at
    + 256 * (slice_index w (at + 1) + 256 * (slice_index w (at + 2) + 256 * (slice_index w (at + 3)
    + 256 * (slice_index w (at + 4)
    + 256 * (slice_index w (at + 5) + 256 * (slice_index w (at + 6) + 256 * slice_index w (at + 7)))))))

-- digits joined to numbers of two, of four and of eight digits
abbrev pub digits_in : ℕ → ℕ → ℕ
digits_in word count = bit_and (word * 2 ^ (64 - 8 * count) % 2 ^ 64) 0x0F0F0F0F0F0F0F0F

abbrev pub pairs_in : ℕ → ℕ
pairs_in digits = bit_and (10 * digits + digits / 2 ^ 8) 0x00FF00FF00FF00FF

abbrev pub fours_in : ℕ → ℕ
fours_in pairs = bit_and (100 * pairs + pairs / 2 ^ 16) 0x0000FFFF0000FFFF

abbrev pub eights_in : ℕ → ℕ
eights_in fours = bit_and (10000 * fours + fours / 2 ^ 32) 0xFFFFFFFF

abbrev pub folded : ℕ → ℕ → ℕ
folded word count = eights_in (fours_in (pairs_in (digits_in word count)))
