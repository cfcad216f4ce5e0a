-- Bytes looked at together for whether they are digits. Only contracts of private functions cite this.
use Rattle.std.specs.Prelude.{◌≡◌, ℕ, ◌+◌, ◌^◌, ◌<◌, ◌≤◌, if◌then◌else◌, List, slice_index}
use Rattle.std.specs.Int.{bit_at}
use Rattle.at_text.specs.Texts.{is_digit}

-- of so many bytes from a place on, a bit of the mask is set where no digit stands
pub record MarksGaps (w : List ℕ) (at count mask : ℕ) : Type 0 where
  pub each : (k : ℕ) → k < count → bit_at mask k ≡ (if is_digit (slice_index w (at + k)) then 0 else 1)
  pub small : mask < 2 ^ count

-- the first place from one on whose bit is set
pub record IsFirstSet (mask from next : ℕ) : Type 0 where
  pub order : from ≤ next
  pub clear : (k : ℕ) → from ≤ k → k < next → bit_at mask k ≡ 0
  pub set : bit_at mask next ≡ 1

-- the bits up to a place are cleared, and those behind it are those of the mask
pub record IsClearedTo (mask place rest : ℕ) : Type 0 where
  pub clear : (k : ℕ) → k ≤ place → bit_at rest k ≡ 0
  pub same : (k : ℕ) → place < k → bit_at rest k ≡ bit_at mask k

-- of the first so many bytes, a bit of the mask is set where no digit stands from a place on
pub record MarksGapsFrom (w : List ℕ) (count from mask : ℕ) : Type 0 where
  pub each : (k : ℕ) → from ≤ k → k < count → bit_at mask k ≡ (if is_digit (slice_index w k) then 0 else 1)
  pub clear : (k : ℕ) → k < from → bit_at mask k ≡ 0
  pub small : mask < 2 ^ count

-- the places of the two lowest bits that are set
pub record AreFirstTwo (mask : ℕ) (places : ℕ × ℕ) : Type 0 where
  pub rest : ℕ
  pub first : IsFirstSet mask 0 places.0
  pub cleared : IsClearedTo mask places.0 rest
  pub less : rest ≤ mask
  pub second : IsFirstSet rest 0 places.1
