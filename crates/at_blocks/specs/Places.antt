-- The places at which a file is cut into blocks: block i lies between place i and place i + 1.
use Rattle.std.specs.Prelude.{◌≡◌, ℕ, ◌+◌, ◌-◌, ◌*◌, ◌/◌, ◌≤◌, List, length, slice_index}
use Rattle.std.specs.List.Sorted.{IsNonDecreasing}
use Rattle.at_crew.specs.Nodes.{IsBlockCount}

-- the least count of blocks of a crew that is at least the number of blocks that were asked for
pub record IsLeastCount (blocks count : ℕ) : Type 0 where
  pub is_count : IsBlockCount count
  pub enough : blocks ≤ count
  pub least : (other : ℕ) → IsBlockCount other → blocks ≤ other → count ≤ other

-- the places never fall, and there is one more of them than blocks
pub record AreCuts (places : List ℕ) : Type 0 where
  pub never_fall : IsNonDecreasing places
  pub counted : IsBlockCount (length places - 1)

-- where the first block begins, and where the last one ends
abbrev pub first_place : List ℕ → ℕ
first_place places = slice_index places 0

abbrev pub last_place : List ℕ → ℕ
last_place places = slice_index places (length places - 1)

-- place i of blocks as even as they can be, rounded down
abbrev pub even_place : ℕ → ℕ → ℕ → ℕ → ℕ
even_place base len count i = base + i * (len - base) / count

-- the bytes from base to len are cut evenly into the least count of blocks that serves
pub record AreEven (base len blocks : ℕ) (places : List ℕ) : Type 0 where
  pub count : ℕ
  pub least : IsLeastCount blocks count
  pub counted : length places ≡ count + 1
  pub each : (i : ℕ) → i ≤ count → slice_index places i ≡ even_place base len count i
