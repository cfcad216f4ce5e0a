-- Hashes of names, by which equal names are looked for.
use Rattle.std.specs.Prelude.{ℕ, ◌+◌, ◌-◌, ◌*◌, ◌%◌, ◌^◌, ◌≤◌, ◌==◌, List, length, drop, fold, count_by, Contains, if◌then◌else◌}
use Rattle.std.specs.Bool.{nat_lt}
use Rattle.std.specs.Int.{from_le_bytes, w64}
use Rattle.std.specs.List.Sorted.{IsNonDecreasing}
use Rattle.at_scan.specs.declared.hashes.TheConstants.{SPREAD}

-- the hash of the units before, and of one unit more
abbrev pub hash_more : ℕ → ℕ → ℕ
hash_more hash unit = ((hash + unit) % 2 ^ 64 * SPREAD) % 2 ^ 64

-- the hash of a name
unfoldable pub name_hash : List ℕ → ℕ
name_hash name = fold hash_more 1 name

-- the hash of a name in ASCII: of its last eight bytes, where it has so many
abbrev pub tail_hash : List ℕ → ℕ
tail_hash name = if nat_lt (length name) 8 then name_hash name
    else (from_le_bytes w64 (drop (length name - 8) name) * SPREAD) % 2 ^ 64

-- how often a number stands in a list
abbrev pub times : ℕ → List ℕ → ℕ
times n numbers = count_by (λ x. x == n) numbers

-- numbers that rise, among which are all that stand more than once in a list
pub record HaveRepeated (numbers found : List ℕ) : Type 0 where
  pub rise : IsNonDecreasing found
  pub all : (n : ℕ) → 2 ≤ times n numbers → Contains found n
