-- The tree over k blocks, where k is a power of two. The root is node 1, node p has the children 2 p and 2 p + 1, and
-- block i is leaf k + i. Word 0 counts the claims, word p is the inner node p's, and word k is the root's own.
use Rattle.std.specs.Prelude.{◌≡◌, ℕ, ◌+◌, ◌-◌, ◌*◌, ◌/◌, ◌%◌, ◌^◌, ◌<◌, ◌≤◌, ◌⊎◌, ◌==◌, ◌||◌, Bool, IsTrue, zero, suc}
use Rattle.std.specs.Prelude.{List, [], ◌∷◌, ◌++◌, slice_index}

-- n is one of the powers of two from 1 to 2 ^ most
abbrev pub is_power_up_to : ℕ → ℕ → Bool
is_power_up_to zero n = n == 1
is_power_up_to (suc most) n = (n == 2 ^ suc most) || is_power_up_to most n

-- a crew can have so many blocks: a power of two up to 4,096. A literal meets it by computing
abbrev pub IsBlockCount : ℕ → Type 0
IsBlockCount n = IsTrue (is_power_up_to 12 n)

-- n is a node that stands over 2 ^ h blocks and lies l levels below the root, in the tree over k = 2 ^ (l + h) blocks
abbrev pub IsNode : ℕ → ℕ → ℕ → ℕ → Type 0
IsNode k l h n = (k ≡ 2 ^ (l + h)) × (2 ^ l ≤ n) × (n < 2 ^ (l + 1))

-- the first block of node n at height h, and the block after its last
abbrev pub first_of : ℕ → ℕ → ℕ → ℕ
first_of k h n = n * 2 ^ h - k

abbrev pub end_of : ℕ → ℕ → ℕ → ℕ
end_of k h n = (n + 1) * 2 ^ h - k

-- the bit that stands for n in its parent's word: 1 for a left child, 2 for a right one
abbrev pub bit_of : ℕ → ℕ
bit_of n = n % 2 + 1

-- the other child of n's parent
abbrev pub sibling : ℕ → ℕ
sibling n = n + 1 - 2 * (n % 2)

-- the node h levels above n
abbrev pub above : ℕ → ℕ → ℕ
above n zero = n
above n (suc h) = above n h / 2

-- the h nodes above n, from its parent up
abbrev pub ancestors : ℕ → ℕ → List ℕ
ancestors n zero = []
ancestors n (suc h) = ancestors n h ++ above n (suc h) ∷ []

-- what the words say of a node
module _ (k : ℕ) (words : List ℕ) where
  -- a leaf is made once its number was fetched, an inner node once both bits of its word stand
  abbrev pub Made : ℕ → Type 0
  Made n = ((k ≤ n) × (n < k + slice_index words 0)) ⊎ ((n < k) × (slice_index words n ≡ 3))

  -- a node is settled once its bit stands at its parent, the root once its own word is 1
  abbrev pub Settled : ℕ → Type 0
  Settled n = ((n ≡ 1) × (slice_index words k ≡ 1))
      ⊎ ((1 < n) × ((slice_index words (n / 2) ≡ bit_of n) ⊎ (slice_index words (n / 2) ≡ 3)))

  -- its parent, if it has one, is not made
  abbrev pub IsTop : ℕ → Type 0
  IsTop n = (n ≡ 1) ⊎ ((1 < n) × (¬ (slice_index words (n / 2) ≡ 3)))
