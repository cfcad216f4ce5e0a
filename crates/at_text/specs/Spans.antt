-- Spans of a file's bytes, and what it is to stand for one: a fragment is made of a span alone, and two of neighbouring
-- spans are merged.
use Rattle.std.specs.Prelude.{ℕ, ◌-◌, ◌≤◌, List, length, take, drop}

-- the bytes from the place i up to, not including, the place k
abbrev pub span_of : List ℕ → ℕ → ℕ → List ℕ
span_of bytes i k = take (k - i) (drop i bytes)

-- for any meaning of fragments: that one stands for bytes, the first of which has the offset
module _ {F : Type 0} (Stands : ℕ → List ℕ → F → Type 0) where
  -- the fragment stands for the bytes from i up to k
  abbrev pub StandsAt : List ℕ → ℕ → ℕ → F → Type 0
  StandsAt bytes i k fragment = Stands i (span_of bytes i k) fragment

  -- the fragments a and b stand for the bytes from i up to j, and from j up to k
  pub record AreNeighbours (bytes : List ℕ) (i j k : ℕ) (a b : F) : Type 0 where
    pub first : i ≤ j
    pub second : j ≤ k
    pub within : k ≤ length bytes
    pub left : StandsAt bytes i j a
    pub right : StandsAt bytes j k b

  -- wherever the fragments are neighbours, the third stands for both spans
  abbrev pub IsMerged : List ℕ → F → F → F → Type 0
  IsMerged bytes left right both = (i j k : ℕ) → AreNeighbours bytes i j k left right → StandsAt bytes i k both
