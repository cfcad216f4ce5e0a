-- What is kept of the pieces of the bytes that came: fragments of neighbouring spans, and what was taken of bytes.
use Rattle.std.specs.Prelude.{◌≡◌, ℕ, Bool, ◌≤◌, ◌⊎◌, List, [], ◌∷◌, ◌++◌, length, reverse, Option, Some, IfSome}
use Rattle.at_text.specs.Spans.{StandsAt}
use Rattle.at_text.specs.Texts.{base_of as text_begin}
use Rattle.at_run.specs.Readers.{Asks}
use Rattle.at_task.specs.declared.ranks.Ranked.{Ranked}

-- for any meaning of fragments: that one stands for bytes, the first of which has the offset
module _ {F : Type 0} (Stands : ℕ → List ℕ → F → Type 0) (bytes : List ℕ) where
  -- the last of them stands for the bytes up to an end, each other for those up to the next one, and the first for
  -- those from a begin on; they are told from the last to the first
  abbrev pub AreBeside : ℕ → ℕ → List (Ranked F) → Type 0
  AreBeside begin end [] = begin ≡ end
  AreBeside begin end (r ∷ rs) = (r.from ≤ end) × StandsAt Stands bytes r.from end r.fragment
      × AreBeside begin r.from rs

  -- nothing was read, or the fragments stand for all of the text up to an end
  abbrev pub ReadUpTo : ℕ → List (Ranked F) → Type 0
  ReadUpTo end rs = ((end ≡ 0) × (rs ≡ [])) ⊎ ((3 ≤ end) × (end ≤ length bytes)
      × AreBeside (text_begin bytes) end (reverse rs))

-- what is asked of the bytes, those that were taken, for how many more there is room, and whether what was made of them
-- is kept
pub record Taking : Type 0 where
  pub asks : Asks
  pub taken : List ℕ
  pub spare : ℕ
  pub kept : Bool

-- the bytes that were taken, and the rest of them where that is told, are those that were taken before, and the rest
-- of then
abbrev pub KeepsBytes : List ℕ → Option (List ℕ) → List ℕ → Option (List ℕ) → Type 0
KeepsBytes before rest taken left = IfSome rest (λ told. (more : List ℕ) × (left ≡ Some more)
    × (before ++ told ≡ taken ++ more))
