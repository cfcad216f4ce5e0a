-- Fragments of the blocks that lie between places. Block i lies between place i and place i + 1.
use Rattle.std.specs.Prelude.{ℕ, ◌+◌, ◌-◌, List, length, slice_index}
use Rattle.std.specs.List.{AllZip, range_with_len}
use Rattle.at_text.specs.Spans.{StandsAt}

module _ {F : Type 0} (Stands : ℕ → List ℕ → F → Type 0) (bytes places : List ℕ) where
  -- the fragment stands for the bytes of block i
  abbrev pub IsFragment : ℕ → F → Type 0
  IsFragment i fragment = StandsAt Stands bytes (slice_index places i) (slice_index places (i + 1)) fragment

  -- there is one fragment of each block, in order
  abbrev pub AreFragments : List F → Type 0
  AreFragments fragments = AllZip IsFragment (range_with_len 0 (length places - 1)) fragments
