-- What stands for blocks of a file, of which some may be given up. Block i lies between place i and place i + 1.
use Rattle.std.specs.Prelude.{ℕ, ◌≤◌, ◌<◌, List, Contains, slice_index}
use Rattle.at_text.specs.Spans.{StandsAt}
use Rattle.at_blocks.specs.declared.jobs.FilePart.{FilePart}
use Rattle.at_blocks.specs.declared.jobs.FilePart.TheVariants.{GivenUp, Read}

-- no block from one number up to another is given up
abbrev pub NoneGivenUp : List ℕ → ℕ → ℕ → Type 0
NoneGivenUp given_up from to = (n : ℕ) → from ≤ n → n < to → ¬ (Contains given_up n)

-- some block from one number up to another is given up
abbrev pub SomeGivenUp : List ℕ → ℕ → ℕ → Type 0
SomeGivenUp given_up from to = (n : ℕ) × (from ≤ n) × (n < to) × Contains given_up n

module _ {F : Type 0} (Stands : ℕ → List ℕ → F → Type 0) (bytes places given_up : List ℕ) where
  -- some of the blocks are given up; or none is, and the fragment stands for the bytes from the first block's place up
  -- to the place behind the last
  abbrev pub StandsForBlocks : FilePart F → ℕ → ℕ → Type 0
  StandsForBlocks GivenUp from to = SomeGivenUp given_up from to
  StandsForBlocks (Read fragment) from to = (from ≤ to) × NoneGivenUp given_up from to
      × StandsAt Stands bytes (slice_index places from) (slice_index places to) fragment
