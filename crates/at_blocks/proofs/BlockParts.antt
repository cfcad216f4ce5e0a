-- Parts of the blocks of a file: what is merged of two neighbouring stretches, and what a block gives.
-- For `answer`, `answer_join`, `merge_pieces`, `part`, `run_blocks` and `run_file`.
use Rattle.std.proofs.Common.{◌≡◌, ℕ, ◌-◌, ◌<◌, ◌≤◌, inl, inr, List, length, arith}
use Rattle.std.proofs.lemmas.Bool.{cases_lt}
use Rattle.std.specs.Prelude.{slice_index}
use Rattle.std.specs.List.Sorted.{IsNonDecreasing}
use Rattle.at_text.specs.Spans.{AreNeighbours, IsMerged}
use Rattle.at_blocks.specs.Places.{last_place}
use Rattle.at_blocks.specs.declared.jobs.FilePart.{FilePart}
use Rattle.at_blocks.specs.declared.jobs.FilePart.TheVariants.{Read}
use Rattle.at_blocks.specs.Blocks.{NoneGivenUp, StandsForBlocks}
use Rattle.at_blocks.proofs.Covered.{place_within}

module _ {F : Type 0} (Stands : ℕ → List ℕ → F → Type 0) (bytes places given_up : List ℕ) where
  abbrev Blocks : FilePart F → ℕ → ℕ → Type 0
  Blocks = StandsForBlocks Stands bytes places given_up

  neither : (a b c : ℕ) → NoneGivenUp given_up a b → NoneGivenUp given_up b c → NoneGivenUp given_up a c
  neither a b c f g n low high = elim (cases_lt n b) [ inl left ↦ f n low left | inr right ↦ g n right high ]

  -- of two parts that are read
  module _ (order : IsNonDecreasing places) (within : last_place places ≤ length bytes) (some : 1 < length places) where
    parts_beside : (left right : F) (a b c : ℕ) → Blocks (Read left) a b → Blocks (Read right) b c → c ≤ length places - 1 → AreNeighbours Stands bytes (slice_index places a) (slice_index places b) (slice_index places c) left right
    parts_beside left right a b c h k last = record {
      first = order a b 0 h.0 (omega (arith, k.0, last, some));
      second = order b c 0 k.0 (omega (arith, last, some));
      within = place_within places c (length bytes) order (omega (arith, last, some)) within;
      left = h.2;
      right = k.2;
    }

    pub read_merged : (l r : FilePart F) (left right both : F) → l ≡ Read left → r ≡ Read right → IsMerged Stands bytes left right both → (a b c : ℕ) → Blocks l a b → Blocks r b c → c ≤ length places - 1 → Blocks (Read both) a c
    read_merged l r left right both e f merged a b c hl hr last =
        let h = rw e at hl in let k = rw f at hr in
        ((omega (arith, h.0, k.0)), neither a b c h.1 k.1, merged _ _ _ (parts_beside left right a b c h k last))

  -- of a part that is read
  pub none_given_up : (part : FilePart F) (fragment : F) → part ≡ Read fragment → (from to : ℕ) → Blocks part from to → NoneGivenUp given_up from to
  none_given_up part fragment e from to h = (rw e at h).1
