-- The blocks that lie between places cover the bytes from the first place to the last.
-- For `answer`, `answer_join`, `merge_pieces`, `part`, `run_blocks` and `run_file`.
use Rattle.std.proofs.Common.{ℕ, ◌+◌, ◌-◌, ◌<◌, ◌≤◌, List, length, arith}
use Rattle.std.specs.Prelude.{slice_index}
use Rattle.std.specs.List.Sorted.{IsNonDecreasing}
use Rattle.at_text.specs.Spans.{StandsAt, AreNeighbours}
use Rattle.at_blocks.specs.Places.{first_place, last_place}

-- neighbouring places, and how far they go
pub place_within : (places : List ℕ) (i size : ℕ) → IsNonDecreasing places → i < length places → last_place places ≤ size → slice_index places i ≤ size
place_within places i size h inside le = omega (arith, h i (length places - 1) 0 (omega (arith, inside)) (omega (arith, inside)), le)

-- the blocks so far and the next one are neighbours
pub next_neighbours : {F : Type 0} (Stands : ℕ → List ℕ → F → Type 0) (bytes places : List ℕ) (i : ℕ) (whole block : F) → IsNonDecreasing places → last_place places ≤ length bytes → i + 1 < length places
    → StandsAt Stands bytes (first_place places) (slice_index places i) whole
    → StandsAt Stands bytes (slice_index places i) (slice_index places (i + 1)) block
    → AreNeighbours Stands bytes (first_place places) (slice_index places i) (slice_index places (i + 1)) whole block
next_neighbours Stands bytes places i whole block order within inside h k = record {
  first = order 0 i 0 (omega arith) (omega (arith, inside));
  second = order i (i + 1) 0 (omega arith) inside;
  within = place_within places (i + 1) (length bytes) order inside within;
  left = h;
  right = k;
}
