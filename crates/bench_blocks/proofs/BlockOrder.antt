-- The fragments of blocks beside what the ones before them were merged to.
use Rattle.std.proofs.Common.{◌≡◌, ℕ, zero, suc, ◌+◌, ◌-◌, ◌<◌, ◌≤◌, List, [], ◌∷◌, length, get_or, sym, ◌∙◌, subst, arith}
use Rattle.std.specs.Prelude.{slice_index}
use Rattle.std.specs.List.{AllZip, range_with_len}
use Rattle.std.specs.List.Sorted.{IsNonDecreasing}
use Rattle.std.proofs.lemmas.List.FromFn.{length-range_with_len}
use Rattle.std.proofs.lemmas.Slice.Zip.{AllZip-long}
use Rattle.at_text.specs.Spans.{StandsAt, AreNeighbours}
use Rattle.at_blocks.specs.Places.{first_place, last_place}
use Rattle.at_blocks.proofs.Covered.{next_neighbours}
use Rattle.bench_blocks.specs.Fragments.{IsFragment, AreFragments}

module _ {F : Type 0} (R : ℕ → F → Type 0) where
  -- what stands beside the number j, which is i behind the first one
  numbered : (k n : ℕ) (xs : List F) (i j : ℕ) (d : F) → k + i ≡ j → AllZip R (range_with_len k n) xs → i < length xs → R j (get_or xs i d)
  numbered k zero [] i j d e h inside = absurd (omega (arith, inside))
  numbered k (suc n) [] i j d e h inside = absurd h
  numbered k zero (x ∷ xs) i j d e h inside = absurd h
  numbered k (suc n) (x ∷ xs) zero j d e h inside =
      let is : k ≡ j = omega (arith, e) in
      subst (λ m. R m x) is h.0
  numbered k (suc n) (x ∷ xs) (suc i) j d e h inside = numbered (k + 1) n xs i j d (omega (arith, e)) h.1 (omega (arith, inside))

module _ {F : Type 0} (Stands : ℕ → List ℕ → F → Type 0) (bytes places : List ℕ) (fragments : List F) (are : AreFragments Stands bytes places fragments) where
  -- there are as many fragments as blocks
  as_many : length fragments ≡ length places - 1
  as_many = AllZip-long (IsFragment Stands bytes places) (range_with_len 0 (length places - 1)) fragments are ∙ length-range_with_len 0 (length places - 1)

  -- the next fragment is the right neighbour of what those before it were merged to
  pub next_beside : (i : ℕ) (whole fragment : F) → IsNonDecreasing places → last_place places ≤ length bytes → StandsAt Stands bytes (first_place places) (slice_index places i) whole
      → (i < length fragments) × (fragment ≡ get_or fragments i fragment) → AreNeighbours Stands bytes (first_place places) (slice_index places i) (slice_index places (i + 1)) whole fragment
  next_beside i whole fragment order within stands (inside, is) =
      let beside : IsFragment Stands bytes places i fragment = subst (IsFragment Stands bytes places i) (sym is) (numbered (IsFragment Stands bytes places) 0 (length places - 1) fragments i i fragment (omega arith) are inside) in
      next_neighbours Stands bytes places i whole fragment order within (let n = as_many in omega (arith, n, inside)) stands beside

  -- behind the last fragment the last place is reached
  pub all_merged : (i : ℕ) (whole : F) → i ≡ length fragments → StandsAt Stands bytes (first_place places) (slice_index places i) whole → StandsAt Stands bytes (first_place places) (last_place places) whole
  all_merged i whole e stands = subst (λ j. StandsAt Stands bytes (first_place places) (slice_index places j) whole) (e ∙ as_many) stands
