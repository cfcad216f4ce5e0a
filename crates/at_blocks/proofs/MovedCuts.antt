-- One place among cuts is moved up, but not past the next one.
-- For `near_features`.
use Rattle.std.proofs.Common.{◌≡◌, ◌≢◌, ◌⊎◌, inl, inr, ℕ, ◌+◌, ◌-◌, ◌<◌, ◌≤◌, List, length, set, get_or, sym, ◌∙◌, ap, subst, arith}
use Rattle.std.specs.Prelude.{slice_index}
use Rattle.std.specs.List.Sorted.{IsNonDecreasing}
use Rattle.std.proofs.lemmas.List.{get_or-set_same, get_or-set_other, length-set}
use Rattle.std.proofs.lemmas.List.Sorted.{IsNonDecreasingBy-from_default}
use Rattle.std.proofs.lemmas.Bool.{cases_eq}
use Rattle.at_crew.specs.Nodes.{IsBlockCount}
use Rattle.at_blocks.specs.Places.{AreCuts, first_place, last_place}

-- a place is the one that is moved, or it is as it was
abbrev Moved : List ℕ → ℕ → ℕ → ℕ → Type 0
Moved xs i y k = ((k ≡ i) × (get_or (set xs i y) k 0 ≡ y)) ⊎ ((k ≢ i) × (get_or (set xs i y) k 0 ≡ get_or xs k 0))

moved_or_not : (xs : List ℕ) (i y k : ℕ) → i < length xs → Moved xs i y k
moved_or_not xs i y k inside = elim (cases_eq k i) [
  | inl e ↦ inl (e, ap (λ k. get_or (set xs i y) k 0) e ∙ get_or-set_same xs i y 0 inside)
  | inr n ↦ inr (n, get_or-set_other xs i k y 0 n)
]

moved_places : (xs : List ℕ) (i y a b : ℕ) → IsNonDecreasing xs → i + 1 < length xs → slice_index xs i ≤ y → y ≤ slice_index xs (i + 1) → a ≤ b → b < length xs → Moved xs i y a → Moved xs i y b → get_or (set xs i y) a 0 ≤ get_or (set xs i y) b 0
moved_places xs i y a b h inside low high order within (inl (e, p)) (inl (f, q)) = omega (arith, p, q)
moved_places xs i y a b h inside low high order within (inl (e, p)) (inr (f, q)) = omega (arith, p, q, high, h (i + 1) b 0 (omega (arith, e, f, order)) within)
moved_places xs i y a b h inside low high order within (inr (e, p)) (inl (f, q)) = omega (arith, p, q, low, h a i 0 (omega (arith, f, order)) (omega (arith, inside)))
moved_places xs i y a b h inside low high order within (inr (e, p)) (inr (f, q)) = omega (arith, p, q, h a b 0 order within)

pub moved_cuts : (xs : List ℕ) (i y : ℕ) → AreCuts xs → i + 1 < length xs → slice_index xs i ≤ y → y ≤ slice_index xs (i + 1) → AreCuts (set xs i y)
moved_cuts xs i y h inside low high = record {
  never_fall = IsNonDecreasingBy-from_default (λ x. x) (set xs i y) 0
      (λ a b order within. moved_places xs i y a b h.never_fall inside low high order (omega (arith, within, length-set xs i y)) (moved_or_not xs i y a (omega arith)) (moved_or_not xs i y b (omega arith)));
  counted = subst (λ n. IsBlockCount (n - 1)) (sym (length-set xs i y)) h.counted;
}

pub first_stays : (xs : List ℕ) (i y : ℕ) → 1 ≤ i → first_place (set xs i y) ≡ first_place xs
first_stays xs i y less = get_or-set_other xs i 0 y 0 (λ e. absurd (omega (arith, e, less)))

pub last_stays : (xs : List ℕ) (i y : ℕ) → i < length xs - 1 → last_place (set xs i y) ≡ last_place xs
last_stays xs i y less = ap (λ n. slice_index (set xs i y) (n - 1)) (length-set xs i y) ∙ get_or-set_other xs i (length xs - 1) y 0 (λ e. absurd (omega (arith, e, less)))
