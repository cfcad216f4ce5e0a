-- What the test whether a list is sorted says of places.
use Rattle.std.proofs.Common.{ℕ, ◌+◌, ◌<◌, Bool, true, false, IsTrue, List, length, get_or, refl, arith}
use Rattle.std.specs.Prelude.{◌↔◌}
use Rattle.std.specs.Bool.{MatchBool}
use Rattle.std.specs.List.Sorted.{IsNonDecreasing}
use Rattle.std.proofs.lemmas.List.Sorted.{non_decreasing_from_is_sorted}
use Rattle.at_blocks.proofs.cuts.never_fall.Goals as goal

sorted_iff : (xs : List ℕ) (r : Bool) → MatchBool r (IsNonDecreasing xs) ((k : ℕ) × (k + 1 < length xs) × ((d : ℕ) → get_or xs (k + 1) d < get_or xs k d)) → IsTrue r ↔ IsNonDecreasing xs
sorted_iff xs true h = (λ t. h, λ n. refl)
sorted_iff xs false (k, inside, falls) = (λ t. absurd (cc), λ h. absurd (omega (arith, falls 0, h k (k + 1) 0 (omega arith) inside)))

pub returns : goal.returns
returns c = sorted_iff c.args.places.now c.is_sorted.result (non_decreasing_from_is_sorted c.args.places.now c.is_sorted.result c.is_sorted.ensures.cases)
