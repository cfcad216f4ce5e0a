-- The numbers that stand more than once in a list that rises.
-- For `repeated`.
use Rattle.std.proofs.Common.{◌≡◌, ◌⊎◌, inl, inr, ℕ, ◌+◌, ◌-◌, ◌==◌, ◌<◌, ◌≤◌, cond, List, All, Contains, length, take, get_or, sym, subst, arith}
use Rattle.std.specs.List.Sorted.{IsNonDecreasing, IsPermutation}
use Rattle.std.proofs.lemmas.Bool.{cases_eq, ne_eqb, eq-eqb}
use Rattle.std.proofs.lemmas.Bool.Decides.{nat_tests}
use Rattle.std.proofs.lemmas.List.{get_or-take, length-take-le}
use Rattle.std.proofs.lemmas.List.Elements.{All-from_get_or}
use Rattle.std.proofs.lemmas.List.Sorted.{sum_by-IsPermutation}
use Rattle.std.proofs.lemmas.List.Sums.{sum_by-le, count_by_more_yes, count_by_more_no}
use Rattle.at_scan.specs.Hashes.{times, HaveRepeated}

less_is_other : (x n : ℕ) → x < n → cond (x == n) 1 0 ≤ 0
less_is_other x n less = grind (arith, nat_tests)

-- a number that is greater than those before a place stands nowhere before it
none_before : (numbers : List ℕ) (i n : ℕ) → IsNonDecreasing numbers → 0 < i → i < length numbers → get_or numbers (i - 1) 0 < n → times n (take i numbers) ≡ 0
none_before numbers i n up some within less =
    let long : length (take i numbers) ≡ i = length-take-le i numbers (omega arith) in
    let each : All (λ x. cond (x == n) 1 0 ≤ 0) (take i numbers)
    = All-from_get_or (λ x. cond (x == n) 1 0 ≤ 0) (take i numbers) 0 (λ k below.
    let early : k < i = omega (arith, long, below) in
    let lower : get_or numbers k 0 ≤ get_or numbers (i - 1) 0 = up k (i - 1) 0 (omega (arith, early)) (omega (arith, within, some)) in
    subst (λ x. cond (x == n) 1 0 ≤ 0) (sym (get_or-take i numbers k 0 early)) (less_is_other (get_or numbers k 0) n (omega (arith, lower, less)))) in
    omega (arith, sum_by-le (λ x. cond (x == n) 1 0) 0 (take i numbers) each)

-- one number more, which is among those that were found
pub found_again : (numbers found new : List ℕ) (i : ℕ) → i < length numbers → Contains new (get_or numbers i 0) → ((n : ℕ) → Contains found n → Contains new n)
    → ((n : ℕ) → 2 ≤ times n (take i numbers) → Contains found n) → (n : ℕ) → 2 ≤ times n (take (i + 1) numbers) → Contains new n
found_again numbers found new i h k l m n p = grind (arith, cases_eq, count_by_more_no, ne_eqb)

-- one number more, which is greater than those before it
pub found_once : (numbers found : List ℕ) (i : ℕ) → IsNonDecreasing numbers → 0 < i → i < length numbers → get_or numbers (i - 1) 0 < get_or numbers i 0
    → ((n : ℕ) → 2 ≤ times n (take i numbers) → Contains found n) → (n : ℕ) → 2 ≤ times n (take (i + 1) numbers) → Contains found n
found_once numbers found i up some within greater before n twice = go (cases_eq (get_or numbers i 0) n) where
  go : (get_or numbers i 0 ≡ n) ⊎ (get_or numbers i 0 ≡ n → ⊥) → Contains found n
  go (inl here) =
      let one = count_by_more_yes (λ x. x == n) numbers i 0 within (eq-eqb (get_or numbers i 0) n here) in
      let none = none_before numbers i n up some within (omega (arith, here, greater)) in
      absurd (omega (arith, one, none, twice))
  go (inr other) = before n (subst (λ t. 2 ≤ t) (count_by_more_no (λ x. x == n) numbers i 0 within (ne_eqb (get_or numbers i 0) n other)) twice)

-- the same numbers in another order
pub repeated_in_any_order : (numbers sorted found : List ℕ) → IsPermutation numbers sorted → HaveRepeated sorted found → HaveRepeated numbers found
repeated_in_any_order numbers sorted found h k = grind (arith, sum_by-IsPermutation)
