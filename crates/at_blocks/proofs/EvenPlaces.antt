-- Even places never fall, begin at the base and end at the length.
-- For `even`.
use Rattle.std.proofs.Common.{◌≡◌, ℕ, ◌+◌, ◌-◌, ◌*◌, ◌/◌, ◌<◌, ◌≤◌, List, length, get_or, subst, arith, mul-le-mul_right}
use Rattle.std.specs.Prelude.{slice_index}
use Rattle.std.proofs.lemmas.List.Sorted.{IsNonDecreasingBy-from_default}
use Rattle.std.proofs.Math.Nat.{div-mul-le_self}
use Rattle.std.proofs.lemmas.Nat.{le-div}
use Rattle.at_crew.specs.Nodes.{IsBlockCount}
use Rattle.at_blocks.specs.Places.{IsLeastCount, AreCuts, even_place}
use Rattle.at_blocks.proofs.Powers.{some_blocks}

even_rises : (base len count i j : ℕ) → 0 < count → i ≤ j → even_place base len count i ≤ even_place base len count j
even_rises base len count i j some le =
    let m : i * (len - base) ≤ j * (len - base) = mul-le-mul_right (len - base) le in
    let f = div-mul-le_self (i * (len - base)) count in
    let d : i * (len - base) / count ≤ j * (len - base) / count = le-div (i * (len - base) / count) (j * (len - base)) count some (omega (arith, m, f)) in
    omega (arith, d)

module _ (base len blocks count : ℕ) (places : List ℕ) (order : base ≤ len) (least : IsLeastCount blocks count) (counted : length places ≡ count + 1)
    (each : (i : ℕ) → i ≤ count → slice_index places i ≡ even_place base len count i) where
  rises : (i j : ℕ) → i ≤ j → j < length places → get_or places i 0 ≤ get_or places j 0
  rises i j le inside =
      let last : j ≤ count = omega (arith, counted, inside) in
      let a : get_or places i 0 ≡ even_place base len count i = each i (omega (arith, le, last)) in
      let b : get_or places j 0 ≡ even_place base len count j = each j last in
      let r = even_rises base len count i j (some_blocks count least.is_count).0 le in
      omega (arith, a, b, r)

  pub even_cuts : AreCuts places
  even_cuts = record {
    never_fall = IsNonDecreasingBy-from_default (λ x. x) places 0 rises;
    counted = let same : count ≡ length places - 1 = omega (arith, counted) in subst IsBlockCount same least.is_count;
  }

-- the places that a loop has put down so far
pub record PlacesSoFar (base len count n : ℕ) (places : List ℕ) : Type 0 where
  pub counted : length places ≡ n
  pub each : (i : ℕ) → i < n → get_or places i 0 ≡ even_place base len count i

-- the least count of blocks that serves is one: a law of the definitions
pub one_least_count : (blocks m n : ℕ) → IsLeastCount blocks m → IsLeastCount blocks n → m ≡ n
one_least_count blocks m n h k = omega (arith, h.least n k.is_count k.enough, k.least m h.is_count h.enough)
