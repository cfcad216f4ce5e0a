-- Counts of blocks are the powers of two up to 4,096.
-- For `even` and `from_places`.
use Rattle.std.proofs.Common.{◌≡◌, ℕ, zero, suc, ◌/◌, ◌%◌, ◌^◌, ◌<◌, ◌≤◌, inl, inr, max, true, count_ones, eq-eqb, ap, ◌∙◌, subst, arith}
use Rattle.std.specs.Int.{is_power_of_two, IsPowerOfTwo}
use Rattle.std.specs.Int.Count.{ones_step}
use Rattle.std.proofs.Math.Nat.{pow-le-pow_right}
use Rattle.std.proofs.lemmas.Nat.{ones_le_self, pow_pos}
use Rattle.std.proofs.lemmas.Bool.{cases_lt}
use Rattle.at_crew.specs.Nodes.{IsBlockCount}
use Rattle.at_crew.proofs.Powers.{power_of, block_count}
use Rattle.at_crew.proofs.Tree.{two_suc}
use Rattle.at_blocks.specs.Places.{IsLeastCount}

pow_le : (i j : ℕ) → i ≤ j → 2 ^ i ≤ 2 ^ j
pow_le i j h = pow-le-pow_right {n = 2} (omega arith) h

-- a power that is less has a lesser exponent
less_power : (i j : ℕ) → 2 ^ i < 2 ^ j → i < j
less_power i j h = elim (cases_lt i j) [ inl lt ↦ lt | inr le ↦ absurd (let p = pow_le j i le in omega (arith, p, h)) ]

pub some_blocks : (count : ℕ) → IsBlockCount count → (0 < count) × (count ≤ 4096)
some_blocks count is = let power = power_of count is in (let p = pow_pos power.0 in omega (arith, p, power.1), power.2)

ones_power : (k : ℕ) → count_ones (2 ^ k) ≡ 1
ones_power zero = let s = ones_step 1 in let z = ones_le_self 0 in omega (arith, s, z)
ones_power (suc k) =
    let s = ones_step (2 ^ suc k) in let t = two_suc k in
    let half : 2 ^ suc k / 2 ≡ 2 ^ k = omega (arith, t) in
    let low : 2 ^ suc k % 2 ≡ 0 = omega (arith, t) in
    let rest : count_ones (2 ^ suc k / 2) ≡ 1 = ap count_ones half ∙ ones_power k in
    omega (arith, s, low, rest)

-- each power of two passes the test by bits
pub power_tested : (n : ℕ) → IsPowerOfTwo n → is_power_of_two n ≡ true
power_tested n (k, e) = eq-eqb (count_ones n) 1 (ap count_ones e ∙ ones_power k)

-- ---- the least count

least_power : (blocks d k : ℕ) → 1 ≤ blocks → 2 ^ k / 2 < max 1 blocks → blocks ≤ 2 ^ d → 2 ^ k ≤ 2 ^ d
least_power blocks d k some upper le = elim (cases_lt (2 ^ d) (2 ^ k)) [
  | inl lt ↦ absurd (let m = pow_le (suc d) k (let l = less_power d k lt in omega (arith, l)) in let t = two_suc d in omega (arith, m, t, upper, le, some))
  | inr small ↦ small
]

pub least_count : (blocks result : ℕ) → 1 ≤ blocks → blocks ≤ 4096 → IsPowerOfTwo result → blocks ≤ result → result / 2 < max 1 blocks → IsLeastCount blocks result
least_count blocks result some few (k, e) lower upper =
    let bound : 2 ^ k / 2 < max 1 blocks = subst (λ x. x / 2 < max 1 blocks) e upper in
    record {
      is_count = block_count result (k, e) (omega (arith, least_power blocks 12 k some bound few, e));
      enough = lower;
      least = λ other is le. let power = power_of other is in omega (arith, least_power blocks power.0 k some bound (subst (λ x. blocks ≤ x) power.1 le), e, power.1);
    }
