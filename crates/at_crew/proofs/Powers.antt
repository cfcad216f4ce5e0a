-- The counts of blocks that a crew can have are the powers of two up to 4,096.
-- For `new`, `run_crew`, `settle` and `work`.
use Rattle.std.proofs.Common.{◌≡◌, ◌≢◌, ◌∙◌, ℕ, zero, suc, ◌+◌, ◌/◌, ◌%◌, ◌^◌, ◌<◌, ◌≤◌, ◌||◌, Bool, true, IsTrue, count_ones, eq-eqb, ne_eqb, refl, sym, ap, subst, rules, arith}
use Rattle.std.specs.Int.{is_power_of_two, IsPowerOfTwo}
use Rattle.std.proofs.lemmas.Nat.{zero_from_ones, ones_le_self}
use lib.Count.{ones_step}
use native.Mathlib.Decide.{ℕ_discrete}
use Rattle.at_crew.specs.Nodes.{is_power_up_to, IsBlockCount}
use Rattle.at_crew.proofs.Tree.{two_suc, height_small}

found_up_to : (most n : ℕ) → Dec (n ≡ 2 ^ suc most) → IsTrue (is_power_up_to (suc most) n) → (IsTrue (is_power_up_to most n) → (d : ℕ) × (n ≡ 2 ^ d) × (n ≤ 2 ^ most)) → (d : ℕ) × (n ≡ 2 ^ d) × (n ≤ 2 ^ suc most)
found_up_to most n (yes e) is lower = (suc most, e, omega (arith, e))
found_up_to most n (no ne) is lower = let r = lower (subst (λ (b : Bool). IsTrue (b || is_power_up_to most n)) (ne_eqb n (2 ^ suc most) ne) is) in let t = two_suc most in (r.0, r.1, omega (arith, r.2, t))

power_up_to : (most n : ℕ) → IsTrue (is_power_up_to most n) → (d : ℕ) × (n ≡ 2 ^ d) × (n ≤ 2 ^ most)
power_up_to zero n is = let e : n ≡ 1 = search rules in (0, e, omega (arith, e))
power_up_to (suc most) n is = found_up_to most n (ℕ_discrete n (2 ^ suc most)) is (λ lower. power_up_to most n lower)

pub power_of : (n : ℕ) → IsBlockCount n → (d : ℕ) × (n ≡ 2 ^ d) × (n ≤ 4096)
power_of n is = power_up_to 12 n is

stands_at : (most n : ℕ) → Dec (n ≡ 2 ^ suc most) → (n ≢ 2 ^ suc most → IsTrue (is_power_up_to most n)) → IsTrue (is_power_up_to (suc most) n)
stands_at most n (yes e) lower = subst (λ (b : Bool). IsTrue (b || is_power_up_to most n)) (sym (eq-eqb n (2 ^ suc most) e)) refl
stands_at most n (no ne) lower = subst (λ (b : Bool). IsTrue (b || is_power_up_to most n)) (sym (ne_eqb n (2 ^ suc most) ne)) (lower ne)

stands_up_to : (most n d : ℕ) → n ≡ 2 ^ d → d ≤ most → IsTrue (is_power_up_to most n)
stands_up_to zero n d e le = let z : d ≡ 0 = omega (arith, le) in eq-eqb n 1 (e ∙ ap (λ (i : ℕ). 2 ^ i) z)
stands_up_to (suc most) n d e le = stands_at most n (ℕ_discrete n (2 ^ suc most)) (λ ne. stands_up_to most n d e (let other : d ≢ suc most = λ s. ne (e ∙ ap (λ (i : ℕ). 2 ^ i) s) in omega (arith, le, other)))

-- for a caller that knows the number as a power
pub block_count : (n : ℕ) → IsPowerOfTwo n → n ≤ 4096 → IsBlockCount n
block_count n power le = let z : power.0 ≡ 0 + power.0 = omega arith in stands_up_to 12 n power.0 power.1 (height_small n 0 power.0 1 (power.1 ∙ ap (λ (x : ℕ). 2 ^ x) z, omega arith, omega arith) le)

halves : (most n : ℕ) → n ≤ suc most → count_ones n ≡ 1 → Dec (n % 2 ≡ 0) → (n / 2 ≤ most → count_ones (n / 2) ≡ 1 → IsPowerOfTwo (n / 2)) → IsPowerOfTwo n
halves most n le one (yes even) lower = let s = ones_step n in let pos : 0 < n = (let z = ones_le_self n in omega (arith, z, one)) in let r = lower (omega (arith, le, pos)) (omega (arith, s, one, even)) in let t = two_suc r.0 in (suc r.0, omega (arith, r.1, even, t))
halves most n le one (no odd) lower = let s = ones_step n in let z : n / 2 ≡ 0 = zero_from_ones (n / 2) (omega (arith, s, one, odd)) in (0, omega (arith, z, odd))

one_bit : (most n : ℕ) → n ≤ most → count_ones n ≡ 1 → IsPowerOfTwo n
one_bit zero n le one = let o = ones_le_self n in absurd (omega (arith, le, o, one))
one_bit (suc most) n le one = halves most n le one (ℕ_discrete (n % 2) 0) (λ le' one'. one_bit most (n / 2) le' one')

-- for a caller that has tested the number by `is_power_of_two`
pub tested_count : (n : ℕ) → is_power_of_two n ≡ true → n ≤ 4096 → IsBlockCount n
tested_count n is le = block_count n (one_bit n n (omega arith) (search rules)) le
