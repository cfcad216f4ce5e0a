-- The last digits of a number, from the first of them on.
-- For `write_fixed`.
use Rattle.std.proofs.Common.{◌≡◌, ℕ, zero, suc, ◌+◌, ◌-◌, ◌*◌, ◌/◌, ◌%◌, ◌^◌, ◌<◌, List, [], ◌∷◌, ◌++◌, refl, sym, ◌∙◌, ap, subst, arith, append_assoc}
use Rattle.std.proofs.lemmas.Nat.{div-mul-add}
use Rattle.std.proofs.Math.Nat.{pow-succ', div-div-eq-div-mul, div-one}
use Rattle.at_fixed.specs.Fixed.{last_digits}

pub first_digit : (count n : ℕ) → last_digits (suc count) n ≡ (0x30 + (n / 10 ^ count) % 10) ∷ last_digits count n
first_digit zero n = let one : n / 1 ≡ n = div-one n in rw one refl
first_digit (suc count) n =
    let shorter : n / 10 / 10 ^ count ≡ n / 10 ^ suc count = div-div-eq-div-mul n 10 (10 ^ count) ∙ ap (λ k. n / k) (sym (pow-succ' 10 count)) in
    ap (λ w. w ++ ((0x30 + n % 10) ∷ [])) (first_digit count (n / 10)) ∙ ap (λ k. (0x30 + k % 10) ∷ last_digits (suc count) n) shorter

pub small_div : (n q : ℕ) → n < q → n / q ≡ 0
small_div n q h = let zero : 0 * q + n ≡ n = omega arith in subst (λ x. x / q ≡ 0) zero (div-mul-add 0 q n h)

-- one more of the last digits is written
pub written_more : (t next : List ℕ) (c n left : ℕ) → 0 < left → next ≡ t ++ (c ∷ []) → c ≡ 0x30 + (n / 10 ^ (left - 1)) % 10
    → next ++ last_digits (left - 1) n ≡ t ++ last_digits left n
written_more t next c n zero h e f = absurd (omega arith)
written_more t next c n (suc k) h e f =
    let less : suc k - 1 ≡ k = omega arith in
    let byte : c ≡ 0x30 + (n / 10 ^ k) % 10 = f ∙ ap (λ i. 0x30 + (n / 10 ^ i) % 10) less in
    rw (less, e, append_assoc t (c ∷ []) (last_digits k n), first_digit k n, byte) refl
