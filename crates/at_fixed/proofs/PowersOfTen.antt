-- A table of powers of ten.
-- For `json_number`, `leading_number`, `plain_number`, `read_fixed`, `wkt_number` and `write_fixed`.
use Rattle.std.proofs.Common.{◌≡◌, ℕ, zero, suc, ◌*◌, ◌/◌, ◌^◌, ◌<◌, List, [], ◌∷◌, slice_index, sym, ◌∙◌, ap, arith, lit<}
use Rattle.std.proofs.Math.Nat.{pow-suc, mul-div_cancel}

-- n numbers from p on, each ten times the one before
abbrev pub powers : ℕ → ℕ → List ℕ
powers zero p = []
powers (suc n) p = p ∷ powers n (10 * p)

pub powers-at : (n p k : ℕ) → k < n → slice_index (powers n p) k ≡ p * 10 ^ k
powers-at zero p k h = absurd (omega arith)
powers-at (suc n) p zero h = omega arith
powers-at (suc n) p (suc k) h =
    let below : k < n = omega arith in
    powers-at n (10 * p) k below ∙ rw (pow-suc 10 k) (grind arith)

-- a power of ten above 1 is even
pub half_power : (k : ℕ) → 0 < k → 2 * (10 ^ k / 2) ≡ 10 ^ k
half_power zero h = absurd (omega arith)
half_power (suc k) h =
    let two : 0 < 2 = lit< tt in
    let even : 10 ^ suc k ≡ 5 * 10 ^ k * 2 = rw (pow-suc 10 k) (grind arith) in
    let half : 10 ^ suc k / 2 ≡ 5 * 10 ^ k = ap (λ n. n / 2) even ∙ mul-div_cancel (5 * 10 ^ k) two in
    ap (λ n. 2 * n) half ∙ (grind arith ∙ sym even)
