-- The whole number of a fraction, exact or rounded, found from a part of its digits: what is left of them only has to be known
-- to be nothing or not.
-- For `leading_number`, `plain_len`, `plain_number`, `read_fixed` and `write_fixed`.
use Rattle.std.proofs.Common.{◌≡◌, ℕ, ◌+◌, ◌*◌, ◌/◌, ◌%◌, ◌<◌, ◌≤◌, Bool, cond, nat_lt, ◌==◌, ◌||◌, ◌&&◌, not, Result, Ok, Err, refl, sym, ◌∙◌, ap, subst, arith, mod-lt, div-add-mod'}
use Rattle.std.proofs.lemmas.Nat.{div-mul-add, mod-mul-add, mul-add-lt, le-div}
use Rattle.std.proofs.lemmas.Bool.{le-ltb, lt-ltb, ne_eqb}
use Rattle.std.proofs.lemmas.Bool.Decides.{nat_tests}
use Rattle.std.proofs.Math.Nat.{mul-le-mul_right, mul_comm}
use Rattle.at_fixed.specs.declared.rounding.Coords.{Coords}
use Rattle.at_fixed.specs.declared.rounding.Coords.TheVariants.{Exact, Round}
use Rattle.at_fixed.specs.declared.rounding.FixedFault.{FixedFault}
use Rattle.at_fixed.specs.declared.rounding.FixedFault.TheVariants.{Scale, Range}
use Rattle.at_fixed.specs.Fixed.{largest, exact_quotient, nearest, rounded_quotient, quotient}

-- the shape of an exact answer, whatever its numbers
abbrev exact_shape : Bool → Bool → ℕ → Result ℕ FixedFault
exact_shape out whole n = cond out (Err Range) (cond whole (Ok n) (Err Scale))

abbrev range_shape : Bool → ℕ → Result ℕ FixedFault
range_shape out n = cond out (Err Range) (Ok n)

-- d whole times q and a rest
abbrev IsSplit : ℕ → ℕ → ℕ → ℕ → Type 0
IsSplit p q d rest = (p / q ≡ d) × (p % q ≡ rest)

split_at : (d q rest : ℕ) → rest < q → IsSplit (d * q + rest) q d rest
split_at d q rest h = (div-mul-add d q rest h, mod-mul-add d q rest h)

exact_by : (p q d rest : ℕ) (out whole : Bool) → IsSplit p q d rest → nat_lt (largest * q) p ≡ out → (rest == 0) ≡ whole
    → exact_quotient p q ≡ exact_shape out whole d
exact_by p q d rest out whole (e, f) g h = rw (exact_quotient, g, f, h, e) refl

nearest_by : (p q d rest : ℕ) (over tie : Bool) → IsSplit p q d rest → nat_lt q (2 * rest) ≡ over → (2 * rest == q) ≡ tie
    → nearest p q ≡ cond over (d + 1) (cond tie (d + d % 2) d)
nearest_by p q d rest over tie (e, f) g h = rw (nearest, f, e, g, h) refl

pub rounded_by : (p q n : ℕ) → nearest p q ≡ n → rounded_quotient p q ≡ range_shape (nat_lt largest n) n
rounded_by p q n e = rw (rounded_quotient, e) refl

-- whether d times q and a rest is more than `most` times q
above_by : (most d q rest : ℕ) → rest < q → nat_lt (most * q) (d * q + rest) ≡ (nat_lt most d || ((d == most) && nat_lt 0 rest))
above_by most d q rest h =
    let more : most < d → most * q + q ≤ d * q = λ less. grind (arith, mul-le-mul_right q less) in
    let fewer : d < most → d * q + q ≤ most * q = λ less. grind (arith, mul-le-mul_right q less) in
    grind (arith, nat_tests)

-- ---- far away

small_split : (p q : ℕ) → p < q → IsSplit p q 0 p
small_split p q h = let zero : 0 * q + p ≡ p = omega arith in subst (λ x. IsSplit x q 0 p) zero (split_at 0 q p h)

-- a fraction below a half that isn't 0
pub far_below : (how : Coords) (p q : ℕ) → 0 < p → 2 * p < q → quotient how p q ≡ (elim how [ Exact ↦ Err Scale | Round ↦ Ok 0 ])
far_below how p q h k = grind (arith, exact_by, small_split, le-ltb, ne_eqb, rounded_by, nearest_by)

-- a whole number
pub whole_quotient : (how : Coords) (n q : ℕ) → 0 < q → quotient how (n * q) q ≡ range_shape (nat_lt largest n) n
whole_quotient how n q h = grind arith

nearest_least : (p q : ℕ) → p / q ≤ nearest p q
nearest_least p q = grind (arith, nat_tests)

-- a fraction beyond the largest
pub far_above : (how : Coords) (p q : ℕ) → 0 < q → (largest + 1) * q ≤ p → quotient how p q ≡ Err Range
far_above Exact p q positive h = rw (exact_quotient, lt-ltb (largest * q) p (omega arith)) refl
far_above Round p q positive h =
    let low : largest + 1 ≤ p / q = le-div (largest + 1) p q positive h in
    rounded_by p q (nearest p q) refl ∙ ap (λ b. range_shape b (nearest p q)) (lt-ltb largest (nearest p q) (omega (arith, low, nearest_least p q)))

-- ---- near

turned : (out some : Bool) (n : ℕ) → exact_shape out (not some) n ≡ cond out (Err Range) (cond some (Err Scale) (Ok n))
turned out some n = grind (arith, nat_tests)

-- the exact number of a fraction with the whole part d and a rest of its own, where `cut` says that there is such a rest
pub exact_near : (d q rest : ℕ) (cut : Bool) → rest < q → cut ≡ nat_lt 0 rest
    → exact_quotient (d * q + rest) q ≡ cond (nat_lt largest d || ((d == largest) && cut)) (Err Range) (cond cut (Err Scale) (Ok d))
exact_near d q rest cut h k = grind arith

parity : (d : ℕ) → d + d % 2 ≡ cond (d % 2 == 1) (d + 1) d
parity d = grind (arith, nat_tests)

tie_by : (half r D R : ℕ) → R < D → (2 * (r * D + R) == 2 * half * D) ≡ ((r == half) && not (nat_lt 0 R))
tie_by half r D R h =
    let more : half < r → half * D + D ≤ r * D = λ less. grind (arith, mul-le-mul_right D less) in
    let fewer : r < half → r * D + D ≤ half * D = λ less. grind (arith, mul-le-mul_right D less) in
    grind (arith, nat_tests)

over_by : (half r D R : ℕ) → R < D → nat_lt (2 * half * D) (2 * (r * D + R)) ≡ (nat_lt half r || ((r == half) && nat_lt 0 R))
over_by half r D R h =
    let double : nat_lt (2 * half * D) (2 * (r * D + R)) ≡ nat_lt (half * D) (r * D + R) = grind (arith, nat_tests) in
    double ∙ above_by half r D R h

chosen : (more same some odd : Bool) (d m : ℕ) → d + m ≡ cond odd (d + 1) d
    → cond (more || (same && some)) (d + 1) (cond (same && not some) (d + m) d) ≡ cond (more || (same && (some || odd))) (d + 1) d
chosen more same some odd d m e = grind (arith, nat_tests)

-- the number nearest to a fraction with the whole part d and the rest r of 2 * half, behind which `cut` says that there is more
pub rounded_near : (d r half D R : ℕ) (cut : Bool) → r < 2 * half → R < D → cut ≡ nat_lt 0 R
    → rounded_quotient ((d * (2 * half) + r) * D + R) (2 * half * D)
    ≡ (let n = cond (nat_lt half r || ((r == half) && (cut || (d % 2 == 1)))) (d + 1) d in cond (nat_lt largest n) (Err Range) (Ok n))
rounded_near d r half D R cut h k e =
    let q = 2 * half * D in let rest = r * D + R in
    let p : (d * (2 * half) + r) * D + R ≡ d * (2 * half * D) + (r * D + R) = grind arith in
    let below : r * D + R < 2 * half * D = subst (λ n. r * D + R < n) (mul_comm D (2 * half)) (mul-add-lt r D R (2 * half) h k) in
    rw e (rounded_by ((d * (2 * half) + r) * D + R) (2 * half * D) (cond (nat_lt half r || ((r == half) && (nat_lt 0 R || (d % 2 == 1)))) (d + 1) d)
    (rw p (nearest_by (d * q + rest) q d rest (nat_lt half r || ((r == half) && nat_lt 0 R)) ((r == half) && not (nat_lt 0 R)) (split_at d q rest below) (over_by half r D R k) (tie_by half r D R k)
    ∙ chosen (nat_lt half r) (r == half) (nat_lt 0 R) (d % 2 == 1) d (d % 2) (parity d))))

some_of : (r D R : ℕ) → R < D → (nat_lt 0 R || nat_lt 0 r) ≡ nat_lt 0 (r * D + R)
some_of r D R h = grind arith

divided : (K Q D R : ℕ) → K * D + R ≡ (K / Q) * (Q * D) + ((K % Q) * D + R)
divided K Q D R = grind arith

rest_fits : (K Q D R : ℕ) → 0 < Q → R < D → (K % Q) * D + R < Q * D
rest_fits K Q D R positive h = subst (λ n. (K % Q) * D + R < n) (mul_comm D Q) (mul-add-lt (K % Q) D R Q (mod-lt K positive) h)

-- the exact number of a fraction from the quotient of what is kept of it
pub reduced_exact : (K Q D R : ℕ) (cut : Bool) → 0 < Q → R < D → cut ≡ nat_lt 0 R
    → exact_quotient (K * D + R) (Q * D)
    ≡ (let some = cut || nat_lt 0 (K % Q) in cond (nat_lt largest (K / Q) || ((K / Q == largest) && some)) (Err Range) (cond some (Err Scale) (Ok (K / Q))))
reduced_exact K Q D R cut positive h e =
    let some : (cut || nat_lt 0 (K % Q)) ≡ nat_lt 0 ((K % Q) * D + R) = ap (λ b. b || nat_lt 0 (K % Q)) e ∙ some_of (K % Q) D R h in
    ap (λ n. exact_quotient n (Q * D)) (divided K Q D R)
    ∙ exact_near (K / Q) (Q * D) ((K % Q) * D + R) (cut || nat_lt 0 (K % Q)) (rest_fits K Q D R positive h) some

reduced_half : (K half D R : ℕ) (cut : Bool) → 0 < half → R < D → cut ≡ nat_lt 0 R
    → rounded_quotient (K * D + R) (2 * half * D)
    ≡ (let Q = 2 * half in let n = cond (nat_lt half (K % Q) || ((K % Q == half) && (cut || ((K / Q) % 2 == 1)))) (K / Q + 1) (K / Q) in
    cond (nat_lt largest n) (Err Range) (Ok n))
reduced_half K half D R cut positive h e =
    let Q : ℕ = 2 * half in let some : 0 < 2 * half = omega arith in
    let split : K ≡ K / Q * Q + K % Q = sym (div-add-mod' K Q) in
    ap (λ n. rounded_quotient (n * D + R) (2 * half * D)) split
    ∙ rounded_near (K / Q) (K % Q) half D R cut (mod-lt K some) h e

-- the number nearest to a fraction from the quotient of what is kept of it
pub reduced_rounded : (K Q half D R : ℕ) (cut : Bool) → 2 * half ≡ Q → 0 < half → R < D → cut ≡ nat_lt 0 R
    → rounded_quotient (K * D + R) (Q * D)
    ≡ (let n = cond (nat_lt half (K % Q) || ((K % Q == half) && (cut || ((K / Q) % 2 == 1)))) (K / Q + 1) (K / Q) in
    cond (nat_lt largest n) (Err Range) (Ok n))
reduced_rounded K Q half D R cut h k l m = grind (arith, reduced_half)
