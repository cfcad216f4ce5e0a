-- The size of a number from what is kept of it.
-- For `leading_number`, `plain_len`, `plain_number`, `read_fixed` and `write_fixed`.
use Rattle.std.proofs.Common.{◌≡◌, ℕ, zero, suc, ◌+◌, ◌-◌, ◌*◌, ◌^◌, ◌<◌, ◌≤◌, ◌⊎◌, inl, inr, Bool, true, cond, nat_lt, Option, Result, Ok, Err, refl, sym, ◌∙◌, ap, subst, arith, lit<}
use Rattle.std.proofs.lemmas.Nat.{pow-add}
use Rattle.std.proofs.lemmas.Bool.{cases_lt, lt-ltb}
use Rattle.std.proofs.lemmas.Bool.Decides.{nat_tests}
use Rattle.std.proofs.Math.Nat.{mul-le-mul_right, pow-le-pow_right, mul-lt-mul_of_pos_right, le-mul_of_pos_right, mul-pos, one-le-pow, mul_assoc}
use Rattle.at_fixed.specs.declared.rounding.Coords.{Coords}
use Rattle.at_fixed.specs.declared.rounding.FixedFault.{FixedFault}
use Rattle.at_fixed.specs.declared.rounding.FixedFault.TheVariants.{Range}
use Rattle.at_fixed.specs.Numerals.{Exponent}
use Rattle.at_fixed.specs.Fixed.{largest, quotient, size_of, exponent_above, exponent_below}
use Rattle.at_fixed.specs.NumberSoFar.{Keeps, huge, SameOrHuge}
use Rattle.at_fixed.proofs.Quotients.{far_above, whole_quotient}

ten : 0 < 10
ten = lit< tt

pub pow_positive : (k : ℕ) → 0 < 10 ^ k
pow_positive k = one-le-pow k 10 ten

-- a number is at least 1, or nothing
pub size_positive : (how : Coords) (m a b : ℕ) → 0 < m → size_of how m a b ≡ quotient how (m * 10 ^ a) (10 ^ b)
size_positive how m a b h = grind arith

spread : (K R D A : ℕ) → (K * D + R) * A ≡ K * (D * A) + R * A
spread K R D A = grind arith

powers : (A d k : ℕ) → 10 ^ (A + d + k) ≡ 10 ^ k * (10 ^ d * 10 ^ A)
powers A d k = pow-add 10 (A + d) k ∙ (ap (λ n. n * 10 ^ k) (pow-add 10 A d) ∙ grind arith)

-- the fraction over the places that the dropped digits and the exponent fill
pub near_by : (how : Coords) (K R d A B k : ℕ) → B ≡ A + d + k
    → quotient how (K * (10 ^ d * 10 ^ A) + R * 10 ^ A) (10 ^ k * (10 ^ d * 10 ^ A)) ≡ quotient how ((K * 10 ^ d + R) * 10 ^ A) (10 ^ B)
near_by how K R d A B k e = rw (e, powers A d k, spread K R (10 ^ d) (10 ^ A)) refl

pub rest_below : (R d A : ℕ) → R < 10 ^ d → R * 10 ^ A < 10 ^ d * 10 ^ A
rest_below R d A h = mul-lt-mul_of_pos_right h (pow_positive A)

pub rest_some : (R A : ℕ) → nat_lt 0 (R * 10 ^ A) ≡ nat_lt 0 R
rest_some R A = let more : 0 < R → 0 < R * 10 ^ A = λ some. mul-pos some (pow_positive A) in grind (arith, nat_tests)

-- a number with twenty places less than its denominator is below a half
pub tiny : (K R d A B : ℕ) → K < 10 ^ 19 → R < 10 ^ d → A + d + 20 ≤ B → 2 * ((K * 10 ^ d + R) * 10 ^ A) < 10 ^ B
tiny K R d A B h k l =
    let X : ℕ = 10 ^ d * 10 ^ A in
    let p : (K * 10 ^ d + R) * 10 ^ A ≡ K * X + R * 10 ^ A = spread K R (10 ^ d) (10 ^ A) in
    let more : K * X + X ≤ 10 ^ 19 * X = grind (arith, mul-le-mul_right X h) in
    let top : 10 ^ 20 * X ≤ 10 ^ B = subst (λ n. n ≤ 10 ^ B) (powers A d 20) (pow-le-pow_right ten l) in
    omega (arith, p, more, top, rest_below R d A k)

-- a number with fifteen places more than its denominator is beyond the largest
pub vast : (K R d A B s : ℕ) → 10 ^ s ≤ K → B + 15 ≤ s + (d + A) → (largest + 1) * 10 ^ B ≤ (K * 10 ^ d + R) * 10 ^ A
vast K R d A B s h k =
    let X : ℕ = 10 ^ d * 10 ^ A in
    let p : (K * 10 ^ d + R) * 10 ^ A ≡ K * X + R * 10 ^ A = spread K R (10 ^ d) (10 ^ A) in
    let less : 10 ^ s * X ≤ K * X = mul-le-mul_right X h in
    let top : 10 ^ (s + (d + A)) ≡ 10 ^ s * X = pow-add 10 s (d + A) ∙ ap (λ n. 10 ^ s * n) (pow-add 10 d A) in
    let bottom : 10 ^ (B + 15) ≡ 10 ^ B * 10 ^ 15 = pow-add 10 B 15 in
    omega (arith, p, less, top, bottom, pow-le-pow_right ten k)

pub vast_kept : (K E s : ℕ) → 10 ^ s ≤ K → 15 ≤ s + E → nat_lt largest (K * 10 ^ E) ≡ true
vast_kept K E s h k =
    let top : 10 ^ (s + E) ≡ 10 ^ s * 10 ^ E = pow-add 10 s E in
    let least : 10 ^ 15 ≤ 10 ^ (s + E) = pow-le-pow_right ten k in
    lt-ltb largest (K * 10 ^ E) (omega (arith, top, least, mul-le-mul_right (10 ^ E) h))

-- ---- the size of a number

-- an exponent is 0 on one side
pub one_side : (e : Option Exponent) → (exponent_above e ≡ 0) ⊎ (exponent_below e ≡ 0)
one_side e = grind arith

-- the size from what is kept, by the powers of ten above and below the fraction
pub record Sized (K d : ℕ) (cut : Bool) (M digits f above below A B : ℕ) : Type 0 where
  pub keeps : Keeps K d cut M
  pub positive : 0 < K
  pub above_is : SameOrHuge above A
  pub below_is : SameOrHuge below B
  pub one_side : (A ≡ 0) ⊎ (B ≡ 0)
  pub few_dropped : d ≤ 2 ^ 28
  pub few_digits : f ≤ 2 ^ 28
  pub few_places : digits < 256

-- where one side is huge the other is nothing
nothing : (kept size : ℕ) → SameOrHuge kept size → size ≡ 0 → kept ≡ 0
nothing kept size h k = grind arith

-- both exponents are kept, or one is huge and the other nothing
data Side (above below A B : ℕ) : Type 0 where
  both_kept : above ≡ A → below ≡ B → Side above below A B
  above_huge : huge ≤ above → huge ≤ A → below ≡ 0 → B ≡ 0 → Side above below A B
  below_huge : huge ≤ below → huge ≤ B → above ≡ 0 → A ≡ 0 → Side above below A B

side_by : (above below A B : ℕ) → SameOrHuge above A → SameOrHuge below B → (A ≡ 0) ⊎ (B ≡ 0) → Side above below A B
side_by above below A B h k l = grind arith

raised : (K B E : ℕ) → K * 10 ^ (B + E) ≡ K * 10 ^ E * 10 ^ B
raised K B E = ap (λ n. K * n) (pow-add 10 B E) ∙ grind arith

out_by : (how : Coords) (K d R M A B E s : ℕ) → M ≡ K * 10 ^ d + R → 10 ^ s ≤ K → 15 ≤ s + E → B + 15 ≤ s + (d + A)
    → cond (nat_lt largest (K * 10 ^ E)) (Err Range) (Ok (K * 10 ^ E)) ≡ quotient how (M * 10 ^ A) (10 ^ B)
out_by how K d R M A B E s h k l m = grind (arith, vast_kept, far_above, pow_positive, vast)

least_kept : (K d R M : ℕ) → M ≡ K * 10 ^ d + R → 0 < K → 0 < M
least_kept K d R M e h = omega (arith, e, le-mul_of_pos_right K (pow_positive d), h)

none_left : (K R M : ℕ) → M ≡ K * 10 ^ 0 + R → R < 10 ^ 0 → M ≡ K
none_left K R M e h = omega (arith, e, h)

whole_by : (how : Coords) (K M A B E : ℕ) → M ≡ K → A ≡ B + E
    → cond (nat_lt largest (K * 10 ^ E)) (Err Range) (Ok (K * 10 ^ E)) ≡ quotient how (M * 10 ^ A) (10 ^ B)
whole_by how K M A B E e f = rw (e, f, raised K B E) (sym (whole_quotient how (K * 10 ^ E) (10 ^ B) (pow_positive B)))

kept_up : (how : Coords) (K d R M A B E : ℕ) → M ≡ K * 10 ^ d + R → R < 10 ^ d → (0 < d → 10 ^ 18 ≤ K) → d + A ≡ B + E
    → cond (nat_lt largest (K * 10 ^ E)) (Err Range) (Ok (K * 10 ^ E)) ≡ quotient how (M * 10 ^ A) (10 ^ B)
kept_up how K zero R M A B E split small full e = whole_by how K M A B E (none_left K R M split small) (omega (arith, e))
kept_up how K (suc d) R M A B E split small full e = out_by how K (suc d) R M A B E 18 split (full (omega arith)) (omega arith) (omega (arith, e))

-- the size where the powers of ten above are at least those below
pub sized_up : (how : Coords) (K d M digits f above below A B : ℕ) (cut : Bool) → Sized K d cut M digits f above below A B
    → f + below ≤ d + above + digits
    → (let n = K * 10 ^ (d + above + digits - (f + below)) in cond (nat_lt largest n) (Err Range) (Ok n)) ≡ size_of how M (digits + A) (f + B)
sized_up how K d M digits f above below A B cut h order =
    let E : ℕ = d + above + digits - (f + below) in
    let k = h.keeps in
    let main : cond (nat_lt largest (K * 10 ^ E)) (Err Range) (Ok (K * 10 ^ E)) ≡ quotient how (M * 10 ^ (digits + A)) (10 ^ (f + B)) =
    (elim (side_by above below A B h.above_is h.below_is h.one_side) [
      | both_kept e g ↦ kept_up how K d k.rest M (digits + A) (f + B) E k.split k.small k.full (omega (arith, e, g, order))
      | above_huge a b e g ↦ out_by how K d k.rest M (digits + A) (f + B) E 0 k.split h.positive
          (omega (arith, a, e, h.few_digits)) (omega (arith, b, g, h.few_digits))
      | below_huge a b e g ↦ absurd (omega (arith, a, e, order, h.few_dropped, h.few_places))
    ]) in
    main ∙ sym (size_positive how M (digits + A) (f + B) (least_kept K d k.rest M k.split h.positive))

far_down : (how : Coords) (K d R M A B : ℕ) (answer : Result ℕ FixedFault) → M ≡ K * 10 ^ d + R → R < 10 ^ d → K < 10 ^ 19 → 0 < M → A + d + 20 ≤ B
    → ((p q : ℕ) → 0 < p → 2 * p < q → answer ≡ quotient how p q) → answer ≡ quotient how (M * 10 ^ A) (10 ^ B)
far_down how K d R M A B answer h k l m n r = grind (arith, mul-pos, pow_positive, tiny)

near_down : (how : Coords) (K d R M A B k : ℕ) (cut : Bool) (answer : Result ℕ FixedFault) → M ≡ K * 10 ^ d + R → R < 10 ^ d → cut ≡ nat_lt 0 R → B ≡ A + d + k
    → ((unit rest : ℕ) → rest < unit → cut ≡ nat_lt 0 rest → answer ≡ quotient how (K * unit + rest) (10 ^ k * unit)) → answer ≡ quotient how (M * 10 ^ A) (10 ^ B)
near_down how K d R M A B k cut answer split small e h near =
    near (10 ^ d * 10 ^ A) (R * 10 ^ A) (rest_below R d A small) (e ∙ sym (rest_some R A))
    ∙ (near_by how K R d A B k h ∙ ap (λ n. quotient how (n * 10 ^ A) (10 ^ B)) (sym split))

-- the size where the powers of ten below are more than those above
pub sized_down : (how : Coords) (K d M digits f above below A B : ℕ) (cut : Bool) (answer : Result ℕ FixedFault) → Sized K d cut M digits f above below A B
    → d + above + digits < f + below
    → (f + below - (d + above + digits) < 20 → (unit rest : ℕ) → rest < unit → cut ≡ nat_lt 0 rest
    → answer ≡ quotient how (K * unit + rest) (10 ^ (f + below - (d + above + digits)) * unit))
    → (20 ≤ f + below - (d + above + digits) → (p q : ℕ) → 0 < p → 2 * p < q → answer ≡ quotient how p q)
    → answer ≡ size_of how M (digits + A) (f + B)
sized_down how K d M digits f above below A B cut answer h order near far =
    let k : ℕ = f + below - (d + above + digits) in
    let s = h.keeps in
    let positive : 0 < M = least_kept K d s.rest M s.split h.positive in
    let main : answer ≡ quotient how (M * 10 ^ (digits + A)) (10 ^ (f + B)) =
    (elim (side_by above below A B h.above_is h.below_is h.one_side) [
      | both_kept e g ↦ elim (cases_lt k 20) [
        | inl few ↦ near_down how K d s.rest M (digits + A) (f + B) k cut answer s.split s.small s.cut (omega (arith, e, g, order)) (near few)
        | inr many ↦ far_down how K d s.rest M (digits + A) (f + B) answer s.split s.small s.fits positive (omega (arith, e, g, order, many)) (far many)
      ]
      | above_huge a b e g ↦ absurd (omega (arith, a, e, order, h.few_digits))
      | below_huge a b e g ↦ far_down how K d s.rest M (digits + A) (f + B) answer s.split s.small s.fits positive
          (omega (arith, b, g, h.few_dropped, h.few_places)) (far (omega (arith, a, e, h.few_dropped, h.few_places)))
    ]) in
    main ∙ sym (size_positive how M (digits + A) (f + B) positive)

-- 3 * 10 ^ 14 with its zeros parted in two
pub limit_by : (s : ℕ) → s ≤ 14 → 3 * 10 ^ (14 - s) * 10 ^ s ≡ largest
limit_by s h =
    let all : 14 - s + s ≡ 14 = omega arith in
    let both : 10 ^ (14 - s) * 10 ^ s ≡ 10 ^ 14 = sym (pow-add 10 (14 - s) s) ∙ ap (λ n. 10 ^ n) all in
    mul_assoc 3 (10 ^ (14 - s)) (10 ^ s) ∙ ap (λ n. 3 * n) both

pub above_limit : (K s : ℕ) → s ≤ 14 → 3 * 10 ^ (14 - s) < K → nat_lt largest (K * 10 ^ s) ≡ true
above_limit K s h k = lt-ltb largest (K * 10 ^ s) (subst (λ n. n < K * 10 ^ s) (limit_by s h) (mul-lt-mul_of_pos_right k (pow_positive s)))

pub within_limit : (K s : ℕ) → s ≤ 14 → K ≤ 3 * 10 ^ (14 - s) → K * 10 ^ s ≤ largest
within_limit K s h k = subst (λ n. K * 10 ^ s ≤ n) (limit_by s h) (mul-le-mul_right (10 ^ s) k)
