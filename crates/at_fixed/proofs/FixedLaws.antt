-- The value of a number without division: what each answer says by products alone.
-- For `read_fixed`.
use Rattle.std.proofs.Common.{◌≡◌, ℕ, ◌+◌, ◌*◌, ◌/◌, ◌%◌, ◌<◌, ◌≤◌, Bool, true, false, cond, nat_lt, ◌==◌, Result, Ok, Err, refl, sym, arith, div-add-mod', mod-lt, mul-le-mul_right, one-mul, lit<}
use Rattle.std.proofs.lemmas.Bool.{eqb-true, eqb-false, ltb-false, ltb-true}
use Rattle.at_fixed.specs.declared.rounding.FixedFault.{FixedFault}
use Rattle.at_fixed.specs.declared.rounding.FixedFault.TheVariants.{Scale, Range}
use Rattle.at_fixed.specs.declared.rounding.Coords.{Coords}
use Rattle.at_fixed.specs.Numerals.{Numeral}
use Rattle.at_fixed.specs.Fixed.{largest, exact_quotient, nearest, quotient, size_of, fixed_of}
use Rattle.at_fixed.specs.Products.{IsExact, IsNearest, IsRounded, IsQuotient, IsSize, IsValue}
use Rattle.at_fixed.proofs.Sizes.{pow_positive}

abbrev ok_or_zero : Result ℕ FixedFault → ℕ
ok_or_zero (Ok n) = n
ok_or_zero (Err e) = 0

-- what the two tests of an exact value say
exact_by : (p q : ℕ) (out whole : Bool) → nat_lt (largest * q) p ≡ out → (p % q == 0) ≡ whole
    → IsExact p q (cond out (Err Range) (cond whole (Ok (p / q)) (Err Scale)))
exact_by p q out whole h k = grind arith

pub exact_quotient_means : (p q : ℕ) → IsExact p q (exact_quotient p q)
exact_quotient_means p q = exact_by p q (nat_lt (largest * q) p) (p % q == 0) refl refl

even_next' : (d : ℕ) → (d + d % 2) % 2 ≡ 0
even_next' d = grind arith

more_than_half : (p q d m : ℕ) → p ≡ d * q + m → m < q → q < 2 * m → IsNearest p q (d + 1)
more_than_half p q d m h k l = grind arith

less_than_half : (p q d m : ℕ) → p ≡ d * q + m → 2 * m < q → IsNearest p q d
less_than_half p q d m h k = grind arith

half : (p q d m n : ℕ) → p ≡ d * q + m → 2 * m ≡ q → n * q ≤ q → (d + n) % 2 ≡ 0 → IsNearest p q (d + n)
half p q d m n h k l r = grind arith

nearest_by : (p q : ℕ) → 0 < q → (over at_half : Bool) → nat_lt q (2 * (p % q)) ≡ over → (2 * (p % q) == q) ≡ at_half
    → IsNearest p q (cond over (p / q + 1) (cond at_half (p / q + (p / q) % 2) (p / q)))
nearest_by p q positive true at_half h k = more_than_half p q (p / q) (p % q) (sym (div-add-mod' p q)) (mod-lt p positive) (ltb-true q (2 * (p % q)) h)
nearest_by p q positive false true h k =
    let two : 0 < 2 = lit< tt in let below : (p / q) % 2 < 2 = mod-lt (p / q) two in let bit : (p / q) % 2 ≤ 1 = omega (arith, below) in
    half p q (p / q) (p % q) ((p / q) % 2) (sym (div-add-mod' p q)) (eqb-true (2 * (p % q)) q k) (grind (arith, mul-le-mul_right q bit, one-mul q)) (even_next' (p / q))
nearest_by p q positive false false h k = less_than_half p q (p / q) (p % q) (sym (div-add-mod' p q))
    (omega (arith, ltb-false q (2 * (p % q)) h, eqb-false (2 * (p % q)) q k))

pub nearest_means : (p q : ℕ) → 0 < q → IsNearest p q (nearest p q)
nearest_means p q positive = nearest_by p q positive (nat_lt q (2 * (p % q))) (2 * (p % q) == q) refl refl

rounded_by : (n p q : ℕ) (out : Bool) → IsNearest p q n → nat_lt largest n ≡ out → IsRounded p q (cond out (Err Range) (Ok n))
rounded_by n p q out h k = grind arith

quotient_means : (how : Coords) (p q : ℕ) → 0 < q → IsQuotient how p q (quotient how p q)
quotient_means how p q h = grind (arith, exact_quotient_means, rounded_by, nearest_means)

size_means : (how : Coords) (m a b : ℕ) → IsSize how m a b (size_of how m a b)
size_means how m a b = grind (arith, quotient_means, pow_positive)

-- the value of a number says what its products say
pub value_means : (n : Numeral) (digits : ℕ) (how : Coords) → IsValue n digits how (fixed_of n digits how)
value_means n digits how = grind (arith, size_means)
