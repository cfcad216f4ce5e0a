-- Numbers that surely have a value.
-- For `leading_number`, `plain_len` and `plain_number`.
use Rattle.std.proofs.Common.{◌≡◌, ℕ, zero, suc, ◌+◌, ◌-◌, ◌*◌, ◌/◌, ◌%◌, ◌^◌, ◌<◌, ◌≤◌, ◌⊎◌, inl, inr, pos, neg_ℤ, if◌then◌else◌, Bool, cond, nat_lt, ◌==◌, ◌||◌, ◌&&◌, ℤ, None, Result, Ok, Err, List, ◌++◌, length, take, refl, sym, ap, ◌∙◌, subst, arith, lit<, pow-add, append-nil}
use Rattle.std.proofs.Math.Nat.{div-lt_iff_lt-mul, mul-pos}
use Rattle.std.proofs.lemmas.Bool.{cases_eq, le-ltb}
use Rattle.std.proofs.lemmas.Bool.Decides.{nat_tests}
use Rattle.at_fixed.specs.declared.notation.Notation.{Notation}
use Rattle.at_fixed.specs.declared.rounding.Coords.{Coords}
use Rattle.at_fixed.specs.declared.rounding.Coords.TheVariants.{Exact, Round}
use Rattle.at_fixed.specs.declared.rounding.FixedFault.{FixedFault}
use Rattle.at_fixed.specs.declared.rounding.FixedFault.TheVariants.{Range}
use Rattle.at_fixed.specs.declared.scanning.Mantissa.{Mantissa}
use Rattle.at_fixed.specs.declared.short_numbers.Whole.{Whole}
use Rattle.at_fixed.specs.Numerals.{Numeral, fraction_text, numeral_text, IsNumeralOf}
use Rattle.at_fixed.specs.Fixed.{has_minus, largest, nearest, quotient, size_of, signed, fixed_of, mantissa, exponent_above, exponent_below, fraction_digits}
use Rattle.at_fixed.specs.NumberSoFar.{Keeps}
use Rattle.at_fixed.specs.Scans.{IsKeptFront, IsSizedIn, IsTenth, SurelyFits}
use Rattle.at_fixed.proofs.DigitParts.{none_dropped, room_more}
use Rattle.at_fixed.proofs.Endings.{numeral_by}
use Rattle.at_fixed.proofs.Quotients.{reduced_rounded, rounded_by, whole_quotient}
use Rattle.at_fixed.proofs.Sizes.{near_by, pow_positive, rest_below, rest_some}

nearest_most : (p q : ℕ) → nearest p q ≤ p / q + 1
nearest_most p q = grind (arith, nat_tests)

top : (m e a b : ℕ) → m < 10 ^ e → e + a ≤ 14 + b → m * 10 ^ a < 10 ^ 14 * 10 ^ b
top m e a b small few =
    let most : m * 10 ^ a < 10 ^ e * 10 ^ a = grind (arith, small, pow_positive a) in
    let sum : 10 ^ e * 10 ^ a ≡ 10 ^ (e + a) = sym (pow-add 10 e a) in
    let all : 10 ^ 14 * 10 ^ b ≡ 10 ^ (14 + b) = sym (pow-add 10 14 b) in
    let P : ℕ → Type 0 = λ n. m * 10 ^ a < n in
    subst P (sym all) (room_more (m * 10 ^ a) (e + a) (14 + b) (subst P sum most) few)

-- the size of a number of so many digits with so many zeros behind them
pub sized_most : (m e a power : ℕ) → power ≡ 10 ^ a → m < 10 ^ e → e + a ≤ 14 → m * power < 10 ^ 14
sized_most m e a power is small few =
    let below : m * 10 ^ a < 10 ^ 14 * 10 ^ 0 = top m e a 0 small (omega (arith, few)) in omega (arith, below, ap (λ n. m * n) is)

-- the size of a number, b of whose digits stand behind the point, which is whole
pub whole_ok : (how : Coords) (m a b : ℕ) → b ≤ a → m * 10 ^ (a - b) ≤ largest → size_of how m a b ≡ Ok (m * 10 ^ (a - b))
whole_ok how zero a b whole near = let none : 0 ≡ 0 * 10 ^ (a - b) = omega arith in ap Ok none
whole_ok how (suc m) a b whole near =
    let n : ℕ = suc m * 10 ^ (a - b) in let q : ℕ = 10 ^ b in
    let back : (a - b) + b ≡ a = omega (arith, whole) in
    let split : suc m * 10 ^ a ≡ n * q = ap (λ k. suc m * 10 ^ k) (sym back) ∙ rw (pow-add 10 (a - b) b) (grind arith) in
    ap (λ k. quotient how k q) split ∙ (whole_quotient how n q (pow_positive b) ∙ ap (λ z. cond z (Err Range) (Ok n)) (le-ltb largest n near))

-- a number that is 0 is rounded to 0
none_sized : (K s : ℕ) (up : Bool) (more : Bool) → K ≡ 0 → (nat_lt 5 (K % 10) || ((K % 10 == 5) && more)) ≡ up → s ≡ cond up (K / 10 + 1) (K / 10) → s ≡ 0
none_sized K s up more none h size = grind (arith, nat_tests)

-- a number rounded by the first digit that isn't kept, behind which further digits stand that spell R
rounded_ok : (m K R k d f s : ℕ) (up : Bool) → m ≡ K * 10 ^ k + R → R < 10 ^ k → f ≡ d + k + 1
    → (nat_lt 5 (K % 10) || ((K % 10 == 5) && (nat_lt 0 R || ((K / 10) % 2 == 1)))) ≡ up → s ≡ cond up (K / 10 + 1) (K / 10) → s ≤ largest → size_of Round m d f ≡ Ok s
rounded_ok zero K R k d f s up is small places h size bound =
    elim (cases_eq K 0) [
      | inl none ↦ ap Ok (sym (none_sized K s up (nat_lt 0 R || ((K / 10) % 2 == 1)) none h size))
      | inr some ↦ absurd (let positive : 0 < K = omega (arith, some) in let more : 0 < K * 10 ^ k = mul-pos positive (pow_positive k) in omega (arith, is, more))
    ]
rounded_ok (suc m) K R k d f s up is small places h size bound =
    let n : ℕ = cond (nat_lt 5 (K % 10) || ((K % 10 == 5) && (nat_lt 0 R || ((K / 10) % 2 == 1)))) (K / 10 + 1) (K / 10) in
    let same : n ≡ s = ap (λ u. cond u (K / 10 + 1) (K / 10)) h ∙ sym size in
    ap (λ z. quotient Round (z * 10 ^ d) (10 ^ f)) is
    ∙ (sym (near_by Round K R k d f 1 places)
    ∙ (reduced_rounded K 10 5 (10 ^ k * 10 ^ d) (R * 10 ^ d) (nat_lt 0 R) refl (lit< tt) (rest_below R k d small) (sym (rest_some R d))
    ∙ (ap (λ z. cond (nat_lt largest z) (Err Range) (Ok z)) same ∙ ap (λ z. cond z (Err Range) (Ok s)) (le-ltb largest s bound))))

-- a number is rounded up from a 5 on, where something stands behind the 5
up_from_five : (r R : ℕ) (odd : Bool) → (r ≡ 5 → 0 < R) → (nat_lt 5 r || ((r == 5) && (nat_lt 0 R || odd))) ≡ nat_lt 4 r
up_from_five r R odd some = grind (arith, nat_tests)

tenth_cases : (n : ℕ) → (n + 5) / 10 ≡ cond (nat_lt 4 (n % 10)) (n / 10 + 1) (n / 10)
tenth_cases n = grind (arith, nat_tests)

-- the digits before the point and the first ones behind it, one of which isn't kept
pub tenth_ok : (m lead first R k d f size tenth : ℕ) → m ≡ (lead * 10 ^ (d + 1) + first) * 10 ^ k + R → R < 10 ^ k → f ≡ d + k + 1
    → size ≡ lead * 10 ^ d → IsTenth first R tenth → size + tenth ≤ largest → size_of Round m d f ≡ Ok (size + tenth)
tenth_ok m lead first R k d f size tenth is small places size_is (tenth_is, some) bound =
    let K : ℕ = lead * 10 ^ (d + 1) + first in
    let tens : lead * 10 ^ (d + 1) ≡ 10 * (lead * 10 ^ d) = rw (pow-add 10 d 1) (grind arith) in
    let rest : K % 10 ≡ first % 10 = omega (arith, tens) in
    let whole : K / 10 ≡ size + first / 10 = omega (arith, tens, size_is) in
    let up : Bool = nat_lt 4 (first % 10) in
    let odd : Bool = (K / 10) % 2 == 1 in
    let decides : (nat_lt 5 (K % 10) || ((K % 10 == 5) && (nat_lt 0 R || odd))) ≡ up = ap (λ z. nat_lt 5 z || ((z == 5) && (nat_lt 0 R || odd))) rest ∙ up_from_five (first % 10) R odd some in
    let sum : size + tenth ≡ cond up (K / 10 + 1) (K / 10) =
    ap (λ z. size + z) (tenth_is ∙ tenth_cases first) ∙ (moved up size (first / 10) ∙ ap (λ z. cond up (z + 1) z) (sym whole)) in
    rounded_ok m K R k d f (size + tenth) up is small places decides sum bound where
      moved : (u : Bool) (a b : ℕ) → a + cond u (b + 1) b ≡ cond u (a + b + 1) (a + b)
      moved u a b = grind (arith, nat_tests)

-- or rounded, to some size
sized_ok : (how : Coords) (m e a b : ℕ) → m < 10 ^ e → e + a ≤ 14 + b → (how ≡ Round) ⊎ (b ≤ a) → (s : ℕ) × (size_of how m a b ≡ Ok s)
sized_ok how zero e a b small few sure = (0, refl)
sized_ok Round (suc m) e a b small few sure =
    let p : ℕ = suc m * 10 ^ a in let q : ℕ = 10 ^ b in
    let below : p / q < 10 ^ 14 = (div-lt_iff_lt-mul (pow_positive b)).1 (top (suc m) e a b small few) in
    let near : nearest p q ≤ largest = omega (arith, below, nearest_most p q) in
    (nearest p q, rounded_by p q (nearest p q) refl ∙ ap (λ z. cond z (Err Range) (Ok (nearest p q))) (le-ltb largest (nearest p q) near))
sized_ok Exact (suc m) e a b small few (inl other) = absurd (cc)
sized_ok Exact (suc m) e a b small few (inr whole) =
    let most = sized_most (suc m) e (a - b) (10 ^ (a - b)) refl small (omega (arith, few, whole)) in
    (suc m * 10 ^ (a - b), whole_ok Exact (suc m) a b whole (omega (arith, most)))

-- ---- a number up to its exponent, and none behind it

record IsFrontNumber (g : Notation) (w : List ℕ) (front : Mantissa) (n : Numeral) : Type 0 where
  pub numeral : IsNumeralOf g n
  pub text : take front.end w ≡ numeral_text n
  pub minus : has_minus n.sign ≡ front.is_minus
  pub size : mantissa n ≡ front.digits.kept
  pub above : exponent_above n.exponent ≡ 0
  pub places : length (fraction_digits n) + exponent_below n.exponent ≡ front.fraction

front_number : (g : Notation) (w : List ℕ) (front : Mantissa) → IsKeptFront g w front → (n : Numeral) × IsFrontNumber g w front n
front_number g w front h =
    let m = h.reads.parts h.is_number in
    let n : Numeral = record { sign = m.sign; whole = m.whole; fraction = m.fraction; exponent = None } in
    let keeps : Keeps front.digits.kept 0 front.digits.is_cut (mantissa n) = subst (λ d. Keeps front.digits.kept d front.digits.is_cut (mantissa n)) h.dropped m.keeps in (
      n,
      record {
        numeral = numeral_by g m.sign m.whole m.fraction None m.is_front tt;
        text = m.text ∙ ap (λ z. m.sign ++ (m.whole ++ z)) (sym (append-nil (fraction_text m.fraction)));
        minus = sym m.minus;
        size = (none_dropped front.digits.kept (mantissa n) front.digits.is_cut keeps).0;
        above = refl;
        places = omega (arith, m.count);
      },
    )

front_value : (g : Notation) (w : List ℕ) (front : Mantissa) (n : Numeral) (digits : ℕ) (how : Coords) → IsFrontNumber g w front n
    → fixed_of n digits how ≡ signed front.is_minus (size_of how front.digits.kept digits front.fraction)
front_value g w front n digits how h = grind arith

signed_ok : (minus : Bool) (r : Result ℕ FixedFault) (s : ℕ) → r ≡ Ok s → (v : ℤ) × (signed minus r ≡ Ok v)
signed_ok minus r s e = (if minus then neg_ℤ (pos s) else pos s, ap (signed minus) e)

pub valued : (g : Notation) (w : List ℕ) (front : Mantissa) (digits : ℕ) (how : Coords) → IsKeptFront g w front → SurelyFits front.end front.fraction digits how
    → (n : Numeral) × IsNumeralOf g n × (take front.end w ≡ numeral_text n) × ((v : ℤ) × (fixed_of n digits how ≡ Ok v))
valued g w front digits how h (few, sure) =
    let (n, is) = front_number g w front h in
    let (s, e) = sized_ok how front.digits.kept front.end digits front.fraction h.small few sure in
    let (v, f) = signed_ok front.is_minus (size_of how front.digits.kept digits front.fraction) s e in
    (n, is.numeral, is.text, (v, front_value g w front n digits how is ∙ f))

-- a whole number of units
pub valued_whole : (g : Notation) (w : List ℕ) (digits : ℕ) (how : Coords) (whole : Whole) → IsSizedIn g w digits how whole
    → (n : Numeral) × IsNumeralOf g n × (take whole.end w ≡ numeral_text n) × (fixed_of n digits how ≡ Ok (if whole.is_minus then neg_ℤ (pos whole.size) else pos whole.size))
valued_whole g w digits how whole h =
    let front = h.front in
    let (n, is) = front_number g w front h.kept in (
      n,
      is.numeral,
      ap (λ e. take e w) (sym h.end) ∙ is.text,
      front_value g w front n digits how is ∙ (ap (signed front.is_minus) h.size ∙ ap (λ b. signed b (Ok whole.size)) h.minus),
    )
