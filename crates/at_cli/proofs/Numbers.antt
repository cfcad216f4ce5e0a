-- Numbers that are read from a text of decimal digits, with no sign and no leading zero.
-- For `made_file`, `read_words` and `top`.
use Rattle.std.proofs.Common.{◌≡◌, ◌≢◌, ℕ, zero, suc, ◌<◌, ◌≤◌, ◌^◌, List, length, get_or, sym, ◌∙◌, ap, subst, Result, Ok, Err, decimal, MatchOption, ◌⊎◌, inl, inr, arith}
use Rattle.std.specs.Result.{result_ok}
use Rattle.std.specs.Str.Parse.{ParsesUnsigned, AllDigits, IsNumeral, digits_value, without_leading_plus}
use Rattle.std.proofs.lemmas.Str.Parse.{IsNumeralModel, numerals_by_value, tells_digits, without_leading_plus_none, digit_at}
use Rattle.std.proofs.lemmas.Fmt.{parse-decimal, decimal-digits_value, digits_decimal, decimal_nonempty, decimal_injective, first_decimal, decimal_digit}
use Rattle.at_cli.specs.Values.{IsWhole}

own : IsNumeralModel (AllDigits 10) (digits_value 10)
own = numerals_by_value (AllDigits 10) tells_digits

-- what a number's text begins with
pub first_digit : (n : ℕ) → n < 2 ^ 32 → (48 ≤ get_or (decimal n) 0 0) × (get_or (decimal n) 0 0 ≤ 57)
first_digit n small = digit_at (decimal n) 0 (digits_decimal own n (omega arith)) (decimal_nonempty n (omega arith))

-- a text with a plus is no number's
pub no_plus : (n : ℕ) (text : List ℕ) → n < 2 ^ 32 → get_or text 0 0 ≡ 43 → text ≢ decimal n
no_plus n text small plus e = let d = first_digit n small in omega (arith, plus, ap (λ t. get_or t 0 0) e, d.0)

-- nor is one with a zero before other digits
pub no_zero : (n : ℕ) (text : List ℕ) → n < 2 ^ 32 → get_or text 0 0 ≡ 48 → 1 < length text → text ≢ decimal n
no_zero zero text small leading long e = omega (arith, long, ap length (e ∙ decimal_digit 0 (omega arith)))
no_zero (suc n) text small leading long e = omega (arith, leading, ap (λ t. get_or t 0 0) e, first_decimal (suc n) (omega arith) (omega arith))

-- a number that is read is written so
pub number_read : {E : Type 0} (text : List ℕ) (r : Result ℕ E) → ParsesUnsigned 32 10 text r → get_or text 0 0 ≢ 43 → (get_or text 0 0 ≡ 48 → length text ≤ 1)
    → MatchOption (result_ok r) ((n : ℕ) → n < 2 ^ 32 → text ≢ decimal n) (λ n. text ≡ decimal n)
number_read text (Ok n) ((numeral, fits), is) plus leading =
    let plain : without_leading_plus text ≡ text = without_leading_plus_none text plus in
    let P : List ℕ → Type 0 = IsNumeral 10 in
    let digits : IsNumeral 10 text = subst P plain numeral in
    let value : n ≡ digits_value 10 text = is ∙ ap (digits_value 10) plain in
    sym (ap decimal value ∙ decimal-digits_value own text digits.1 digits.0 (λ zeros. let few : length text ≤ 1 = leading zeros in omega (arith, few, digits.0)) (omega (arith, fits, is, value)))
number_read text (Err e) refused plus leading = λ n small written. absurd (err_is_none (parse-decimal 32 n text (Err e) small (omega arith) written refused))
  where
    err_is_none : {E : Type 0} {n : ℕ} {e : E} → Err e ≡ Ok n → ⊥
    err_is_none h = cc

-- a text that begins so is no number's
pub padded : (text : List ℕ) → (get_or text 0 0 ≡ 43) ⊎ ((get_or text 0 0 ≡ 48) × (1 < length text)) → (n : ℕ) → n < 2 ^ 32 → text ≢ decimal n
padded text (inl plus) n small = no_plus n text small plus
padded text (inr (leading, long)) n small = no_zero n text small leading long

-- a number out of the bounds
pub not_within : (low high number : ℕ) (text : List ℕ) → number < 2 ^ 32 → high < 2 ^ 32 → text ≡ decimal number → (number < low) ⊎ (high < number) → (n : ℕ) → IsWhole low high text n → ⊥
not_within low high number text small top written out n is =
    let same : number ≡ n = decimal_injective number n (omega arith) (omega (arith, is.most)) (sym written ∙ is.written) in
    elim out [ inl below ↦ omega (arith, same, is.least) | inr above ↦ omega (arith, same, is.most) ]
