-- Numbers from their parts.
-- For `lex` and `next_item`.
use Rattle.std.proofs.Common.{◌≡◌, ◌≢◌, ℕ, zero, suc, ◌+◌, ◌-◌, ◌<◌, ◌≤◌, inr, List, [], ◌∷◌, ◌++◌, length, take, drop, slice_index, Some, true, ◌&&◌, nat_le, not, refl, ◌∙◌, ap, subst, arith, append_assoc, length-drop}
use Rattle.std.proofs.Math.Seq.{take-add}
use Rattle.std.proofs.lemmas.List.{length-take-le}
use Rattle.at_text.specs.Texts.{is_digit, is_one_of}
use Rattle.at_fixed.specs.Numerals.{fraction_text, IsAtMostOneOf, AreDigits, AreSomeDigits, IsJsonWhole, JsonNumber}
use Rattle.at_lex.specs.Fronts.{IsFront}
use Rattle.at_lex.specs.EndedNumbers.{IsFraction, IsPower, IsEndedNumber}
use Rattle.at_lex.specs.Runs.{JsonRun}
use Rattle.at_lex.specs.Spans.{EndsRun}
use Rattle.at_lex.proofs.FrontLemmas.{front_all, suffix_is, run_stops}
use Rattle.at_lex.proofs.RunBytes.{word_run, some_run, some_bytes}

first_nonzero : (b : ℕ) → is_digit b ≡ true → b ≢ 0x30 → (nat_le 0x31 b && nat_le b 0x39) ≡ true
first_nonzero b h n = grind (arith, h, n)

-- digits of which the first is no 0
pub digits_whole : (w : List ℕ) (n : ℕ) → IsFront is_digit w n → slice_index w 0 ≢ 0x30 → 0 < n → IsJsonWhole (take n w)
digits_whole w zero f k h = absurd (omega arith)
digits_whole [] (suc n) f k h = absurd (let e = f.fits in omega (arith, e))
digits_whole (b ∷ w) (suc n) f k h = let all = front_all is_digit (b ∷ w) (suc n) f in inr (first_nonzero b all.0 k, all.1)

some_of : (w : List ℕ) → 0 < length w → AreDigits w → AreSomeDigits w
some_of w h k = grind arith

-- a point and digits
pub point_fraction : (w : List ℕ) (n : ℕ) → (length w ≡ 0 → ⊥) → slice_index w 0 ≡ 0x2E → IsFront is_digit (take (length w - 1) (drop 1 w)) n → n ≢ 0 → IsFraction w (1 + n)
point_fraction [] n some e f k = absurd (some refl)
point_fraction (b ∷ w) n some e f k =
    let g : IsFront is_digit w n = subst (λ v. IsFront is_digit v n) (suffix_is (b ∷ w) 1 ∙ drop_none w) f in
    let l = length-take-le n w g.fits in
    ((let fits = g.fits in omega (arith, fits)), Some (take n w), some_of (take n w) (omega (arith, l, k)) (front_all is_digit w n g), ap (λ m. take m (b ∷ w)) (one_more n) ∙ ap (λ c. c ∷ take n w) e)
  where
    drop_none : (v : List ℕ) → drop 0 v ≡ v
    drop_none [] = refl
    drop_none (c ∷ v) = refl

    one_more : (m : ℕ) → 1 + m ≡ suc m
    one_more m = omega arith

-- a letter, a sign or none, and digits
pub letter_power : (w : List ℕ) (s n : ℕ) → (length w ≡ 0 → ⊥) → is_one_of (0x65 ∷ 0x45 ∷ []) (slice_index w 0) ≡ true → s ≤ length (take (length w - 1) (drop 1 w)) → IsAtMostOneOf (0x2B ∷ 0x2D ∷ []) (take s (take (length w - 1) (drop 1 w)))
    → IsFront is_digit (take (length w - (1 + s)) (drop (1 + s) w)) n → n ≢ 0 → IsPower w (1 + s + n)
letter_power [] s n some e fits sign f k = absurd (some refl)
letter_power (b ∷ w) s n some e fits sign f k =
    let tail : take (length (b ∷ w) - 1) (drop 1 (b ∷ w)) ≡ w = suffix_is (b ∷ w) 1 ∙ drop_zero w in
    let g : IsFront is_digit (drop s w) n = subst (λ v. IsFront is_digit v n) (suffix_is (b ∷ w) (1 + s) ∙ ap (λ m. drop m (b ∷ w)) (one_more s)) f in
    let h : IsAtMostOneOf (0x2B ∷ 0x2D ∷ []) (take s w) = subst (λ v. IsAtMostOneOf (0x2B ∷ 0x2D ∷ []) (take s v)) tail sign in
    let within : s ≤ length w = subst (λ v. s ≤ length v) tail fits in
    let l = length-take-le n (drop s w) g.fits in let left = length-drop s w in let fit = g.fits in (
      omega (arith, within, left, fit),
      Some (record { letter = b; sign = take s w; digits = take n (drop s w) }),
      record { letter = e; sign = h; digits = some_of (take n (drop s w)) (omega (arith, l, k)) (front_all is_digit (drop s w) n g) },
      ap (λ m. take m (b ∷ w)) (one_more_of s n) ∙ ap (λ v. b ∷ v) (take-add s n w),
    )
  where
    drop_zero : (v : List ℕ) → drop 0 v ≡ v
    drop_zero [] = refl
    drop_zero (c ∷ v) = refl

    one_more : (m : ℕ) → 1 + m ≡ suc m
    one_more m = omega arith

    one_more_of : (m o : ℕ) → 1 + m + o ≡ suc (m + o)
    one_more_of m o = omega arith

-- the parts of a number are one
pub parts_number : (w : List ℕ) (s p f x : ℕ) → IsAtMostOneOf (0x2D ∷ []) (take s w) → IsJsonWhole (take p (drop s w)) → IsFraction (drop (s + p) w) f → IsPower (drop (s + p + f) w) x → JsonNumber (take (s + p + f + x) w)
parts_number w s p f x sign whole (fits, fraction, digits, text) (within, exponent, power, spelled) = (
  record { sign = take s w; whole = take p (drop s w); fraction = fraction; exponent = exponent },
  record { sign = sign; whole = whole; fraction = digits; exponent = power },
  take-add (s + p + f) x w ∙ (ap (λ v. v ++ take x (drop (s + p + f) w)) (take-add (s + p) f w ∙ ap (λ v. v ++ take f (drop (s + p) w)) (take-add s p w))
      ∙ (append_assoc (take s w ++ take p (drop s w)) (take f (drop (s + p) w)) (take x (drop (s + p + f) w))
      ∙ (append_assoc (take s w) (take p (drop s w)) (take f (drop (s + p) w) ++ take x (drop (s + p + f) w))
      ∙ ap (λ v. take s w ++ (take p (drop s w) ++ v)) (ap (λ v. v ++ take x (drop (s + p + f) w)) text ∙ ap (λ v. fraction_text fraction ++ v) spelled)))),
)

-- a number that a byte of no run follows
pub ended_run : (w : List ℕ) (n : ℕ) → IsEndedNumber w n → EndsRun (take n w) (drop n w) × JsonRun (take n w)
ended_run w n h =
    let fits : n ≤ length w = (let e = h.ends in omega (arith, e)) in
    let l = length-take-le n w fits in
    let run : JsonRun (take n w) = inr h.number in
    let some = h.some in let ends = h.ends in let left = length-drop n w in
    ((some_run (take n w) (omega (arith, l, some)) (word_run (take n w) run), some_bytes (drop n w) (omega (arith, left, ends)), ap not (run_stops w n (λ _. h.behind))), run)
