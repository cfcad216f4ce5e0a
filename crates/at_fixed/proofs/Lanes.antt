-- From the mask of eight lanes to the bytes that are digits.
-- For `json_number`, `leading_number`, `plain_len`, `plain_number`, `read_fixed` and `wkt_number`.
use Rattle.std.proofs.Common.{◌≡◌, ℕ, ◌+◌, ◌-◌, ◌%◌, ◌^◌, ◌<◌, ◌≤◌, Bool, true, false, not, List, [], ◌∷◌, map, length, get_or, replicate, Fits, w8, refl, sym, ap, ap₂, ◌∙◌, subst, arith}
use Rattle.std.proofs.lemmas.Bool.{agree_below, agree_below_at, not-true, not-false, cases_eq, eq-eqb, ne_eqb, cond-true, cond-false}
use Rattle.std.proofs.lemmas.Simd.{map-map, mask_l-mod, length-chunk, get_or-chunk, leading_from_mask_l, trailing_mask_l}
use Rattle.std.proofs.lemmas.List.{length-map}
use Rattle.std.proofs.lemmas.List.Sums.{prefix_len-le-length, prefix_len_passes, prefix_len_stops}
use Rattle.std.specs.List.{prefix_len}
use lib.Lanes.{chunk, zip2, mask_l, top}
use Rattle.at_text.specs.Texts.{is_digit}
use Rattle.at_fixed.specs.Eights.{IsDigitRun, first_set}

zip2-map : (h : ℕ → ℕ → ℕ) (f g : ℕ → ℕ) (xs : List ℕ) → zip2 h (map f xs) (map g xs) ≡ map (λ x. h (f x) (g x)) xs
zip2-map h f g [] = refl
zip2-map h f g (x ∷ xs) = ap (λ r. h (f x) (g x) ∷ r) (zip2-map h f g xs)

-- an operation on two vectors that were computed lane by lane from v
pub joined : (h : ℕ → ℕ → ℕ) (f g : ℕ → ℕ) (v : List ℕ) {a b : List ℕ} → a ≡ map f v → b ≡ map g v → zip2 h a b ≡ map (λ x. h (f x) (g x)) v
joined h f g v p q = ap₂ (zip2 h) p q ∙ zip2-map h f g v

pub splat_is : (v : List ℕ) (n y : ℕ) → length v ≡ n → replicate n y ≡ map (λ _. y) v
splat_is [] n y e = ap (λ k. replicate k y) (sym e)
splat_is (x ∷ xs) n y e = ap (λ k. replicate k y) (sym e) ∙ ap (λ r. y ∷ r) (splat_is xs (length xs) y refl)

run_is : (p : ℕ → Bool) (v : List ℕ) (n : ℕ) → length v ≡ n → n ≤ 64 → first_set (mask_l (map p v)) n ≡ prefix_len (λ x. not (p x)) v
run_is p v n h k = grind (arith, cases_eq, cond-true, eq-eqb, leading_from_mask_l, cond-false, ne_eqb, trailing_mask_l)

module _ (d : List ℕ) (i r : ℕ) (z : List ℕ) (room : i + 8 ≤ length d)
    (fits : (k : ℕ) → Fits w8 (get_or d k 0)) (found : r ≡ first_set (mask_l (map (top 7) z) % 2 ^ 64) 8)
    (f : ℕ → ℕ) (lanes : z ≡ map f (chunk i 8 d)) where
  abbrev stops : ℕ → Bool
  stops x = top 7 (f x)

  long : length (chunk i 8 d) ≡ 8
  long = length-chunk i 8 d room

  counted : r ≡ prefix_len (λ x. not (stops x)) (chunk i 8 d)
  counted =
      let v = chunk i 8 d in
      let mask = ap (λ l. mask_l l % 2 ^ 64) (ap (map (top 7)) lanes ∙ map-map (top 7) f v) ∙ mask_l-mod (map stops v) 64 (omega (arith, length-map v stops, long)) in
      found ∙ ap (λ m. first_set m 8) mask ∙ run_is stops v 8 long (omega arith)

  goes_on : (k : ℕ) → i ≤ k → k < i + r → stops (get_or d k 0) ≡ false
  goes_on k from to =
      let back : i + (k - i) ≡ k = omega arith in
      let bound = prefix_len-le-length (λ x. not (stops x)) (chunk i 8 d) in
      let at = get_or-chunk i 8 d (k - i) 0 (omega (arith, counted, long)) ∙ ap (λ j. get_or d j 0) back in
      subst (λ x. stops x ≡ false) at (not-true _ (prefix_len_passes (λ x. not (stops x)) (chunk i 8 d) (k - i) 0 (omega (arith, counted))))

  -- a lane stops just where no digit stands
  pub digit_run : agree_below stops (λ x. not (is_digit x)) 256 ≡ true → IsDigitRun d i r
  digit_run all = record {
    few = omega (arith, counted, long, prefix_len-le-length (λ x. not (stops x)) (chunk i 8 d));
    digits = λ k from to. not-false _ (sym (agree_below_at stops (λ x. not (is_digit x)) 256 (get_or d k 0) all (fits k).fits) ∙ goes_on k from to);
    stops = λ short.
        let at = ap (λ j. get_or (chunk i 8 d) j 0) (sym counted) ∙ get_or-chunk i 8 d r 0 short in
        let set = subst (λ x. stops x ≡ true) at (not-false _ (prefix_len_stops (λ x. not (stops x)) (chunk i 8 d) 0 (omega (arith, counted, long)))) in
        not-true _ (sym (agree_below_at stops (λ x. not (is_digit x)) 256 (get_or d (i + r) 0) all (fits (i + r)).fits) ∙ set);
  }
