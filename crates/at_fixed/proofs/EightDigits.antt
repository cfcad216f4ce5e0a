-- Eight bytes joined to the number that the digits among them spell.
-- For `json_number`, `leading_number`, `plain_len`, `plain_number`, `read_fixed` and `wkt_number`.
use Rattle.std.proofs.Common.{◌≡◌, ℕ, zero, suc, ◌+◌, ◌-◌, ◌*◌, ◌/◌, ◌%◌, ◌^◌, ◌<◌, ◌≤◌, List, [], ◌∷◌, ◌++◌, length, take, drop, map, fold, slice_index, replicate, bit_and, inl, inr, true, refl, sym, ◌∙◌, ap, subst, arith, lit<, get_or, Fits, w8, add-zero, length-take, length-drop, length-append, take-take}
use Rattle.std.proofs.lemmas.List.{drop-take, get_or-drop, length-map, length-replicate}
use Rattle.std.specs.List.{AllByRecursion}
use Rattle.std.proofs.lemmas.Bool.{cases_eq, cases_lt}
use Rattle.std.proofs.lemmas.Nat.{and_mask, and_le_l, pow-add, pow_pos}
use Rattle.std.proofs.Math.Nat.{mod-eq_of_lt, add-mul-mod_self_left, mul-lt-mul_of_pos_right}
use lib.Lanes.{number_l}
use Rattle.std.proofs.lemmas.Nat.Bits.{same_from_bits, bit_at_and, bit_at_cat_low, bit_at_cat_high}
use Rattle.std.specs.Int.Bits.{and_zero_r}
use Rattle.at_text.specs.Texts.{is_digit}
use Rattle.at_fixed.specs.Numerals.{AreDigits}
use Rattle.at_fixed.specs.NumberSoFar.{between, digits_behind, KeepsDigits}
use Rattle.at_fixed.proofs.DigitParts.{part-none, part-more, part-length, digits-more, behind_split, kept_small, room_more}
use Rattle.at_fixed.specs.Eights.{eight_bytes, digits_in, pairs_in, fours_in, eights_in, folded}

-- ---- masks, part by part

pub and_cat : (k a b c d : ℕ) → b < 2 ^ k → d < 2 ^ k → bit_and (a * 2 ^ k + b) (c * 2 ^ k + d) ≡ bit_and a c * 2 ^ k + bit_and b d
and_cat k a b c d hb hd = same_from_bits _ _ (λ i.
    let both = bit_at_and (a * 2 ^ k + b) (c * 2 ^ k + d) i in
    elim (cases_lt i k) [
      | inl low ↦ rw (both, bit_at_cat_low a k b i low, bit_at_cat_low c k d i low, bit_at_cat_low (bit_and a c) k (bit_and b d) i low) (sym (bit_at_and b d i))
      | inr high ↦
          let small : bit_and b d < 2 ^ k = omega (arith, and_le_l b d, hb) in
          rw (both, bit_at_cat_high a k b i hb high, bit_at_cat_high c k d i hd high, bit_at_cat_high (bit_and a c) k (bit_and b d) i small high) (sym (bit_at_and a c (i - k)))
    ])

-- the lower part of two is kept, and the upper one is not
and_two : (k y z F M : ℕ) → y < 2 ^ k → z < 2 ^ k → bit_and ((F * 2 ^ k + z) * 2 ^ k + y) (M * 2 ^ k * 2 ^ k + (2 ^ k - 1)) ≡ bit_and F M * 2 ^ k * 2 ^ k + y
and_two k y z F M hy hz =
    let ones : 2 ^ k - 1 < 2 ^ k = omega (arith, hy) in
    let some : 0 < 2 ^ k = omega (arith, hy) in
    let low : bit_and y (2 ^ k - 1) ≡ y = and_mask y k ∙ mod-eq_of_lt hy in
    let none : M * 2 ^ k ≡ M * 2 ^ k + 0 = omega arith in
    let high : bit_and (F * 2 ^ k + z) (M * 2 ^ k) ≡ bit_and F M * 2 ^ k =
    ap (bit_and (F * 2 ^ k + z)) none ∙ (and_cat k F z M 0 hz some ∙ (ap (λ n. bit_and F M * 2 ^ k + n) (and_zero_r z) ∙ omega arith)) in
    and_cat k (F * 2 ^ k + z) y (M * 2 ^ k) (2 ^ k - 1) hy ones ∙ (ap (λ n. n * 2 ^ k + bit_and y (2 ^ k - 1)) high ∙ ap (λ n. bit_and F M * 2 ^ k * 2 ^ k + n) low)

and_two_8 : (y z F M : ℕ) → y < 256 → z < 256 → bit_and (y + 256 * (z + 256 * F)) (255 + 65536 * M) ≡ y + 65536 * bit_and F M
and_two_8 y z F M hy hz =
    let a : y + 256 * (z + 256 * F) ≡ (F * 2 ^ 8 + z) * 2 ^ 8 + y = omega arith in
    let b : 255 + 65536 * M ≡ M * 2 ^ 8 * 2 ^ 8 + (2 ^ 8 - 1) = omega arith in
    rw (a, b, and_two 8 y z F M hy hz) (omega arith)

and_two_16 : (y z F M : ℕ) → y < 65536 → z < 65536 → bit_and (y + 65536 * (z + 65536 * F)) (65535 + 4294967296 * M) ≡ y + 4294967296 * bit_and F M
and_two_16 y z F M hy hz =
    let a : y + 65536 * (z + 65536 * F) ≡ (F * 2 ^ 16 + z) * 2 ^ 16 + y = omega arith in
    let b : 65535 + 4294967296 * M ≡ M * 2 ^ 16 * 2 ^ 16 + (2 ^ 16 - 1) = omega arith in
    rw (a, b, and_two 16 y z F M hy hz) (omega arith)

-- ---- digits, pairs, fours

four_pairs : (p q r s t u v w : ℕ) → p < 256 → q < 256 → r < 256 → s < 256 → t < 256 → u < 256 → v < 256 → w < 256
    → bit_and (p + 256 * (q + 256 * (r + 256 * (s + 256 * (t + 256 * (u + 256 * (v + 256 * (w + 256 * 0)))))))) 0x00FF00FF00FF00FF
    ≡ p + 65536 * (r + 65536 * (t + 65536 * (v + 65536 * 0)))
four_pairs p q r s t u v w hp hq hr hs ht hu hv hw =
    and_two_8 p q (r + 256 * (s + 256 * (t + 256 * (u + 256 * (v + 256 * (w + 256 * 0)))))) 1095233372415 hp hq
    ∙ ap (λ n. p + 65536 * n) (and_two_8 r s (t + 256 * (u + 256 * (v + 256 * (w + 256 * 0)))) 16711935 hr hs
    ∙ ap (λ n. r + 65536 * n) (and_two_8 t u (v + 256 * (w + 256 * 0)) 255 ht hu
    ∙ ap (λ n. t + 65536 * n) (and_two_8 v w 0 0 hv hw)))

fold_pairs : (a b c d e f g h : ℕ) → a ≤ 9 → b ≤ 9 → c ≤ 9 → d ≤ 9 → e ≤ 9 → f ≤ 9 → g ≤ 9 → h ≤ 9
    → pairs_in (a + 256 * (b + 256 * (c + 256 * (d + 256 * (e + 256 * (f + 256 * (g + 256 * (h + 256 * 0))))))))
    ≡ (10 * a + b) + 65536 * ((10 * c + d) + 65536 * ((10 * e + f) + 65536 * ((10 * g + h) + 65536 * 0)))
fold_pairs a b c d e f g h ha hb hc hd he hf hg hh =
    let X : ℕ = b + 256 * (c + 256 * (d + 256 * (e + 256 * (f + 256 * (g + 256 * (h + 256 * 0)))))) in
    let over : (a + 256 * X) / 256 ≡ X = omega arith in
    let sums : 10 * (a + 256 * X) + (a + 256 * X) / 256 ≡ (10 * a + b) + 256 * ((10 * b + c) + 256 * ((10 * c + d) + 256 * ((10 * d + e)
    + 256 * ((10 * e + f) + 256 * ((10 * f + g) + 256 * ((10 * g + h) + 256 * (10 * h + 256 * 0))))))) = omega (arith, over) in
    ap (λ n. bit_and n 0x00FF00FF00FF00FF) sums
    ∙ four_pairs (10 * a + b) (10 * b + c) (10 * c + d) (10 * d + e) (10 * e + f) (10 * f + g) (10 * g + h) (10 * h)
    (omega arith) (omega arith) (omega arith) (omega arith) (omega arith) (omega arith) (omega arith) (omega arith)

fold_fours : (p q r s : ℕ) → p ≤ 99 → q ≤ 99 → r ≤ 99 → s ≤ 99
    → fours_in (p + 65536 * (q + 65536 * (r + 65536 * (s + 65536 * 0)))) ≡ (100 * p + q) + 4294967296 * ((100 * r + s) + 4294967296 * 0)
fold_fours p q r s hp hq hr hs =
    let X : ℕ = q + 65536 * (r + 65536 * (s + 65536 * 0)) in
    let over : (p + 65536 * X) / 65536 ≡ X = omega arith in
    let sums : 100 * (p + 65536 * X) + (p + 65536 * X) / 65536 ≡ (100 * p + q) + 65536 * ((100 * q + r) + 65536 * ((100 * r + s) + 65536 * (100 * s + 65536 * 0))) = omega (arith, over) in
    ap (λ n. bit_and n 0x0000FFFF0000FFFF) sums
    ∙ (and_two_16 (100 * p + q) (100 * q + r) ((100 * r + s) + 65536 * (100 * s + 65536 * 0)) 65535 (omega arith) (omega arith)
    ∙ ap (λ n. (100 * p + q) + 4294967296 * n) (and_two_16 (100 * r + s) (100 * s) 0 0 (omega arith) (omega arith)))

fold_eights : (p q : ℕ) → p ≤ 9999 → q ≤ 9999 → eights_in (p + 4294967296 * (q + 4294967296 * 0)) ≡ 10000 * p + q
fold_eights p q hp hq =
    let over : (p + 4294967296 * (q + 4294967296 * 0)) / 4294967296 ≡ q = omega arith in
    let sums : 10000 * (p + 4294967296 * (q + 4294967296 * 0)) + (p + 4294967296 * (q + 4294967296 * 0)) / 4294967296 ≡ (10000 * p + q) + 4294967296 * (10000 * q) = omega (arith, over) in
    ap (λ n. bit_and n 0xFFFFFFFF) sums ∙ (and_mask ((10000 * p + q) + 4294967296 * (10000 * q)) 32 ∙ omega arith)

-- ---- lists of bytes and of digits

abbrev pub Below : ℕ → List ℕ → Type 0
Below n xs = AllByRecursion (λ x. x < n) xs

abbrev pub value : List ℕ → ℕ
value es = fold (λ m e. 10 * m + e) 0 es

fold_all : (es : List ℕ) → length es ≡ 8 → Below 10 es → eights_in (fours_in (pairs_in (number_l 256 es))) ≡ value es
fold_all (a ∷ b ∷ c ∷ d ∷ e ∷ f ∷ g ∷ h ∷ []) n (ha, (hb, (hc, (hd, (he, (hf, (hg, (hh, _)))))))) =
    ap (λ n. eights_in (fours_in n)) (fold_pairs a b c d e f g h (omega arith) (omega arith) (omega arith) (omega arith) (omega arith) (omega arith) (omega arith) (omega arith))
    ∙ (ap eights_in (fold_fours (10 * a + b) (10 * c + d) (10 * e + f) (10 * g + h) (omega arith) (omega arith) (omega arith) (omega arith))
    ∙ (fold_eights (100 * (10 * a + b) + (10 * c + d)) (100 * (10 * e + f) + (10 * g + h)) (omega arith) (omega arith) ∙ omega arith))
fold_all _ n _ = absurd (omega (arith, n))

-- the low four bits of each byte
nibbles : (bs : List ℕ) → Below 256 bs → bit_and (number_l 256 bs) (number_l 256 (replicate (length bs) 15)) ≡ number_l 256 (map (λ b. b % 16) bs)
nibbles [] _ = refl
nibbles (b ∷ bs) (h, hs) =
    let x : ℕ = number_l 256 bs in
    let m : ℕ = number_l 256 (replicate (length bs) 15) in
    let left : b + 256 * x ≡ x * 2 ^ 8 + b = omega arith in
    let right : 15 + 256 * m ≡ m * 2 ^ 8 + 15 = omega arith in
    let low : bit_and b 15 ≡ b % 16 = and_mask b 4 in
    let split : bit_and (x * 2 ^ 8 + b) (m * 2 ^ 8 + 15) ≡ bit_and x m * 2 ^ 8 + bit_and b 15 = and_cat 8 x b m 15 h (lit< tt) in
    rw (left, right, split, low, nibbles bs hs) (omega arith)

shifted : (j : ℕ) (xs : List ℕ) → number_l 256 (replicate j 0 ++ xs) ≡ number_l 256 xs * 2 ^ (8 * j)
shifted zero xs = omega arith
shifted (suc j) xs =
    let power : 2 ^ (8 * suc j) ≡ 2 ^ (8 * j) * 256 = ap (λ n. 2 ^ n) (omega arith) ∙ pow-add 2 (8 * j) 8 in
    rw (power, shifted j xs) (grind arith)

parted : (n : ℕ) (bs : List ℕ) → n ≤ length bs → number_l 256 bs ≡ number_l 256 (take n bs) + number_l 256 (drop n bs) * 2 ^ (8 * n)
parted zero bs h = omega arith
parted (suc n) [] h = absurd (omega (arith, h))
parted (suc n) (b ∷ bs) h =
    let power : 2 ^ (8 * suc n) ≡ 2 ^ (8 * n) * 256 = ap (λ n. 2 ^ n) (omega arith) ∙ pow-add 2 (8 * n) 8 in
    rw (power, parted n bs (omega (arith, h))) (grind arith)

bounded : (bs : List ℕ) → Below 256 bs → number_l 256 bs < 2 ^ (8 * length bs)
bounded [] _ = lit< tt
bounded (b ∷ bs) (h, hs) =
    let power : 2 ^ (8 * suc (length bs)) ≡ 2 ^ (8 * length bs) * 256 = ap (λ n. 2 ^ n) (omega arith) ∙ pow-add 2 (8 * length bs) 8 in
    rw power (omega (arith, bounded bs hs))

taken : (n : ℕ) (bs : List ℕ) → Below 256 bs → Below 256 (take n bs)
taken (suc n) (b ∷ bs) (h, hs) = (h, taken n bs hs)
taken _ _ h = tt

over : (x y : ℕ) → x < 2 ^ 64 → (x + 2 ^ 64 * y) % 2 ^ 64 ≡ x
over x y h = add-mul-mod_self_left x (2 ^ 64) y ∙ mod-eq_of_lt h

-- the first n bytes of eight, moved up to the end
moved : (n : ℕ) (bs : List ℕ) → n ≤ 8 → length bs ≡ 8 → Below 256 bs → number_l 256 bs * 2 ^ (64 - 8 * n) % 2 ^ 64 ≡ number_l 256 (replicate (8 - n) 0 ++ take n bs)
moved n bs few long h =
    let j : ℕ = 8 - n in
    let x : ℕ = number_l 256 (take n bs) in
    let y : ℕ = number_l 256 (drop n bs) in
    let up : 2 ^ (64 - 8 * n) ≡ 2 ^ (8 * j) = ap (λ k. 2 ^ k) (omega arith) in
    let total : 8 * n + 8 * j ≡ 64 = omega arith in
    let all : 2 ^ (8 * n) * 2 ^ (8 * j) ≡ 2 ^ 64 = sym (pow-add 2 (8 * n) (8 * j)) ∙ ap (λ k. 2 ^ k) total in
    let count : length (take n bs) ≡ n = omega (arith, length-take n bs) in
    let small : x < 2 ^ (8 * n) = subst (λ k. x < 2 ^ (8 * k)) count (bounded (take n bs) (taken n bs h)) in
    let positive : 0 < 2 ^ (8 * j) = pow_pos (8 * j) in
    let below : x * 2 ^ (8 * j) < 2 ^ 64 = subst (λ k. x * 2 ^ (8 * j) < k) all (mul-lt-mul_of_pos_right small positive) in
    let split : number_l 256 bs * 2 ^ (8 * j) ≡ x * 2 ^ (8 * j) + 2 ^ 64 * y = rw (parted n bs (omega arith), sym all) (grind arith) in
    ap (λ k. number_l 256 bs * k % 2 ^ 64) up ∙ (ap (λ k. k % 2 ^ 64) split ∙ (over (x * 2 ^ (8 * j)) y below ∙ sym (shifted j (take n bs))))

-- ---- digits

digits_below : (ds : List ℕ) → AreDigits ds → Below 10 (map (λ b. b % 16) ds)
digits_below [] _ = tt
digits_below (d ∷ ds) (h, hs) = (grind (arith, h), digits_below ds hs)

zeros_below : (j : ℕ) (ds : List ℕ) → AreDigits ds → Below 10 (map (λ b. b % 16) (replicate j 0 ++ ds))
zeros_below zero ds h = digits_below ds h
zeros_below (suc j) ds h = (lit< tt, zeros_below j ds h)

zeros_bytes : (j : ℕ) (bs : List ℕ) → Below 256 bs → Below 256 (replicate j 0 ++ bs)
zeros_bytes zero bs h = h
zeros_bytes (suc j) bs h = (lit< tt, zeros_bytes j bs h)

low_digit : (d : ℕ) → is_digit d ≡ true → d % 16 ≡ d - 0x30
low_digit d h = grind (arith, h)

digits_spell : (m : ℕ) (ds : List ℕ) → AreDigits ds → fold (λ n e. 10 * n + e) m (map (λ b. b % 16) ds) ≡ digits_behind m ds
digits_spell m [] _ = refl
digits_spell m (d ∷ ds) (h, hs) = ap (λ e. fold (λ n e. 10 * n + e) (10 * m + e) (map (λ b. b % 16) ds)) (low_digit d h) ∙ digits_spell (10 * m + (d - 0x30)) ds hs

zeros_spell : (j : ℕ) (ds : List ℕ) → AreDigits ds → value (map (λ b. b % 16) (replicate j 0 ++ ds)) ≡ digits_behind 0 ds
zeros_spell zero ds h = digits_spell 0 ds h
zeros_spell (suc j) ds h = zeros_spell j ds h

-- the digits that eight bytes begin with
pub folded_is : (n : ℕ) (bs : List ℕ) → n ≤ 8 → length bs ≡ 8 → Below 256 bs → AreDigits (take n bs) → folded (number_l 256 bs) n ≡ digits_behind 0 (take n bs)
folded_is n bs few long h are_digits =
    let xs : List ℕ = replicate (8 - n) 0 ++ take n bs in
    let count : length xs ≡ 8 = omega (arith, length-append (replicate (8 - n) 0) (take n bs), length-replicate {A = ℕ} (8 - n) 0, length-take n bs) in
    let es : List ℕ = map (λ b. b % 16) xs in
    let nibble : bit_and (number_l 256 xs) 0x0F0F0F0F0F0F0F0F ≡ number_l 256 es =
    ap (λ k. bit_and (number_l 256 xs) (number_l 256 (replicate k 15))) (sym count) ∙ nibbles xs (zeros_bytes (8 - n) (take n bs) (taken n bs h)) in
    let lanes : digits_in (number_l 256 bs) n ≡ number_l 256 es = ap (λ k. bit_and k 0x0F0F0F0F0F0F0F0F) (moved n bs few long h) ∙ nibble in
    ap (λ k. eights_in (fours_in (pairs_in k))) lanes
    ∙ (fold_all es (length-map xs (λ b. b % 16) ∙ count) (zeros_below (8 - n) (take n bs) are_digits) ∙ zeros_spell (8 - n) (take n bs) are_digits)

-- ---- the bytes of a text

eight_of : (xs : List ℕ) → 8 ≤ length xs → eight_bytes xs 0 ≡ number_l 256 (take 8 xs)
eight_of xs h = grind arith

at_place : (w : List ℕ) (at : ℕ) → eight_bytes w at ≡ eight_bytes (drop at w) 0
at_place w at = rw (get_or-drop at w 0 0, get_or-drop at w 1 0, get_or-drop at w 2 0, get_or-drop at w 3 0, get_or-drop at w 4 0, get_or-drop at w 5 0, get_or-drop at w 6 0, get_or-drop at w 7 0, add-zero) refl

bytes_below : (xs : List ℕ) → ((k : ℕ) → Fits w8 (get_or xs k 0)) → Below 256 xs
bytes_below [] h = tt
bytes_below (x ∷ xs) h = ((h 0).fits, bytes_below xs (λ k. h (suc k)))

dropped_bytes : (at : ℕ) (w : List ℕ) → Below 256 w → Below 256 (drop at w)
dropped_bytes zero w h = h
dropped_bytes (suc at) [] h = tt
dropped_bytes (suc at) (b ∷ w) (h, hs) = dropped_bytes at w hs

pub run_digits : (w : List ℕ) (at n : ℕ) → at + n ≤ length w → ((k : ℕ) → at ≤ k → k < at + n → is_digit (slice_index w k) ≡ true) → AreDigits (between w at (at + n))
run_digits w at zero room h = let none : at + 0 ≡ at = omega arith in rw (none, part-none w at (omega arith)) tt
run_digits w at (suc n) room h =
    let place : at + suc n ≡ at + n + 1 = omega arith in
    rw (place, part-more w at (at + n) (omega arith) (omega arith))
    (digits-more (between w at (at + n)) (slice_index w (at + n)) (run_digits w at n (omega arith) (λ k from to. h k from (omega arith))) (h (at + n) (omega arith) (omega arith)))

pub eight_digits : (w : List ℕ) (at count word result : ℕ) → at + 8 ≤ length w → ((k : ℕ) → Fits w8 (get_or w k 0)) → count ≤ 8
    → AreDigits (between w at (at + count)) → word ≡ eight_bytes w at → result ≡ folded word count → result ≡ digits_behind 0 (between w at (at + count))
eight_digits w at count word result room fits few are_digits e r =
    let bs : List ℕ = take 8 (drop at w) in
    let long : length bs ≡ 8 = omega (arith, length-take 8 (drop at w), length-drop at w, room) in
    let below : Below 256 bs = taken 8 (drop at w) (dropped_bytes at w (bytes_below w fits)) in
    let same : between w at (at + count) ≡ take count bs = drop-take at count w ∙ sym (take-take count 8 (drop at w) few) in
    let is : word ≡ number_l 256 bs = e ∙ (at_place w at ∙ eight_of (drop at w) (omega (arith, length-drop at w, room))) in
    r ∙ (ap (λ k. folded k count) is ∙ (folded_is count bs few long below (subst AreDigits same are_digits) ∙ ap (digits_behind 0) (sym same)))

-- ---- digits kept behind those of before

-- so many digits whose number is joined to the one before
pub next_kept : (w : List ℕ) (from count before number power : ℕ) → from + 8 ≤ length w → count ≤ 8 → AreDigits (between w from (from + count))
    → number ≡ digits_behind 0 (between w from (from + count)) → power ≡ 10 ^ count → before < 10 ^ (19 - count)
    → KeepsDigits w from (from + count) before (before * power + number)
next_kept w from count before number power inside few are_digits v p room =
    let to : ℕ = from + count in let ds : List ℕ = between w from to in
    let within : to ≤ length w = omega (arith, inside, few) in
    let long : length ds ≡ count = omega (arith, part-length w from to (omega arith) within) in
    let power_is : power ≡ 10 ^ length ds = p ∙ ap (λ k. 10 ^ k) (sym long) in
    let value : before * power + number ≡ digits_behind before ds = rw (power_is, v) (sym (behind_split before 0 ds) ∙ ap (λ n. digits_behind n ds) (omega arith)) in
    record {
      order = omega arith;
      within = within;
      digits = are_digits;
      value = value;
      fits = room_more (before * power + number) (19 - count + (to - from)) 19 (kept_small w from to before (before * power + number) (19 - count) (omega arith) within are_digits value room) (omega (arith, few));
      full = λ big. elim (cases_eq count 0) [ inl none ↦ omega (arith, none) | inr some ↦ absurd (omega (arith, big, room_more before (19 - count) 18 room (omega (arith, some)))) ];
    }
