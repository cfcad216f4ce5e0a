-- From a mask of bytes to the digits that it marks.
-- For `leading_number`, `plain_len` and `plain_number`.
use Rattle.std.proofs.Common.{◌≡◌, ℕ, zero, suc, bit_and, ◌*◌, ◌+◌, ◌-◌, ◌/◌, ◌%◌, ◌^◌, ◌<◌, ◌≤◌, Bool, true, false, not, cond, List, map, length, get_or, slice_index, Fits, w8, w64, refl, sym, ap, ◌∙◌, subst, arith, inl, inr}
use Rattle.std.specs.Int.{bit_at, trailing_zeros}
use Rattle.std.proofs.Math.Nat.{div-div-eq-div-mul}
use Rattle.std.proofs.lemmas.Nat.{pow-add, pow_pos}
use Rattle.std.proofs.lemmas.Nat.Bits.{bit_at-pow_other, bit_at-pow_same, bit_at-trailing_zeros, bit_at-zero, bit_at_above, bit_at_and, bit_at_cat_high, bit_at_cat_low, bit_at_ones_above, same_from_bits}
use Rattle.std.proofs.lemmas.Bool.{agree_below, agree_below_at, cases_lt}
use Rattle.std.proofs.lemmas.Simd.{map-map, mask_l-mod, mask_l-lt, bit_mask_l, length-chunk, get_or-chunk}
use Rattle.std.proofs.lemmas.List.{length-map, get_or-map}
use lib.Lanes.{chunk, mask_l, top}
use Rattle.at_text.specs.Texts.{is_digit}
use Rattle.at_fixed.specs.Numerals.{AreDigits}
use Rattle.at_fixed.specs.NumberSoFar.{between}
use Rattle.at_fixed.specs.Scans.{EndsRun, ReadsSign}
use Rattle.at_fixed.specs.declared.notation.Notation.{Notation}
use Rattle.at_fixed.specs.declared.scanning.Sign.{Sign}
use Rattle.at_fixed.specs.States.{is_lead_sign}
use Rattle.at_fixed.specs.Gaps.{AreFirstTwo, MarksGaps, MarksGapsFrom, IsClearedTo, IsFirstSet}
use Rattle.at_fixed.proofs.EightDigits.{run_digits}

-- a bit for each byte where no digit stands
abbrev bit : Bool → ℕ
bit b = cond b 0 1

negated : (b : Bool) → cond (not b) 1 0 ≡ bit b
negated b = grind arith

-- the mask of lanes that were computed from the bytes
pub gaps_marked : (w : List ℕ) (at count : ℕ) (z : List ℕ) (f : ℕ → ℕ) → count ≤ 64 → at + count ≤ length w → ((k : ℕ) → Fits w8 (get_or w k 0)) → z ≡ map f (chunk at count w)
    → agree_below (λ x. top 7 (f x)) (λ x. not (is_digit x)) 256 ≡ true → MarksGaps w at count (mask_l (map (top 7) z) % 2 ^ 64)
gaps_marked w at count z f small room fits lanes all =
    let v = chunk at count w in
    let stops : ℕ → Bool = λ x. top 7 (f x) in
    let long : length v ≡ count = length-chunk at count w room in
    let mask : mask_l (map (top 7) z) % 2 ^ 64 ≡ mask_l (map stops v) =
    ap (λ l. mask_l l % 2 ^ 64) (ap (map (top 7)) lanes ∙ map-map (top 7) f v) ∙ mask_l-mod (map stops v) 64 (omega (arith, length-map v stops, long, small)) in
    let same : length (map stops v) ≡ count = length-map v stops ∙ long in
    record {
      each = λ k few.
          let lane : get_or (map stops v) k false ≡ not (is_digit (slice_index w (at + k))) =
          get_or-map stops v k 0 false (omega (arith, few, long)) ∙ (ap stops (get_or-chunk at count w k 0 few) ∙ agree_below_at stops (λ x. not (is_digit x)) 256 (get_or w (at + k) 0) all (fits (at + k)).fits) in
          ap (λ m. bit_at m k) mask ∙ (bit_mask_l (map stops v) k ∙ (ap (λ b. cond b 1 0) lane ∙ negated (is_digit (slice_index w (at + k)))));
      small = let P : ℕ → Type 0 = λ m. m < 2 ^ count in let Q : ℕ → Type 0 = λ n. mask_l (map stops v) < 2 ^ n in subst P (sym mask) (subst Q same (mask_l-lt (map stops v)));
    }

shifted : (m from i : ℕ) → bit_at (m / 2 ^ from) i ≡ bit_at m (from + i)
shifted m from i = ap (λ n. n % 2) (div-div-eq-div-mul m (2 ^ from) (2 ^ i) ∙ ap (λ n. m / n) (sym (pow-add 2 from i)))

-- ---- without the lowest bit that is set

module _ (m t : ℕ) (one : bit_at m t ≡ 1) (below : (i : ℕ) → i < t → bit_at m i ≡ 0) where
  abbrev high : ℕ
  high = m / 2 ^ (t + 1)

  power_some : 0 < 2 ^ t
  power_some = pow_pos t

  power_less : 2 ^ t < 2 ^ (t + 1)
  power_less = omega (arith, pow-add 2 t 1, power_some)

  high_bits : (i : ℕ) → t < i → bit_at high (i - (t + 1)) ≡ bit_at m i
  high_bits i above = shifted m (t + 1) (i - (t + 1)) ∙ ap (bit_at m) (omega (arith, above))

  split_bits : (i : ℕ) → bit_at m i ≡ bit_at (high * 2 ^ (t + 1) + 2 ^ t) i
  split_bits i = elim (cases_lt i t) [
    | inl less ↦ below i less ∙ sym (bit_at_cat_low high (t + 1) (2 ^ t) i (omega (arith, less)) ∙ bit_at-pow_other t i (λ e. absurd (omega (arith, e, less))))
    | inr more ↦ elim (cases_lt t i) [
      | inl above ↦ sym (bit_at_cat_high high (t + 1) (2 ^ t) i power_less (omega (arith, above)) ∙ high_bits i above)
      | inr most ↦ (let same : t ≡ i = omega (arith, more, most) in
          let P : ℕ → Type 0 = λ k. bit_at m k ≡ bit_at (high * 2 ^ (t + 1) + 2 ^ t) k in
          subst P same (one ∙ sym (bit_at_cat_low high (t + 1) (2 ^ t) t (omega arith) ∙ bit_at-pow_same t)))
    ]
  ]

  one_less : m - 1 ≡ high * 2 ^ (t + 1) + (2 ^ t - 1)
  one_less = omega (arith, same_from_bits m (high * 2 ^ (t + 1) + 2 ^ t) split_bits, power_some)

  pub less_here : bit_at (m - 1) t ≡ 0
  less_here = ap (λ n. bit_at n t) one_less ∙ (bit_at_cat_low high (t + 1) (2 ^ t - 1) t (omega arith) ∙ bit_at_ones_above t t (omega arith))

  pub less_above : (i : ℕ) → t < i → bit_at (m - 1) i ≡ bit_at m i
  less_above i above = ap (λ n. bit_at n i) one_less ∙ (bit_at_cat_high high (t + 1) (2 ^ t - 1) i (omega (arith, power_less)) (omega (arith, above)) ∙ high_bits i above)

  cleared_bits : (k : ℕ) → k ≤ t → bit_at (bit_and m (m - 1)) k ≡ 0
  cleared_bits k near = elim (cases_lt k t) [
    | inl less ↦ omega (arith, bit_at_and m (m - 1) k, below k less)
    | inr more ↦ (let same : t ≡ k = omega (arith, near, more) in
        let P : ℕ → Type 0 = λ z. bit_at (bit_and m (m - 1)) z ≡ 0 in subst P same (omega (arith, bit_at_and m (m - 1) t, less_here)))
  ]

pub cleared : (m place : ℕ) → IsFirstSet m 0 place → IsClearedTo m place (bit_and m (m - 1))
cleared m place first = record {
  clear = cleared_bits m place first.set (λ i less. first.clear i (omega arith) less);
  same = λ k above. omega (arith, bit_at_and m (m - 1) k, less_above m place first.set (λ i less. first.clear i (omega arith) less) k above);
}

pub first_is_set : (m : ℕ) → 0 < m → m < 2 ^ 64 → IsFirstSet m 0 (trailing_zeros w64 m)
first_is_set m some fits =
    let (_, one, clear) = bit_at-trailing_zeros w64 m some fits in
    record { order = omega arith; clear = λ k after before. clear k before; set = one }

-- ---- the marks from a place on

each_first : (w : List ℕ) (count gaps k : ℕ) → MarksGaps w 0 count gaps → k < count → bit_at gaps k ≡ bit (is_digit (slice_index w k))
each_first w count gaps k marks before = let P : ℕ → Type 0 = λ n. bit_at gaps k ≡ bit (is_digit (slice_index w n)) in subst P (omega arith) (marks.each k before)

-- a sign takes the first place, or none does
marks_behind : (w : List ℕ) (count gaps sign : ℕ) → MarksGaps w 0 count gaps → (sign ≡ 1 → bit_at gaps 0 ≡ 1) → sign ≤ 1 → MarksGapsFrom w count sign (gaps - sign)
marks_behind w count gaps zero marks first few =
    let none : gaps - 0 ≡ gaps = omega arith in
    let P : ℕ → Type 0 = λ n. MarksGapsFrom w count 0 n in
    subst P (sym none) (record { each = λ k after before. each_first w count gaps k marks before; clear = λ k less. absurd (omega (arith, less)); small = marks.small })
marks_behind w count gaps (suc zero) marks first few = record {
  each = λ k after before. less_above gaps 0 (first refl) (λ i less. absurd (omega (arith, less))) k after ∙ each_first w count gaps k marks before;
  clear = λ k less. let same : 0 ≡ k = omega (arith, less) in
      let P : ℕ → Type 0 = λ z. bit_at (gaps - 1) z ≡ 0 in subst P same (less_here gaps 0 (first refl) (λ i none. absurd (omega (arith, none))));
  small = omega (arith, marks.small);
}
marks_behind w count gaps (suc (suc n)) marks first few = absurd (omega (arith, few))

sign_no_digit : (g : Notation) (b : ℕ) → is_lead_sign g b ≡ true → is_digit b ≡ false
sign_no_digit g b h = grind arith

-- behind the sign that a number may have
pub marks_behind_sign : (g : Notation) (w : List ℕ) (count gaps : ℕ) (sign : Sign) → 0 < count → MarksGaps w 0 count gaps → ReadsSign g w 0 sign → MarksGapsFrom w count sign.end (gaps - sign.end) × (sign.end ≤ gaps)
marks_behind_sign g w count gaps sign some marks (inl (e, m, h)) =
    let P : ℕ → Type 0 = λ n. MarksGapsFrom w count n (gaps - n) × (n ≤ gaps) in subst P (sym e) (marks_behind w count gaps 0 marks (λ none. absurd (cc)) (omega arith), omega arith)
marks_behind_sign g w count gaps sign some marks (inr (e, inside, lead, m)) =
    let first : bit_at gaps 0 ≡ 1 = each_first w count gaps 0 marks some ∙ ap bit (sign_no_digit g (slice_index w 0) lead) in
    let P : ℕ → Type 0 = λ n. MarksGapsFrom w count n (gaps - n) × (n ≤ gaps) in subst P (sym e) (marks_behind w count gaps 1 marks (λ one. first) (omega arith), odd_some gaps first) where
      odd_some : (n : ℕ) → bit_at n 0 ≡ 1 → 1 ≤ n
      odd_some zero h = absurd (cc (sym (bit_at-zero 0) ∙ h))
      odd_some (suc n) h = omega arith

-- behind the first place that is marked
pub marks_further : (w : List ℕ) (count from gaps place rest : ℕ) → MarksGapsFrom w count from gaps → IsFirstSet gaps 0 place → from ≤ place → IsClearedTo gaps place rest → rest ≤ gaps → MarksGapsFrom w count (place + 1) rest
marks_further w count from gaps place rest h k l m n = grind arith

is_set : (b : Bool) → bit b ≡ 0 → b ≡ true
is_set b h = grind (arith, h)

is_clear : (b : Bool) → bit b ≡ 1 → b ≡ false
is_clear b h = grind (arith, h)

-- ---- the digits before it

digits_to : (w : List ℕ) (from to : ℕ) → from ≤ to → to ≤ length w → ((k : ℕ) → from ≤ k → k < to → is_digit (slice_index w k) ≡ true) → AreDigits (between w from to)
digits_to w from to order within each =
    let place : from + (to - from) ≡ to = omega arith in
    subst (λ z. AreDigits (between w from z)) place (run_digits w from (to - from) (omega arith) (λ k after before. each k after (omega (arith, before, place))))

-- they end at the first place that is marked
pub ends_first : (w : List ℕ) (count from end gaps : ℕ) → count ≤ length w → MarksGapsFrom w count from gaps → IsFirstSet gaps 0 end → EndsRun w from end × (end < count)
ends_first w count from end gaps h k l = grind (arith, cases_lt, bit_at_above, digits_to, is_set, is_clear)

-- and those behind it at the second
pub ends_twice : (w : List ℕ) (count from gaps : ℕ) (places : ℕ × ℕ) → count ≤ length w → MarksGapsFrom w count from gaps → AreFirstTwo gaps places
    → EndsRun w from places.0 × EndsRun w (places.0 + 1) places.1 × (places.1 < count)
ends_twice w count from gaps places long marks two =
    let (run, near) = ends_first w count from places.0 gaps long marks two.first in
    let further = marks_further w count from gaps places.0 two.rest marks two.first run.order two.cleared two.less in
    let (behind, last) = ends_first w count (places.0 + 1) places.1 two.rest long further two.second in (run, behind, last)
