-- The front of the first four bytes in the place of that of all: no character in UTF-8 has more bytes.
-- For `units`.
use Rattle.std.proofs.Common.{◌≡◌, ◌≢◌, ℕ, [], ◌∷◌, flat_map, subst, refl, ◌<◌, ◌≤◌, List, length, take, slice_index, Some, None, Bool, sym, ◌∙◌, ap, arith, ◌⊎◌, inl, inr, true≢false, get_or-take, take-take}
use Rattle.std.proofs.lemmas.Bool.{cases_lt}
use Rattle.std.proofs.lemmas.List.{length-take}
use Rattle.std.proofs.lemmas.List.Sums.{prefix_len-le-length, prefix_len_passes, prefix_len_stops}
use Rattle.std.specs.List.{prefix_len}
use Rattle.std.specs.Str.{chars}
use Rattle.std.specs.Char.Escape.{encode_utf16}
use Rattle.at_lex.specs.Strings.{Character, is_plain, char_len}
use Rattle.at_lex.specs.Fronts.{IsFront}
use Rattle.at_lex.specs.UnitSteps.{Content, StepsOver}
use Rattle.at_lex.proofs.UnitLemmas.{wide_none, wide_some}

pub whole_front : (test : ℕ → Bool) (w : List ℕ) → IsFront test w (prefix_len test w)
whole_front test w = record { fits = prefix_len-le-length test w; passes = λ k h. prefix_len_passes test w k 0 h; stops = prefix_len_stops test w 0 }

-- it is the whole one, or all four bytes are on that
pub front_cut : (test : ℕ → Bool) (w : List ℕ) (k n : ℕ) → IsFront test (take 4 w) k → IsFront test w n → (k ≡ n) ⊎ ((k ≡ 4) × (4 ≤ n))
front_cut test w k n short front =
    let long = length-take 4 w in
    let fits = short.fits in
    let all = front.fits in
    elim (cases_lt n k) [
      | inl less ↦ absurd (true≢false (sym (short.passes n less) ∙ (ap test (get_or-take 4 w n 0 (omega (arith, less, fits, long))) ∙ front.stops (omega (arith, less, fits, long)))))
      | inr more ↦ elim (cases_lt k n) [
        | inr most ↦ inl (omega (arith, more, most))
        | inl further ↦ elim (cases_lt k 4) [
          | inl few ↦ absurd (true≢false (sym (front.passes k further) ∙ (sym (ap test (get_or-take 4 w k 0 few)) ∙ short.stops (omega (arith, few, further, all, long)))))
          | inr four ↦ inr (omega (arith, four, fits, long), omega (arith, four, further))
        ]
      ]
    ]

same_starts : (w : List ℕ) (k n : ℕ) → k ≤ 4 → (k ≡ n) ⊎ ((k ≡ 4) × (4 ≤ n)) → (j : ℕ) → j ≤ 4 → take j (take k (take 4 w)) ≡ take j (take n w)
same_starts w k n few (inl e) j h = ap (take j) (take-take k 4 w few ∙ ap (λ i. take i w) e)
same_starts w k n few (inr (e, more)) j h = ap (take j) (take-take k 4 w few) ∙ (take-take j k w (omega (arith, h, e)) ∙ sym (take-take j n w (omega (arith, h, more))))

pub starts_near : (test : ℕ → Bool) (w : List ℕ) (k : ℕ) → IsFront test (take 4 w) k → (j : ℕ) → j ≤ 4 → take j (take k (take 4 w)) ≡ take j (take (prefix_len test w) w)
starts_near test w k short = same_starts w k (prefix_len test w) (let f = short.fits in omega (arith, f, length-take 4 w)) (front_cut test w k (prefix_len test w) short (whole_front test w))

-- a character that begins the bytes is one of the first four
pub same_char_len : (u v : List ℕ) → ((j : ℕ) → j ≤ 4 → take j u ≡ take j v) → char_len u ≡ char_len v
same_char_len u v h = rw (h 1 (omega arith), h 2 (omega arith), h 3 (omega arith), h 4 (omega arith)) refl

module _ (cs : List Character) (w near : List ℕ) (content : Content cs w) (some : 1 < length w) (plain_first : slice_index w 0 ≢ 0x5C) (same : near ≡ take 4 w)
    (k : ℕ) (short : IsFront is_plain near k) where
  abbrev all : ℕ
  all = prefix_len is_plain w

  starts : (j : ℕ) → j ≤ 4 → take j (take k near) ≡ take j (take all w)
  starts j h = ap (λ v. take j (take k v)) same ∙ starts_near is_plain w k (subst (λ v. IsFront is_plain v k) same short) j h

  pub near_none : char_len (take k near) ≡ None → StepsOver w 1 (0xFFFD ∷ [])
  near_none none = wide_none cs w content some plain_first all (whole_front is_plain w) (sym (same_char_len (take k near) (take all w) starts) ∙ none)

  pub near_some : (m : ℕ) → 0 < m → m < 5 → char_len (take k near) ≡ Some m → StepsOver w (length (take m (take k near))) (flat_map encode_utf16 (chars (take m (take k near))))
  near_some m positive few is =
      let P : List ℕ → Type 0 = λ v. StepsOver w (length v) (flat_map encode_utf16 (chars v)) in
      subst P (sym (starts m (omega (arith, few)))) (wide_some cs w content some plain_first all (whole_front is_plain w) m positive (sym (same_char_len (take k near) (take all w) starts) ∙ is))
