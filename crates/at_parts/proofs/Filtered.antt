-- Items that are accepted behind their filter are as they were, and nowhere seem to leave the array of features.
-- For `sound_parts`, whose parts may be asked so.
use Rattle.std.proofs.Common.{◌≡◌, ◌==◌, ◌&&◌, ℕ, ◌⊎◌, inl, inr, Bool, true, false, true≢false, if◌then◌else◌, List, [], ◌∷◌, ◌++◌, drop, length, None, refl, sym, ◌∙◌, ap, subst}
use Rattle.std.proofs.lemmas.List.{drop_at, append_assoc}
use Rattle.at_fixed.specs.declared.rounding.Coords.{Coords}
use Rattle.at_filter.specs.declared.filter.Filter.TheVariants.{Items}
use Rattle.at_filter.specs.declared.filter.Seen.{Seen}
use Rattle.at_filter.specs.declared.filter.Seen.TheVariants.{Nothing, Object, Array, Comma}
use Rattle.at_filter.specs.Filters.{filtered, seen_behind, next_seen, is_comma}
use Rattle.at_filter.proofs.Filtering.{as_many, halves}
use Rattle.at_lex.specs.Spans.{AreSpaces}
use Rattle.at_query.specs.declared.features.Feature.{Feature}
use Rattle.at_run.specs.Files.{AreJsonFeatures}
use Rattle.at_run.specs.JsonFiles.{HasJsonFileFault}
use Rattle.at_seq.proofs.WholeRecords.{is_mark, IsUnparted, text_unparted}
use Rattle.at_parts.specs.Collections.{opening, closing, framed, SeemsToLeave, IsAlone, IsFiltered, IsListed}
use Rattle.at_parts.proofs.Stands.{whole_file}

-- ---- what stays as it is

behind_same : (a b c d : List ℕ) → length a ≡ length b → a ++ c ≡ b ++ d → c ≡ d
behind_same a b c d long e = sym (drop_at a c (length a) refl) ∙ ap (drop (length a)) e ∙ drop_at b d (length a) (sym long)

-- what stays as a whole stays behind each of its fronts
stays_behind : (seen : Seen) (x y : List ℕ) → filtered Items seen (x ++ y) ≡ x ++ y → filtered Items (seen_behind Items seen x) y ≡ y
stays_behind seen x y e = behind_same (filtered Items seen x) x (filtered Items (seen_behind Items seen x) y) y (as_many Items seen x) (sym (halves Items seen x y) ∙ e)

space_seen : (seen : Seen) (s : List ℕ) → AreSpaces s → seen_behind Items seen s ≡ seen
space_seen seen [] h = refl
space_seen seen (b ∷ s) (h, hs) = rw h (space_seen seen s hs)

stays_behind_spaces : (seen : Seen) (s y : List ℕ) → AreSpaces s → filtered Items seen (s ++ y) ≡ s ++ y → filtered Items seen y ≡ y
stays_behind_spaces seen s y h e = subst (λ n. filtered Items n y ≡ y) (space_seen seen s h) (stays_behind seen s y e)

-- a quote behind a comma doesn't stay
never_from : (seen : Seen) (s t u d : List ℕ) → AreSpaces s → AreSpaces t → AreSpaces u → filtered Items seen (0x7D ∷ (s ++ (0x5D ∷ (t ++ (0x2C ∷ (u ++ (0x22 ∷ d))))))) ≡ 0x7D ∷ (s ++ (0x5D ∷ (t ++ (0x2C ∷ (u ++ (0x22 ∷ d)))))) → ⊥
never_from seen s t u d hs ht hu e =
    let object = stays_behind_spaces Object s (0x5D ∷ (t ++ (0x2C ∷ (u ++ (0x22 ∷ d))))) hs (stays_behind seen (0x7D ∷ []) (s ++ (0x5D ∷ (t ++ (0x2C ∷ (u ++ (0x22 ∷ d)))))) e) in
    let array = stays_behind_spaces Array t (0x2C ∷ (u ++ (0x22 ∷ d))) ht (stays_behind Object (0x5D ∷ []) (t ++ (0x2C ∷ (u ++ (0x22 ∷ d)))) object) in
    let comma = stays_behind_spaces Comma u (0x22 ∷ d) hu (stays_behind Array (0x2C ∷ []) (u ++ (0x22 ∷ d)) array) in
    absurd (cc)

-- bytes that stay as they are nowhere seem to leave an array
never_leaves : (w : List ℕ) → filtered Items Nothing w ≡ w → SeemsToLeave w → ⊥
never_leaves w e (a, r, d, split, (o, x, e1, is_o, (s, y, e2, hs, (c, z, e3, is_c, (t, v, e4, ht, (m, q, e5, is_m, (u, k, e6, hu, is_k))))))) =
    let first : r ≡ 0x7D ∷ (s ++ (0x5D ∷ (t ++ (0x2C ∷ (u ++ (0x22 ∷ [])))))) = rw (e1, is_o, e2, e3, is_c, e4, e5, is_m, e6, is_k) refl in
    let all : w ≡ a ++ (0x7D ∷ (s ++ (0x5D ∷ (t ++ (0x2C ∷ (u ++ (0x22 ∷ d))))))) = split ∙ ap (λ p. a ++ p) (ap (λ p. p ++ d) first ∙ (simp append_assoc)) in
    never_from (seen_behind Items Nothing a) s t u d hs ht hu (stays_behind Nothing a (0x7D ∷ (s ++ (0x5D ∷ (t ++ (0x2C ∷ (u ++ (0x22 ∷ d)))))))
    (subst (λ p. filtered Items Nothing p ≡ p) all e))

-- ---- what is accepted stays as it is

same_byte : (b : ℕ) (t : Bool) → is_mark (if t then 0x01 else b) ≡ false → (if t then 0x01 else b) ≡ b
same_byte b true h = absurd (true≢false h)
same_byte b false h = refl

unparted_same : (seen : Seen) (w : List ℕ) → IsUnparted (filtered Items seen w) → filtered Items seen w ≡ w
unparted_same seen [] h = refl
unparted_same seen (b ∷ w) (h, hs) = ap (λ c. c ∷ filtered Items (next_seen seen b) w) (same_byte b (is_comma seen && b == 0x22) h) ∙ ap (λ r. b ∷ r) (unparted_same (next_seen seen b) w hs)

in_frame : (text : List ℕ) → SeemsToLeave text → SeemsToLeave (framed text)
in_frame text (a, r, d, e, k) = (
  opening ++ a,
  r,
  d ++ closing,
  rw e (simp append_assoc),
  k,
)

module _ (digits : ℕ) (how : Coords) where
  accepted_same : (rest : List ℕ) → HasJsonFileFault digits how (filtered Items Nothing (0x7B ∷ rest)) None → filtered Items Nothing (0x7B ∷ rest) ≡ 0x7B ∷ rest
  accepted_same rest none =
      let (t, ht, twins, roles) = (whole_file digits how (filtered Items Nothing (0x7B ∷ rest)) none).1 in
      unparted_same Nothing (0x7B ∷ rest) (text_unparted t 0 (filtered Items Nothing (0x7B ∷ rest)) ht)

  filtered_alone : (text : List ℕ) (own : List Feature) → IsFiltered digits how text own → IsAlone digits how text own
  filtered_alone text own h =
      let e : filtered Items Nothing (framed text) ≡ framed text = accepted_same _ h.no_fault in
      record {
        no_fault = subst (λ v. HasJsonFileFault digits how v None) e h.no_fault;
        has = subst (λ v. AreJsonFeatures digits how v own) e h.has;
        stays = inl (λ seems. never_leaves (framed text) e (in_frame text seems));
      }

  -- so a part is told in two ways
  pub unfiltered : (text : List ℕ) (own : List Feature) → IsAlone digits how text own ⊎ (IsFiltered digits how text own ⊎ IsListed digits how text own) → IsAlone digits how text own ⊎ IsListed digits how text own
  unfiltered text own (inl h) = inl h
  unfiltered text own (inr (inl h)) = inl (filtered_alone text own h)
  unfiltered text own (inr (inr h)) = inr h
