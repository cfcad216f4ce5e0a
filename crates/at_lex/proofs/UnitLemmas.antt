-- The units of a string from left to right: what each step over its first bytes gives.
-- For `units`.
use Rattle.std.proofs.Common.{◌≡◌, ◌≢◌, ℕ, zero, suc, ◌+◌, ◌-◌, ◌<◌, ◌≤◌, min, List, [], ◌∷◌, ◌++◌, length, take, drop, slice_index, flat_map, Option, Some, None, Bool, true, false, ◌==◌, nat_lt, refl, sym, ◌∙◌, ap, subst, arith, true≢false, append-nil, length-append, length-take, length-drop, map}
use Rattle.std.specs.List.{list_any}
use Rattle.std.specs.Str.{is_utf8, chars, IsAscii}
use Rattle.std.proofs.lemmas.Str.{is_utf8-from_IsUtf8, IsUtf8-from_ascii, chars-IsAscii}
use Rattle.std.specs.Char.Escape.{encode_utf16}
use Rattle.at_lex.specs.Strings.{Character, plain, escape, unit, escapes, is_plain, AreCharacters, character_text, string_text, char_len, escape_unit, hex_unit, units_of}
use Rattle.at_lex.specs.Fronts.{IsFront}
use Rattle.at_lex.specs.UnitSteps.{bytes_ahead, first_units, further_bytes, units_after, Content, HasDigits, StepsOver}
use Rattle.at_lex.proofs.JsonString.{all_four}
use Rattle.at_lex.proofs.Stretches.{units_by_step}

-- the bytes of the characters and of the closing quote
abbrev pub rest_text : List Character → List ℕ
rest_text cs = flat_map character_text cs ++ 0x22 ∷ []

plain_no_slash : (b : ℕ) → is_plain b ≡ true → b ≢ 0x5C
plain_no_slash b h e = absurd (grind (arith, h, e))

escape_no_u : (l : ℕ) → list_any (λ (e : ℕ × ℕ). e.0 == l) escapes ≡ true → l ≢ 0x75
escape_no_u l h e = true≢false (sym h ∙ ap (λ c. list_any (λ (x : ℕ × ℕ). x.0 == c) escapes) e)

pub no_rest : (cs : List Character) (w : List ℕ) → Content cs w → length w ≤ 1 → cs ≡ []
no_rest [] w h k = refl
no_rest (plain b ∷ cs) w (h, e) k = absurd (omega (arith, k, ap length e, length-append (flat_map character_text cs) (0x22 ∷ [])))
no_rest (escape l ∷ cs) w (h, e) k = absurd (omega (arith, k, ap length e))
no_rest (unit a b c d ∷ cs) w (h, e) k = absurd (omega (arith, k, ap length e))

-- ---- escapes

abbrev Hex : List Character → List ℕ → Type 0
Hex cs w = (ds : List Character) × Content ds (drop 6 w) × (units_after 0 cs ≡ hex_unit (slice_index w 2) (slice_index w 3) (slice_index w 4) (slice_index w 5) ∷ units_after 0 ds)
    × (6 < length w) × HasDigits w

some_rest : (cs : List Character) → 0 < length (rest_text cs)
some_rest cs = omega (arith, length-append (flat_map character_text cs) (0x22 ∷ []))

hex_cases : (cs : List Character) → AreCharacters cs → slice_index (rest_text cs) 0 ≡ 0x5C → slice_index (rest_text cs) 1 ≡ 0x75 → Hex cs (rest_text cs)
hex_cases [] h e f = absurd (omega (arith, e))
hex_cases (plain b ∷ cs) (h, hs) e f = absurd (plain_no_slash b h e)
hex_cases (escape l ∷ cs) (h, hs) e f = absurd (escape_no_u l h f)
hex_cases (unit a b c d ∷ cs) (h, hs) e f = grind (arith, all_four, some_rest)

hex_at : (cs : List Character) (w : List ℕ) → Content cs w → slice_index w 0 ≡ 0x5C → slice_index w 1 ≡ 0x75 → Hex cs w
hex_at cs w (h, e) p q = let P : List ℕ → Type 0 = λ v. slice_index v 0 ≡ 0x5C → slice_index v 1 ≡ 0x75 → Hex cs v in subst P (sym e) (hex_cases cs h) p q

pub hex_digits : (cs : List Character) (w : List ℕ) → Content cs w → slice_index w 0 ≡ 0x5C → slice_index w 1 ≡ 0x75 → HasDigits w
hex_digits cs w h p q = let (ds, content, units, long, digits) = hex_at cs w h p q in digits

pub hex_steps : (cs : List Character) (w : List ℕ) → Content cs w → slice_index w 0 ≡ 0x5C → slice_index w 1 ≡ 0x75
    → StepsOver w 6 (hex_unit (slice_index w 2) (slice_index w 3) (slice_index w 4) (slice_index w 5) ∷ [])
hex_steps cs w h p q = let (ds, content, units, long, digits) = hex_at cs w h p q in record {
  some = omega arith;
  fits = long;
  stand = λ es k. let (fs, left, same, l, d) = hex_at es w k p q in (fs, left, same);
}

abbrev Short : List Character → List ℕ → Type 0
Short cs w = (ds : List Character) × Content ds (drop 2 w) × (units_after 0 cs ≡ escape_unit (slice_index w 1) ∷ units_after 0 ds) × (2 < length w)

short_cases : (cs : List Character) → AreCharacters cs → slice_index (rest_text cs) 0 ≡ 0x5C → slice_index (rest_text cs) 1 ≢ 0x75 → Short cs (rest_text cs)
short_cases [] h e f = absurd (omega (arith, e))
short_cases (plain b ∷ cs) (h, hs) e f = absurd (plain_no_slash b h e)
short_cases (escape l ∷ cs) (h, hs) e f = (cs, (hs, refl), refl, (let k = some_rest cs in omega (arith, k)))
short_cases (unit a b c d ∷ cs) (h, hs) e f = absurd (f refl)

short_at : (cs : List Character) (w : List ℕ) → Content cs w → slice_index w 0 ≡ 0x5C → slice_index w 1 ≢ 0x75 → Short cs w
short_at cs w (h, e) p q = let P : List ℕ → Type 0 = λ v. slice_index v 0 ≡ 0x5C → slice_index v 1 ≢ 0x75 → Short cs v in subst P (sym e) (short_cases cs h) p q

pub short_steps : (cs : List Character) (w : List ℕ) → Content cs w → slice_index w 0 ≡ 0x5C → slice_index w 1 ≢ 0x75 → StepsOver w 2 (escape_unit (slice_index w 1) ∷ [])
short_steps cs w h p q = let (ds, content, units, long) = short_at cs w h p q in record {
  some = omega arith;
  fits = long;
  stand = λ es k. let (fs, left, same, l) = short_at es w k p q in (fs, left, same);
}

-- ---- bytes that stand for themselves

-- the first character is a byte
abbrev First : List Character → List ℕ → Type 0
First cs w = (b : ℕ) × (ds : List Character) × (cs ≡ plain b ∷ ds) × (w ≡ b ∷ rest_text ds) × (is_plain b ≡ true) × AreCharacters ds

first_cases : (cs : List Character) → AreCharacters cs → 1 < length (rest_text cs) → slice_index (rest_text cs) 0 ≢ 0x5C → First cs (rest_text cs)
first_cases [] h k n = absurd (omega (arith, k))
first_cases (plain b ∷ cs) (h, hs) k n = (b, cs, refl, refl, h, hs)
first_cases (escape l ∷ cs) (h, hs) k n = absurd (n refl)
first_cases (unit a b c d ∷ cs) (h, hs) k n = absurd (n refl)

pub first_at : (cs : List Character) (w : List ℕ) → Content cs w → 1 < length w → slice_index w 0 ≢ 0x5C → First cs w
first_at cs w (h, e) k n = let P : List ℕ → Type 0 = λ v. 1 < length v → slice_index v 0 ≢ 0x5C → First cs v in subst P (sym e) (first_cases cs h) k n

one_ascii : (b : ℕ) → b < 128 → IsAscii (b ∷ [])
one_ascii b h = grind arith

ascii_is_text : (b : ℕ) → b < 128 → is_utf8 (b ∷ []) ≡ true
ascii_is_text b h = is_utf8-from_IsUtf8 (b ∷ []) (IsUtf8-from_ascii (b ∷ []) (one_ascii b h))

ascii_len : (b : ℕ) (w : List ℕ) → b < 128 → char_len (b ∷ w) ≡ Some 1
ascii_len b w h = rw (ascii_is_text b h) refl

ascii_units : (b : ℕ) (w : List ℕ) → b < 128 → first_units (b ∷ w) ≡ b ∷ []
ascii_units b w h =
    let one : first_units (b ∷ w) ≡ flat_map encode_utf16 (chars (b ∷ [])) = ap (λ (o : Option ℕ). units_by o (b ∷ w)) (ascii_len b w h) in
    one ∙ (ap (flat_map encode_utf16) (chars-IsAscii (b ∷ []) (one_ascii b h)) ∙ below b h)
  where
    units_by : Option ℕ → List ℕ → List ℕ
    units_by o bytes = elim o [ None ↦ 0xFFFD ∷ [] | Some n ↦ flat_map encode_utf16 (chars (take n bytes)) ]

    below : (c : ℕ) → c < 128 → flat_map encode_utf16 (c ∷ []) ≡ c ∷ []
    below c k = let small : nat_lt c 0x1_0000 ≡ true = grind (arith, k) in rw small refl

ascii_further : (b : ℕ) (w : List ℕ) → b < 128 → further_bytes (b ∷ w) ≡ 0
ascii_further b w h = ap (λ (o : Option ℕ). further_by o) (ascii_len b w h)
  where
    further_by : Option ℕ → ℕ
    further_by o = elim o [ None ↦ 0 | Some n ↦ n - 1 ]

pub ascii_steps : (cs : List Character) (w : List ℕ) → Content cs w → 1 < length w → slice_index w 0 ≢ 0x5C → slice_index w 0 < 128 → StepsOver w 1 (slice_index w 0 ∷ [])
ascii_steps cs w h k n small = record {
  some = omega arith;
  fits = k;
  stand = λ es i. let (b, ds, e, f, p, hs) = first_at es w i k n in
      let is : slice_index w 0 ≡ b = ap (λ v. slice_index v 0) f in
      let low : b < 128 = subst (λ x. x < 128) is small in (
        ds,
        (hs, ap (drop 1) f),
        ap (units_after 0) e ∙ (ap (λ u. u ++ units_after (further_bytes (b ∷ bytes_ahead ds)) ds) (ascii_units b (bytes_ahead ds) low)
            ∙ (ap (λ m. (b ∷ []) ++ units_after m ds) (ascii_further b (bytes_ahead ds) low) ∙ ap (λ x. x ∷ units_after 0 ds) (sym is))),
      );
}

-- ---- further bytes

next_front : (b : ℕ) (w : List ℕ) (n : ℕ) → IsFront is_plain (b ∷ w) (suc n) → IsFront is_plain w n
next_front b w n f = record { fits = (let k = f.fits in omega (arith, k)); passes = λ k h. f.passes (suc k) (omega (arith, h)); stops = λ h. f.stops (omega (arith, h)) }

-- what is ahead in a rest of a string is the front of its bytes that stand for themselves
front_ahead : (cs : List Character) (n : ℕ) → AreCharacters cs → IsFront is_plain (rest_text cs) n → take n (rest_text cs) ≡ bytes_ahead cs
front_ahead [] zero h f = refl
front_ahead [] (suc n) h f = absurd (true≢false (sym (f.passes 0 (omega arith))))
front_ahead (plain b ∷ cs) zero (h, hs) f = absurd (true≢false (sym h ∙ f.stops (omega arith)))
front_ahead (plain b ∷ cs) (suc n) (h, hs) f = ap (λ x. b ∷ x) (front_ahead cs n hs (next_front b (rest_text cs) n f))
front_ahead (escape l ∷ cs) zero h f = refl
front_ahead (escape l ∷ cs) (suc n) h f = absurd (true≢false (sym (f.passes 0 (omega arith))))
front_ahead (unit a b c d ∷ cs) zero h f = refl
front_ahead (unit a b c d ∷ cs) (suc n) h f = absurd (true≢false (sym (f.passes 0 (omega arith))))

front_of : (cs : List Character) (w : List ℕ) (n : ℕ) → Content cs w → IsFront is_plain w n → take n w ≡ bytes_ahead cs
front_of cs w n (h, e) f = ap (take n) e ∙ front_ahead cs n h (subst (λ v. IsFront is_plain v n) e f)

shorter_ahead : (cs : List Character) → length (bytes_ahead cs) < length (rest_text cs)
shorter_ahead [] = omega arith
shorter_ahead (plain b ∷ cs) = (let k = shorter_ahead cs in omega (arith, k))
shorter_ahead (escape l ∷ cs) = omega arith
shorter_ahead (unit a b c d ∷ cs) = omega arith

-- bytes that belong to a character that has its units already give none
skipped : (p j : ℕ) (cs : List Character) → j ≡ min p (length (bytes_ahead cs)) → units_after p cs ≡ units_after 0 (drop j cs)
skipped p zero [] e = grind arith
skipped p (suc j) [] e = absurd (omega (arith, e))
skipped zero zero (plain b ∷ cs) e = refl
skipped zero (suc j) (plain b ∷ cs) e = absurd (omega (arith, e))
skipped (suc p) zero (plain b ∷ cs) e = absurd (omega (arith, e))
skipped (suc p) (suc j) (plain b ∷ cs) e = skipped p j cs (omega (arith, e))
skipped zero zero (escape l ∷ cs) e = refl
skipped (suc p) zero (escape l ∷ cs) e = refl
skipped p (suc j) (escape l ∷ cs) e = absurd (omega (arith, e))
skipped zero zero (unit a b c d ∷ cs) e = refl
skipped (suc p) zero (unit a b c d ∷ cs) e = refl
skipped p (suc j) (unit a b c d ∷ cs) e = absurd (omega (arith, e))

-- as many bytes as characters, where each stands for itself
plain_drop : (j : ℕ) (cs : List Character) → AreCharacters cs → j ≤ length (bytes_ahead cs) → Content (drop j cs) (drop j (rest_text cs))
plain_drop zero [] h k = (h, refl)
plain_drop zero (c ∷ cs) h k = (h, refl)
plain_drop (suc j) [] h k = absurd (omega (arith, k))
plain_drop (suc j) (plain b ∷ cs) (h, hs) k = plain_drop j cs hs (omega (arith, k))
plain_drop (suc j) (escape l ∷ cs) h k = absurd (omega (arith, k))
plain_drop (suc j) (unit a b c d ∷ cs) h k = absurd (omega (arith, k))

units_by : Option ℕ → List ℕ → List ℕ
units_by o bytes = elim o [ None ↦ 0xFFFD ∷ [] | Some n ↦ flat_map encode_utf16 (chars (take n bytes)) ]

further_by : Option ℕ → ℕ
further_by o = elim o [ None ↦ 0 | Some n ↦ n - 1 ]

plain_units : (o : Option ℕ) (b : ℕ) (cs : List Character) → char_len (b ∷ bytes_ahead cs) ≡ o → units_after 0 (plain b ∷ cs) ≡ units_by o (b ∷ bytes_ahead cs) ++ units_after (further_by o) cs
unfolding units_by further_by
plain_units o b cs e = let P : Option ℕ → Type 0 = λ x. units_after 0 (plain b ∷ cs) ≡ units_by x (b ∷ bytes_ahead cs) ++ units_after (further_by x) cs in subst P e refl

pub wide_none : (cs : List Character) (w : List ℕ) → Content cs w → 1 < length w → slice_index w 0 ≢ 0x5C → (n : ℕ) → IsFront is_plain w n → char_len (take n w) ≡ None → StepsOver w 1 (0xFFFD ∷ [])
unfolding units_by further_by
wide_none cs w h k unslashed n f none = record {
  some = omega arith;
  fits = k;
  stand = λ es i. let (b, ds, e, g, p, hs) = first_at es w i k unslashed in
      let ahead : take n w ≡ b ∷ bytes_ahead ds = front_of es w n i f ∙ ap bytes_ahead e in
      (ds, (hs, ap (drop 1) g), ap (units_after 0) e ∙ plain_units None b ds (sym (ap char_len ahead) ∙ none));
}

pub wide_some : (cs : List Character) (w : List ℕ) → Content cs w → 1 < length w → slice_index w 0 ≢ 0x5C → (n : ℕ) → IsFront is_plain w n → (m : ℕ) → 0 < m → char_len (take n w) ≡ Some m
    → StepsOver w (length (take m (take n w))) (flat_map encode_utf16 (chars (take m (take n w))))
unfolding units_by further_by
wide_some cs w h k unslashed n f zero some e = absurd (omega arith)
wide_some cs w h k unslashed n f (suc p) some e = record {
  some = (let (b, ds, a, g, q, hs) = first_at cs w h k unslashed in let l = width cs h b ds a in omega (arith, l));
  fits = (let (b, ds, a, g, q, hs) = first_at cs w h k unslashed in let l = width cs h b ds a in let s = shorter_ahead ds in let t = ap length g in omega (arith, l, s, t));
  stand = λ es i. let (b, ds, a, g, q, hs) = first_at es w i k unslashed in
      let j = min p (length (bytes_ahead ds)) in
      let front : take n w ≡ b ∷ bytes_ahead ds = ahead es i b ds a in
      let long : length (take (suc p) (take n w)) ≡ suc j = width es i b ds a in
      let (rs, left) = plain_drop j ds hs (omega arith) in
      let text : take (suc p) (take n w) ≡ take (suc p) (b ∷ bytes_ahead ds) = ap (take (suc p)) front in (
        drop j ds,
        (rs, ap (λ x. drop x w) long ∙ (ap (drop (suc j)) g ∙ left)),
        ap (units_after 0) a ∙ (by_length b ds (sym (ap char_len front) ∙ e)
            ∙ (ap (λ u. u ++ units_after p ds) (ap (λ v. flat_map encode_utf16 (chars v)) (sym text))
            ∙ ap (λ u. flat_map encode_utf16 (chars (take (suc p) (take n w))) ++ u) (skipped p j ds refl))),
      );
}
  where
    ahead : (es : List Character) → Content es w → (b : ℕ) (ds : List Character) → es ≡ plain b ∷ ds → take n w ≡ b ∷ bytes_ahead ds
    ahead es i b ds a = front_of es w n i f ∙ ap bytes_ahead a

    width : (es : List Character) → Content es w → (b : ℕ) (ds : List Character) → es ≡ plain b ∷ ds → length (take (suc p) (take n w)) ≡ suc (min p (length (bytes_ahead ds)))
    width es i b ds a = length-take (suc p) (take n w) ∙ (ap (λ v. min (suc p) (length v)) (ahead es i b ds a) ∙ same_min p (length (bytes_ahead ds)))
      where
        same_min : (x y : ℕ) → min (suc x) (suc y) ≡ suc (min x y)
        same_min x y = omega arith

    by_length : (b : ℕ) (ds : List Character) → char_len (b ∷ bytes_ahead ds) ≡ Some (suc p) → units_after 0 (plain b ∷ ds) ≡ flat_map encode_utf16 (chars (take (suc p) (b ∷ bytes_ahead ds))) ++ units_after p ds
    by_length b ds x = plain_units (Some (suc p)) b ds x ∙ ap (λ y. flat_map encode_utf16 (chars (take (suc p) (b ∷ bytes_ahead ds))) ++ units_after y ds) (one_less p)
      where
        one_less : (x : ℕ) → suc x - 1 ≡ x
        one_less x = omega arith

-- ---- the whole string

-- the units so far, and what is left of the string
pub record HasUnits (w : List ℕ) (at : ℕ) (units : List ℕ) : Type 0 where
  pub from : 0 < at
  pub fits : at < length w
  pub left : (cs : List Character) → AreCharacters cs → w ≡ string_text cs → (ds : List Character) × Content ds (drop at w) × (units_after 0 cs ≡ units ++ units_after 0 ds)

pub all_units : (w : List ℕ) (at : ℕ) (units : List ℕ) → HasUnits w at units → length w ≤ at + 1 → (cs : List Character) → AreCharacters cs → w ≡ string_text cs → units ≡ units_of cs
all_units w at units h k cs i e = let (ds, content, same) = h.left cs i e in
    let none : ds ≡ [] = no_rest ds (drop at w) content (let l = length-drop at w in omega (arith, l, k)) in
    sym (units_by_step cs ∙ (same ∙ (ap (λ d. units ++ units_after 0 d) none ∙ append-nil units)))

-- ---- the first character in UTF-8

pub taken_min : (n : ℕ) (w : List ℕ) → take (min n (length w)) w ≡ take n w
taken_min zero [] = refl
taken_min zero (b ∷ w) = ap (λ k. take k (b ∷ w)) (no_min (length (b ∷ w)))
  where
    no_min : (x : ℕ) → min 0 x ≡ 0
    no_min x = omega arith
taken_min (suc n) [] = none (min (suc n) 0)
  where
    none : (k : ℕ) → take {A = ℕ} k [] ≡ take {A = ℕ} (suc n) []
    none zero = refl
    none (suc k) = refl
taken_min (suc n) (b ∷ w) = ap (λ k. take k (b ∷ w)) (same_min n (length w)) ∙ ap (λ x. b ∷ x) (taken_min n w)
  where
    same_min : (x y : ℕ) → min (suc x) (suc y) ≡ suc (min x y)
    same_min x y = omega arith

pub no_text : (b : Bool) → (b ≡ true → ⊥) → b ≡ false
no_text b h = grind arith

pub char_none : (w : List ℕ) → ((k : ℕ) → 0 < k → k < 5 → is_utf8 (take k w) ≡ false) → char_len w ≡ None
char_none w h = rw (h 1 (omega arith) (omega arith), h 2 (omega arith) (omega arith), h 3 (omega arith) (omega arith), h 4 (omega arith) (omega arith)) refl

pub char_some : (w : List ℕ) (n : ℕ) → 0 < n → n < 5 → ((k : ℕ) → 0 < k → k < n → is_utf8 (take k w) ≡ false) → is_utf8 (take n w) ≡ true → char_len w ≡ Some n
char_some w zero p q h e = absurd (omega arith)
char_some w (suc zero) p q h e = rw e refl
char_some w (suc (suc zero)) p q h e = rw (h 1 (omega arith) (omega arith), e) refl
char_some w (suc (suc (suc zero))) p q h e = rw (h 1 (omega arith) (omega arith), h 2 (omega arith) (omega arith), e) refl
char_some w (suc (suc (suc (suc zero)))) p q h e = rw (h 1 (omega arith) (omega arith), h 2 (omega arith) (omega arith), h 3 (omega arith) (omega arith), e) refl
char_some w (suc (suc (suc (suc (suc n))))) p q h e = absurd (omega (arith, q))

pub same_map : (xs : List ℕ) → map (λ x. x) xs ≡ xs
same_map [] = refl
same_map (x ∷ xs) = ap (λ ys. x ∷ ys) (same_map xs)
