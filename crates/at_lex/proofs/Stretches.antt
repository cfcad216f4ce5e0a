-- The units of a string by stretches of bytes are those that it has read step by step, character after character.
use Rattle.std.proofs.Common.{◌≡◌, ℕ, zero, suc, ◌-◌, ◌<◌, ◌≤◌, ◌&&◌, List, [], ◌∷◌, ◌++◌, length, take, drop, map, flat_map, cond, Option, Some, None, Bool, true, false, inl, inr, refl, sym, ◌∙◌, ap, subst, arith, true≢false, append-nil, append_assoc, length-drop}
use Rattle.std.specs.List.{find, AllByRecursion}
use Rattle.std.specs.Str.{is_utf8, chars, IsUtf8}
use Rattle.std.specs.Char.{len_utf8}
use Rattle.std.specs.Char.Escape.{encode_utf16}
use Rattle.std.proofs.Math.Utf8.{scalar, scalars, encode, encodes}
use Rattle.std.proofs.Math.Seq.{take-append_seam}
use Rattle.std.proofs.lemmas.Bool.{and_parts, cases_lt}
use Rattle.std.proofs.lemmas.Option.{none-some, same_Some}
use Rattle.std.proofs.lemmas.List.{map-append, take-append-drop}
use Rattle.std.proofs.lemmas.Grind.{flat_map-append}
use Rattle.std.proofs.lemmas.Str.{is_utf8-from_IsUtf8, IsUtf8-from_is_utf8, IsUtf8-nil, IsUtf8-drop, IsCharBoundary-from_take, chars-append, chars-nil, length-encode, len_utf8_bounds}
use Rattle.at_lex.specs.Strings.{Character, plain, escape, unit, char_len, broken_units, stretch_units, escape_unit, hex_unit, units_behind, units_of}
use Rattle.at_lex.specs.UnitSteps.{bytes_ahead, first_units, further_bytes, units_after}

-- ---- bytes before an escape or the end

abbrev plains : List ℕ → List Character
plains bytes = map (λ b. plain b) bytes

-- no byte comes first
abbrev Parted : List Character → Type 0
Parted cs = bytes_ahead cs ≡ []

ahead_of : (v : List ℕ) (cs : List Character) → Parted cs → bytes_ahead (plains v ++ cs) ≡ v
ahead_of [] cs h = h
ahead_of (b ∷ v) cs h = ap (λ z. b ∷ z) (ahead_of v cs h)

after_parted : (p : ℕ) (cs : List Character) → Parted cs → units_after p cs ≡ units_after 0 cs
after_parted zero cs h = refl
after_parted (suc p) [] h = refl
after_parted (suc p) (plain b ∷ cs) h = absurd (omega (arith, ap length h))
after_parted (suc p) (escape l ∷ cs) h = refl
after_parted (suc p) (unit a b c d ∷ cs) h = refl

-- bytes that are passed over give no units
after_some : (p : ℕ) (v : List ℕ) (cs : List Character) → Parted cs → units_after p (plains v ++ cs) ≡ units_after 0 (plains (drop p v) ++ cs)
after_some zero v cs h = refl
after_some (suc p) [] cs h = after_parted (suc p) cs h
after_some (suc p) (b ∷ v) cs h = after_some p v cs h

-- ---- the first character

units_by : Option ℕ → List ℕ → List ℕ
units_by o bytes = elim o [ None ↦ 0xFFFD ∷ [] | Some n ↦ flat_map encode_utf16 (chars (take n bytes)) ]

further_by : Option ℕ → ℕ
further_by o = elim o [ None ↦ 0 | Some n ↦ n - 1 ]

rest_by : ℕ → Option ℕ → ℕ → List ℕ → List ℕ
rest_by count o b v = elim o [ None ↦ 0xFFFD ∷ broken_units count v | Some n ↦ flat_map encode_utf16 (chars (take n (b ∷ v))) ++ broken_units count (drop n (b ∷ v)) ]

found_some : (test : ℕ → Bool) (ks : List ℕ) (n : ℕ) → find test ks ≡ Some n → (test n ≡ true)
found_some test [] n e = absurd (none-some n e)
found_some test (k ∷ ks) n e = go (test k) refl e (found_some test ks n) where
  go : (b : Bool) → test k ≡ b → cond b (Some k) (find test ks) ≡ Some n → (find test ks ≡ Some n → test n ≡ true) → test n ≡ true
  go true h f more = ap test (sym (same_Some k n f)) ∙ h
  go false h f more = more f

found_positive : (test : ℕ → Bool) (ks : List ℕ) (n : ℕ) → AllByRecursion (λ k. 0 < k) ks → find test ks ≡ Some n → 0 < n
found_positive test [] n h e = absurd (none-some n e)
found_positive test (k ∷ ks) n (h, hs) e = go (test k) e (found_positive test ks n hs) where
  go : (b : Bool) → cond b (Some k) (find test ks) ≡ Some n → (find test ks ≡ Some n → 0 < n) → 0 < n
  go true f more = subst (λ m. 0 < m) (same_Some k n f) h
  go false f more = more f

found_none : (test : ℕ → Bool) (ks : List ℕ) → find test ks ≡ None → AllByRecursion (λ k. test k ≡ false) ks
found_none test [] e = tt
found_none test (k ∷ ks) e = go (test k) refl e (found_none test ks) where
  go : (b : Bool) → test k ≡ b → cond b (Some k) (find test ks) ≡ None → (find test ks ≡ None → AllByRecursion (λ k. test k ≡ false) ks) → (test k ≡ false) × AllByRecursion (λ k. test k ≡ false) ks
  go true h f more = absurd (none-some k (sym f))
  go false h f more = (h, more f)

char_positive : (w : List ℕ) (n : ℕ) → char_len w ≡ Some n → 0 < n
char_positive w n e = found_positive (λ m. is_utf8 (take m w)) (1 ∷ 2 ∷ 3 ∷ 4 ∷ []) n (omega arith, (omega arith, (omega arith, (omega arith, tt)))) e

char_is_text : (w : List ℕ) (n : ℕ) → char_len w ≡ Some n → is_utf8 (take n w) ≡ true
char_is_text w n e = found_some (λ m. is_utf8 (take m w)) (1 ∷ 2 ∷ 3 ∷ 4 ∷ []) n e

one_of_four : (P : ℕ → Type 0) (n : ℕ) → 1 ≤ n → n ≤ 4 → AllByRecursion P (1 ∷ 2 ∷ 3 ∷ 4 ∷ []) → P n
one_of_four P n h k l = grind arith

-- ---- bytes that are UTF-8

-- a character begins them
text_begins : (b : ℕ) (v : List ℕ) → IsUtf8 (b ∷ v) → char_len (b ∷ v) ≡ None → ⊥
text_begins b v ([], (s, e)) none = absurd (omega (arith, ap length e))
text_begins b v (c ∷ cs, (s, e)) none =
    let size : length (encode c) ≡ len_utf8 c = length-encode c in
    let bounds = len_utf8_bounds c in
    let front : take (length (encode c)) (b ∷ v) ≡ encode c = ap (take (length (encode c))) (sym e) ∙ take-append_seam (encode c) (encodes cs) in
    let one : IsUtf8 (encode c) = (c ∷ [], (ap (λ z. z && true) (and_parts (scalar c) (scalars cs) s).0, append-nil (encode c))) in
    let yes : is_utf8 (take (length (encode c)) (b ∷ v)) ≡ true = ap is_utf8 front ∙ is_utf8-from_IsUtf8 (encode c) one in
    let no = one_of_four (λ n. is_utf8 (take n (b ∷ v)) ≡ false) (length (encode c)) (omega (arith, size, bounds.0)) (omega (arith, size, bounds.1)) (found_none (λ n. is_utf8 (take n (b ∷ v))) (1 ∷ 2 ∷ 3 ∷ 4 ∷ []) none) in
    absurd (true≢false (sym yes ∙ no))

none_behind : (n : ℕ) (w : List ℕ) → length w ≤ n → drop n w ≡ []
none_behind zero [] h = refl
none_behind zero (b ∷ w) h = absurd (omega (arith, h))
none_behind (suc n) [] h = refl
none_behind (suc n) (b ∷ w) h = none_behind n w (omega (arith, h))

-- what stands behind a front that is UTF-8 is too
rest_is_text : (w : List ℕ) (n : ℕ) → IsUtf8 w → IsUtf8 (take n w) → IsUtf8 (drop n w)
rest_is_text w n u front = elim (cases_lt (length w) n) [
  | inl short ↦ subst IsUtf8 (sym (none_behind n w (omega (arith, short)))) IsUtf8-nil
  | inr long ↦ IsUtf8-drop w n u (IsCharBoundary-from_take w n u (omega (arith, long)) front)
]

pub units_of_text : (count : ℕ) (w : List ℕ) → IsUtf8 w → length w ≤ count → broken_units count w ≡ flat_map encode_utf16 (chars w)
unfolding rest_by
units_of_text zero [] u h = ap (flat_map encode_utf16) (sym chars-nil)
units_of_text zero (b ∷ v) u h = absurd (omega (arith, h))
units_of_text (suc count) [] u h = ap (flat_map encode_utf16) (sym chars-nil)
units_of_text (suc count) (b ∷ v) u h = go (char_len (b ∷ v)) refl (units_of_text count)
  where
    go : (o : Option ℕ) → char_len (b ∷ v) ≡ o → ((x : List ℕ) → IsUtf8 x → length x ≤ count → broken_units count x ≡ flat_map encode_utf16 (chars x)) → rest_by count (char_len (b ∷ v)) b v ≡ flat_map encode_utf16 (chars (b ∷ v))
    go None e more = absurd (text_begins b v u e)
    go (Some n) e more =
        let front : IsUtf8 (take n (b ∷ v)) = IsUtf8-from_is_utf8 (take n (b ∷ v)) (char_is_text (b ∷ v) n e) in
        let behind : IsUtf8 (drop n (b ∷ v)) = rest_is_text (b ∷ v) n u front in
        let size = length-drop n (b ∷ v) in
        let some = char_positive (b ∷ v) n e in
        let whole : chars (b ∷ v) ≡ chars (take n (b ∷ v)) ++ chars (drop n (b ∷ v)) = ap chars (sym (take-append-drop n (b ∷ v))) ∙ chars-append (take n (b ∷ v)) (drop n (b ∷ v)) front in
        ap (λ o. rest_by count o b v) e ∙ (ap (λ z. flat_map encode_utf16 (chars (take n (b ∷ v))) ++ z) (more (drop n (b ∷ v)) behind (omega (arith, size, some, h)))
        ∙ (sym (flat_map-append encode_utf16 (chars (take n (b ∷ v))) (chars (drop n (b ∷ v)))) ∙ ap (flat_map encode_utf16) (sym whole)))

-- any bytes, as those that aren't UTF-8
pub stretch_any : (w : List ℕ) → stretch_units w ≡ broken_units (length w) w
stretch_any w = grind (arith, units_of_text, IsUtf8-from_is_utf8)

-- ---- step by step

abbrev Stepped : ℕ → ℕ → List ℕ → List Character → Option ℕ → Type 0
Stepped count b v cs o = units_by o (b ∷ v) ++ units_after (further_by o) (plains v ++ cs) ≡ rest_by count o b v ++ units_after 0 cs

by_step : (count : ℕ) (w : List ℕ) (cs : List Character) → Parted cs → length w ≤ count → units_after 0 (plains w ++ cs) ≡ broken_units count w ++ units_after 0 cs
unfolding units_by further_by rest_by
by_step zero [] cs p h = refl
by_step zero (b ∷ v) cs p h = absurd (omega (arith, h))
by_step (suc count) [] cs p h = refl
by_step (suc count) (b ∷ v) cs p h = first ∙ go (char_len (b ∷ v)) refl (λ x k. by_step count x cs p k)
  where
    first : units_after 0 (plain b ∷ (plains v ++ cs)) ≡ units_by (char_len (b ∷ v)) (b ∷ v) ++ units_after (further_by (char_len (b ∷ v))) (plains v ++ cs)
    first = ap (λ z. first_units (b ∷ z) ++ units_after (further_bytes (b ∷ z)) (plains v ++ cs)) (ahead_of v cs p)

    known : (o : Option ℕ) → char_len (b ∷ v) ≡ o → ((x : List ℕ) → length x ≤ count → units_after 0 (plains x ++ cs) ≡ broken_units count x ++ units_after 0 cs) → Stepped count b v cs o
    known None e more = ap (λ z. 0xFFFD ∷ z) (more v (omega (arith, h)))
    known (Some zero) e more = absurd (omega (arith, char_positive (b ∷ v) zero e))
    known (Some (suc n)) e more =
        let less : suc n - 1 ≡ n = omega arith in
        let size = length-drop n v in
        ap (λ z. flat_map encode_utf16 (chars (take (suc n) (b ∷ v))) ++ z) (ap (λ k. units_after k (plains v ++ cs)) less ∙ (after_some n v cs p ∙ more (drop n v) (omega (arith, size, h))))
        ∙ sym (append_assoc (flat_map encode_utf16 (chars (take (suc n) (b ∷ v)))) (broken_units count (drop n v)) (units_after 0 cs))

    go : (o : Option ℕ) → char_len (b ∷ v) ≡ o → ((x : List ℕ) → length x ≤ count → units_after 0 (plains x ++ cs) ≡ broken_units count x ++ units_after 0 cs) → Stepped count b v cs (char_len (b ∷ v))
    go o e more = subst (Stepped count b v cs) (sym e) (known o e more)

stretch_by_step : (w : List ℕ) (cs : List Character) → Parted cs → stretch_units w ++ units_after 0 cs ≡ units_after 0 (plains w ++ cs)
stretch_by_step w cs p = ap (λ z. z ++ units_after 0 cs) (stretch_any w) ∙ sym (by_step (length w) w cs p (omega arith))

behind_by_step : (cs : List Character) (w : List ℕ) → units_behind w cs ≡ units_after 0 (plains w ++ cs)
behind_by_step [] w = sym (append-nil (stretch_units w)) ∙ stretch_by_step w [] refl
behind_by_step (plain b ∷ cs) w = behind_by_step cs (w ++ b ∷ []) ∙ ap (units_after 0) (ap (λ z. z ++ cs) (map-append (λ c. plain c) w (b ∷ [])) ∙ append_assoc (plains w) (plain b ∷ []) cs)
behind_by_step (escape l ∷ cs) w = ap (λ z. stretch_units w ++ escape_unit l ∷ z) (behind_by_step cs []) ∙ stretch_by_step w (escape l ∷ cs) refl
behind_by_step (unit a b c d ∷ cs) w = ap (λ z. stretch_units w ++ hex_unit a b c d ∷ z) (behind_by_step cs []) ∙ stretch_by_step w (unit a b c d ∷ cs) refl

-- a string's units are found from left to right, whatever its bytes are
pub units_by_step : (cs : List Character) → units_of cs ≡ units_after 0 cs
units_by_step cs = behind_by_step cs []
