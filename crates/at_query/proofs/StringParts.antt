-- A string, and whatever else is read as the longest beginning of a word of a language.
-- For `read_query`.
use Rattle.std.proofs.Common.{◌≡◌, ℕ, ◌+◌, ◌-◌, ◌<◌, ◌≤◌, ◌==◌, inl, inr, Bool, true, false, if◌then◌else◌, List, [], ◌∷◌, ◌++◌, length, take, drop, flat_map, Option, Some, None, refl, sym, ◌∙◌, ap, subst, arith, append-nil, append_assoc, length-drop, true≢false}
use Rattle.std.specs.List.{list_any}
use Rattle.std.proofs.lemmas.Bool.{eqb-true}
use Rattle.std.proofs.lemmas.Option.{same_Some, none-some}
use Rattle.std.proofs.lemmas.List.{append_cancel_left, take_rest}
use Rattle.at_text.specs.Prefix.{LongestViable, TakesLongest}
use Rattle.at_lex.specs.Strings.{Character, plain, escape, unit, escapes, IsCharacter, character_text, string_text, AreCharacters, SpellsString, units_of, AreUnitsOf, JsonString}
use Rattle.at_lex.proofs.Stretches.{units_by_step}
use Rattle.at_lex.proofs.Unique.{tail_same}
use Rattle.at_wkt.proofs.Leads.{part-more, append_cases}
use Rattle.at_wkt.proofs.Agreement.{Agree}
use Rattle.at_wkt.proofs.NumberSteps.{rest_part}
use Rattle.at_fixed.specs.NumberSoFar.{between}
use Rattle.at_wkt.specs.Readers.{next}
use Rattle.at_query.specs.Readers.{Ends, AgreesThrough, past, over, Stops, Text}
use Rattle.at_query.proofs.Parted.{Lives}

-- ---- what is left of a text

-- what the code's slice shows of it
pub slice_part : (w : List ℕ) (i n : ℕ) → take n (take (length w - i) (drop i w)) ≡ between w i (i + n)
slice_part w i n = ap (take n) (take_rest w i) ∙ rest_part w i n

pub slice_fits : (w : List ℕ) (i n : ℕ) → i ≤ length w → n ≤ length (take (length w - i) (drop i w)) → i + n ≤ length w
slice_fits w i n h k = omega (arith, k, ap length (take_rest w i), length-drop i w)

-- ---- the longest beginning of a word

module _ (L : List ℕ → Type 0) (w : List ℕ) (i n : ℕ) (inside_text : i ≤ length w) (longest : LongestViable L (take (length w - i) (drop i w)) n) where
  pub language_within : i + n ≤ length w
  language_within = slice_fits w i n inside_text longest.fits

  pub language_viable : (more : List ℕ) × L (between w i (i + n) ++ more)
  language_viable = let (more, word) = longest.front in (more, subst (λ z. L (z ++ more)) (slice_part w i n) word)

  no_longer : (v r s : List ℕ) → L v → i + n < length w → v ++ r ≡ between w i (i + n) ++ (next w (i + n) ∷ s) → ((x : List ℕ) → v ++ x ≡ between w i (i + n) → ⊥) → ⊥
  no_longer v r s word below e none = elim (append_cases v r (between w i (i + n)) (next w (i + n) ∷ s) e) [
    | inl (same, rest) ↦ none [] (append-nil v ∙ same)
    | inr (inl (b, bs, f, g)) ↦ none (b ∷ bs) (sym f)
    | inr (inr (b, bs, f, g)) ↦ (
        let first : b ≡ next w (i + n) = cc in
        let order : i ≤ i + n = omega arith in
        let size : i + n + 1 ≡ i + (n + 1) = omega arith in
        let more : between w i (i + (n + 1)) ≡ between w i (i + n) ++ (next w (i + n) ∷ []) = ap (between w i) (sym size) ∙ part-more w i (i + n) order below in
        let whole : take (n + 1) (take (length w - i) (drop i w)) ++ bs ≡ v =
        ap (λ z. z ++ bs) (slice_part w i (n + 1) ∙ more) ∙ (append_assoc (between w i (i + n)) (next w (i + n) ∷ []) bs ∙ (ap (λ z. between w i (i + n) ++ (z ∷ bs)) (sym first) ∙ sym f)) in
        longest.longest (omega (arith, ap length (take_rest w i), length-drop i w)) (bs, subst L (sym whole) word))
  ]

  -- no word goes on as the text does, where none is a prefix of the part
  pub language_dead : ((v x : List ℕ) → L v → v ++ x ≡ between w i (i + n) → ⊥) → (v r : List ℕ) → L v → AgreesThrough w i (i + n) (v ++ r) → ⊥
  language_dead none v r word (past below s e) =
      let order : i ≤ i + n = omega arith in
      no_longer v r s word below (e ∙ (ap (λ z. z ++ s) (part-more w i (i + n) order below) ∙ append_assoc (between w i (i + n)) (next w (i + n) ∷ []) s)) (λ x. none v x word)
  language_dead none v r word (over end e) = none v r word e

-- ---- a text spells at most one string

abbrev unit_in : List ℕ → Option Character
unit_in (a ∷ b ∷ c ∷ d ∷ w) = Some (unit a b c d)
unit_in _ = None

abbrev escaped : List ℕ → Option Character
escaped [] = None
escaped (b ∷ w) = if b == 0x75 then unit_in w else Some (escape b)

-- the character that the bytes begin with, and none before a quote
abbrev character_in : List ℕ → Option Character
character_in [] = None
character_in (b ∷ w) = if b == 0x22 then None else (if b == 0x5C then escaped w else Some (plain b))

character_told : (c : Character) (r : List ℕ) → IsCharacter c → character_in (character_text c ++ r) ≡ Some c
character_told (plain b) r h =
    let quote : (b == 0x22) ≡ false = grind (arith, h) in
    let slash : (b == 0x5C) ≡ false = grind (arith, h) in
    rw (quote, slash) refl
character_told (escape l) r h = go (l == 0x75) refl where
  go : (t : Bool) → (l == 0x75) ≡ t → (if t then unit_in r else Some (escape l)) ≡ Some (escape l)
  go true e = absurd (true≢false (sym h ∙ ap (λ z. list_any (λ (p : ℕ × ℕ). p.0 == z) escapes) (eqb-true l 0x75 e)))
  go false e = refl
character_told (unit a b c d) r h = refl

-- the characters and the quote behind them
abbrev content : List Character → List ℕ → List ℕ
content cs r = flat_map character_text cs ++ (0x22 ∷ r)

content_split : (c : Character) (cs : List Character) (r : List ℕ) → content (c ∷ cs) r ≡ character_text c ++ content cs r
content_split c cs r = append_assoc (character_text c) (flat_map character_text cs) (0x22 ∷ r)

first_told : (c : Character) (cs : List Character) (r : List ℕ) → IsCharacter c → character_in (content (c ∷ cs) r) ≡ Some c
first_told c cs r h = ap character_in (content_split c cs r) ∙ character_told c (content cs r) h

one_content : (cs ds : List Character) (r s : List ℕ) → AreCharacters cs → AreCharacters ds → content cs r ≡ content ds s → (cs ≡ ds) × (r ≡ s)
one_content [] [] r s h k e = (refl, tail_same 0x22 0x22 r s e)
one_content [] (d ∷ ds) r s h (k, ks) e = absurd (none-some d (ap character_in e ∙ first_told d ds s k))
one_content (c ∷ cs) [] r s (h, hs) k e = absurd (none-some c (sym (ap character_in e) ∙ first_told c cs r h))
one_content (c ∷ cs) (d ∷ ds) r s (h, hs) (k, ks) e =
    let same : c ≡ d = same_Some c d (sym (first_told c cs r h) ∙ (ap character_in e ∙ first_told d ds s k)) in
    let line : character_text d ++ content cs r ≡ character_text d ++ content ds s = ap (λ z. character_text z ++ content cs r) (sym same) ∙ (sym (content_split c cs r) ∙ (e ∙ content_split d ds s)) in
    let (rest, tail) = one_content cs ds r s hs ks (append_cancel_left (character_text d) (content cs r) (content ds s) line) in
    (ap (λ z. z ∷ cs) same ∙ ap (λ z. d ∷ z) rest, tail)

-- a text spells at most one string, and no string is a proper prefix of another
pub one_string : (cs ds : List Character) → Agree (SpellsString cs) (SpellsString ds) (cs ≡ ds)
one_string cs ds at v w r s (h, e) (k, f) line =
    let ends : (bs : List Character) (t : List ℕ) → string_text bs ++ t ≡ 0x22 ∷ content bs t = (λ bs t. ap (λ z. 0x22 ∷ z) (append_assoc (flat_map character_text bs) (0x22 ∷ []) t)) in
    let whole : 0x22 ∷ content cs r ≡ 0x22 ∷ content ds s = sym (ends cs r) ∙ (ap (λ z. z ++ r) (sym e) ∙ (line ∙ (ap (λ z. z ++ s) f ∙ ends ds s))) in
    let (same, rest) = one_content cs ds r s h k (tail_same 0x22 0x22 (content cs r) (content ds s) whole) in
    (same, e ∙ (ap string_text same ∙ sym f))

no_prefix : (v x : List ℕ) → JsonString v → JsonString (v ++ x) → x ≡ []
no_prefix v x (cs, h, e) (ds, k, f) =
    let (same, text) = one_string cs ds 0 v (v ++ x) x [] (h, e) (k, f) (sym (append-nil (v ++ x))) in
    append_cancel_left v x [] (sym text ∙ sym (append-nil v))

-- ---- strings

pub text_lives : Lives Text
text_lives at = ([], 0x22 ∷ 0x22 ∷ [], ([], sym (units_by_step []), (tt, refl)))

module _ (w : List ℕ) (i n : ℕ) (within : i ≤ length w) (whole : Bool) (h : TakesLongest JsonString (take (length w - i) (drop i w)) (record { len = n; whole = whole })) where
  -- a string stands
  pub text_ends : whole ≡ true → (units : List ℕ) → AreUnitsOf (between w i (i + n)) units → Ends Text w i (i + n) units
  text_ends e units u =
      let (cs, hs, es) = subst JsonString (slice_part w i n) (h.whole.0 e) in
      record {
        order = omega arith;
        within = language_within JsonString w i n within h.longest;
        sound = (cs, u cs hs es, (hs, es));
        only = λ y v r s (ds, ey, (hd, ed)) line.
            let same = (one_string ds cs i v (between w i (i + n)) r s (hd, ed) (hs, es) line).1 in
            (ey ∙ sym (u ds hd (sym same ∙ ed)), same);
      }

  -- none does
  pub text_stops : whole ≡ false → Stops Text w i (i + n)
  text_stops e =
      let viable = language_viable JsonString w i n within h.longest in
      let none : (v x : List ℕ) → JsonString v → v ++ x ≡ between w i (i + n) → ⊥ = (λ v x word line.
      let (more, longer) = viable in
      let empty : x ++ more ≡ [] = no_prefix v (x ++ more) word (subst JsonString (ap (λ z. z ++ more) (sym line) ∙ append_assoc v x more) longer) in
      let nil : x ≡ [] = left_nil x more empty in
      let word2 : JsonString (between w i (i + n)) = subst JsonString (sym (append-nil v) ∙ (ap (λ z. v ++ z) (sym nil) ∙ line)) word in
      true≢false (sym (h.whole.1 (subst JsonString (sym (slice_part w i n)) word2)) ∙ e)) in
      record {
        order = omega arith;
        within = language_within JsonString w i n within h.longest;
        viable = (let (more, (cs, hs, es)) = viable in (units_of cs, more, (cs, refl, (hs, es))));
        dead = λ y v r (cs, ey, (hc, ec)) on. language_dead JsonString w i n within h.longest none v r (cs, hc, ec) on;
      }
    where
      left_nil : (a b : List ℕ) → a ++ b ≡ [] → a ≡ []
      left_nil [] b f = refl
      left_nil (c ∷ a) b f = cc
