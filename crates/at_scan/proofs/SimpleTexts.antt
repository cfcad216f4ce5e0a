-- The units of a string of ASCII without escapes are the bytes between its quotes, and such a string is a plain name.
-- For `simple_item`, `last_item`, `next_name` and `field_name`.
use Rattle.std.proofs.Common.{◌≡◌, ◌≢◌, ℕ, ◌+◌, ◌-◌, ◌<◌, ◌≤◌, ◌==◌, nat_lt, not, true, List, [], ◌∷◌, ◌++◌, length, take, drop, slice_index, flat_map, refl, sym, ◌∙◌, ap, arith, length-append}
use Rattle.std.specs.List.{list_all}
use Rattle.std.proofs.Math.Seq.{take-append_seam}
use Rattle.std.proofs.lemmas.Bool.{and_parts}
use Rattle.at_fixed.specs.NumberSoFar.{between}
use Rattle.at_fixed.proofs.DigitParts.{part-length, part-more, part-cons}
use Rattle.at_scan.specs.declared.places.NamePlace.{NamePlace}
use Rattle.at_scan.specs.declared.short_texts.SimpleItem.{SimpleItem}
use Rattle.at_scan.specs.Places.{IsTextAt, IsSimpleTextAt, IsSimpleItem, IsNameAt, is_simple}
use Rattle.at_scan.specs.Members.{IsPlainName}
use Rattle.at_scan.proofs.Taken.{rest_to}
use Rattle.at_lex.specs.Spans.{AreSpaces}
use Rattle.at_lex.specs.Strings.{Character, character_text, string_text, AreCharacters, units_of}
use Rattle.at_lex.specs.UnitSteps.{Content, units_after}
use Rattle.at_lex.proofs.Stretches.{units_by_step}
use Rattle.at_lex.proofs.UnitLemmas.{ascii_steps, no_rest}

is_low : (b : ℕ) → is_simple b ≡ true → b < 128
is_low b h = grind (arith, (and_parts (nat_lt b 128) (not (b == 0x5C)) h).0)

no_escape : (b : ℕ) → is_simple b ≡ true → b ≢ 0x5C
no_escape b h e = let n = (and_parts (nat_lt b 128) (not (b == 0x5C)) h).1 in absurd (grind (arith, n, e))

-- from some byte on, the closing quote included
units_ahead : (w : List ℕ) (cs : List Character) → Content cs w → list_all is_simple w ≡ true → units_after 0 cs ++ 0x22 ∷ [] ≡ w
units_ahead [] cs (h, e) s = absurd (omega (arith, ap length e, length-append (flat_map character_text cs) (0x22 ∷ [])))
units_ahead (b ∷ []) cs h s =
    let e = no_rest cs (b ∷ []) h (omega arith) in
    ap (λ z. units_after 0 z ++ 0x22 ∷ []) e ∙ sym (h.1 ∙ ap (λ z. flat_map character_text z ++ 0x22 ∷ []) e)
units_ahead (b ∷ c ∷ v) cs h s =
    let simple = (and_parts (is_simple b) (list_all is_simple (c ∷ v)) s).0 in
    let steps = ascii_steps cs (b ∷ c ∷ v) h (omega arith) (no_escape b simple) (is_low b simple) in
    let (ds, content, units) = steps.stand cs h in
    ap (λ z. z ++ 0x22 ∷ []) units ∙ ap (λ z. b ∷ z) (units_ahead (c ∷ v) ds content (and_parts (is_simple b) (list_all is_simple (c ∷ v)) s).1)

all_but_last : (xs : List ℕ) (x : ℕ) → take (length xs) (xs ++ x ∷ []) ≡ xs
all_but_last [] x = refl
all_but_last (y ∷ xs) x = ap (λ z. y ∷ z) (all_but_last xs x)

-- the bytes between the quotes
pub simple_units : (w : List ℕ) (cs : List Character) → AreCharacters cs → w ≡ string_text cs → list_all is_simple w ≡ true → (1 ≤ length w - 1) × (take (length w - 1 - 1) (drop 1 w) ≡ units_of cs)
simple_units w cs h e s = go w e s where
  go : (v : List ℕ) → v ≡ string_text cs → list_all is_simple v ≡ true → (1 ≤ length v - 1) × (take (length v - 1 - 1) (drop 1 v) ≡ units_of cs)
  go [] e s = absurd (omega (arith, ap length e))
  go (b ∷ v) e s =
      let rest : v ≡ flat_map character_text cs ++ 0x22 ∷ [] = ap (drop 1) e in
      let units = ap (λ z. z ++ 0x22 ∷ []) (units_by_step cs) ∙ units_ahead v cs (h, rest) (and_parts (is_simple b) (list_all is_simple v) s).1 in
      let long : length v ≡ length (units_of cs) + 1 = ap length (sym units) ∙ length-append (units_of cs) (0x22 ∷ []) in
      let count : length (b ∷ v) - 1 - 1 ≡ length (units_of cs) = omega (arith, long) in
      (omega (arith, long), ap (λ n. take n v) count ∙ (ap (take (length (units_of cs))) (sym units) ∙ all_but_last (units_of cs) 0x22))

-- ---- names

pub plain_text_is : (w : List ℕ) (n : NamePlace) → IsTextAt w n.first n.end → list_all is_simple (take (n.end - n.first) (drop n.first w)) ≡ true → IsPlainName w n
plain_text_is w n h simple =
    let s : List ℕ = take (n.end - n.first) (drop n.first w) in
    let same : s ≡ between w n.first n.end = rest_to w n.first n.end (omega (arith, h.0)) in
    let long : n.first + length s ≡ n.end = (let k : n.first + length (between w n.first n.end) ≡ n.end = part-length w n.first n.end (omega (arith, h.0)) h.1 in omega (arith, k, ap length same)) in
    let two = (simple_units s h.2.0 h.2.1 (same ∙ h.2.2) simple).0 in
    let order : n.first + 1 ≤ n.end - 1 = omega (arith, two, long) in
    let xs : List ℕ = between w (n.first + 1) (n.end - 1) in
    let last : n.end ≡ n.end - 1 + 1 = omega (arith, order) in
    let within : n.end - 1 < length w = omega (arith, order, h.1) in
    let split : s ≡ slice_index w n.first ∷ (xs ++ slice_index w (n.end - 1) ∷ []) = same ∙ (part-cons w n.first n.end h.0 h.1
    ∙ ap (λ z. slice_index w n.first ∷ z) (ap (between w (n.first + 1)) last ∙ part-more w (n.first + 1) (n.end - 1) order within)) in
    let inside : n.first + 1 + length xs ≡ n.end - 1 = part-length w (n.first + 1) (n.end - 1) order (omega (arith, within)) in
    let count : length xs ≡ length s - 1 - 1 = omega (arith, inside, long, order) in
    let middle : xs ≡ take (length s - 1 - 1) (drop 1 s) = sym (take-append_seam xs (slice_index w (n.end - 1) ∷ [])) ∙ (ap (λ k. take k (xs ++ slice_index w (n.end - 1) ∷ [])) count ∙ ap (λ z. take (length s - 1 - 1) (drop 1 z)) (sym split)) in
    record {
      text = (h, simple);
      order = order;
      within = h.1;
      units = λ cs ok q. rest_to w (n.first + 1) (n.end - 1) order ∙ (middle ∙ (simple_units s cs ok (same ∙ q) simple).1);
    }

pub plain_name_is : (w : List ℕ) (at : ℕ) (n : NamePlace) → IsNameAt w at n → list_all is_simple (take (n.end - n.first) (drop n.first w)) ≡ true → IsPlainName w n
plain_name_is w at n h simple = plain_text_is w n h.text simple

-- ---- strings with white space round them

pub simple_item_is : (w : List ℕ) (at : ℕ) (p : SimpleItem) → at ≤ p.first → AreSpaces (between w at p.first) → IsSimpleTextAt w p.first p.last → p.last ≤ p.end → p.end ≤ length w → AreSpaces (between w p.last p.end) → IsSimpleItem w at p
simple_item_is w at p before spaces text behind within more = record {
  before = before;
  spaces = spaces;
  text = text;
  order = (plain_text_is w (record { first = p.first; end = p.last; colon = 0 }) text.0 text.1).order;
  behind = behind;
  within = within;
  more_spaces = more;
}
