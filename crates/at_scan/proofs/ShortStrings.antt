-- Bytes of ASCII that stand for themselves, between quotes, are a string in which each byte stands for the unit of its own number.
-- For `short_text_end` and `known_kind`.
use Rattle.std.proofs.Common.{◌≡◌, ℕ, zero, suc, ◌+◌, ◌-◌, ◌<◌, ◌≤◌, ◌&&◌, true, List, [], ◌∷◌, ◌++◌, length, slice_index, flat_map, refl, sym, ◌∙◌, ap, subst, arith}
use Rattle.std.specs.List.{list_all}
use Rattle.std.proofs.lemmas.Bool.{and_parts}
use Rattle.at_fixed.specs.NumberSoFar.{between}
use Rattle.at_fixed.proofs.DigitParts.{part-none, part-more, part-cons}
use Rattle.at_lex.specs.Strings.{Character, plain, is_plain, AreCharacters, character_text}
use Rattle.at_scan.proofs.Taken.{rest_to}
use Rattle.at_scan.specs.Places.{is_simple, is_common, IsSimpleTextAt}

-- bytes, as characters of a string
record AreCommon (w : List ℕ) (from to : ℕ) : Type 0 where
  pub characters : List Character
  pub are : AreCharacters characters
  pub text : flat_map character_text characters ≡ between w from to
  pub simple : (v : List ℕ) → list_all is_simple v ≡ true → list_all is_simple (between w from to ++ v) ≡ true

common : (w : List ℕ) (n from to : ℕ) → from + n ≡ to → to ≤ length w → ((k : ℕ) → from ≤ k → k < to → is_common (slice_index w k) ≡ true) → AreCommon w from to
common w zero from to e h all =
    let none : between w from to ≡ [] = ap (λ k. between w k to) (let k : from ≡ to = omega (arith, e) in k) ∙ part-none w to h in
    record { characters = []; are = tt; text = sym none; simple = λ v s. subst (λ z. list_all is_simple (z ++ v) ≡ true) (sym none) s }
common w (suc n) from to e h all =
    let b = slice_index w from in
    let l : from < to = omega (arith, e) in
    let both = all from (omega arith) l in
    let rest = common w n (from + 1) to (omega (arith, e)) h (λ k after before. all k (omega (arith, after)) before) in
    let split = part-cons w from to l h in
    record {
      characters = plain b ∷ rest.characters;
      are = ((and_parts (is_plain b) (is_simple b) both).0, rest.are);
      text = ap (λ z. b ∷ z) rest.text ∙ sym split;
      simple = λ v s. subst (λ z. list_all is_simple (z ++ v) ≡ true) (sym split) (ap (λ t. t && list_all is_simple (between w (from + 1) to ++ v)) (and_parts (is_plain b) (is_simple b) both).1 ∙ rest.simple v s);
    }

pub short_text : (w : List ℕ) (at last : ℕ) → at < last → last < length w → slice_index w at ≡ 0x22 → slice_index w last ≡ 0x22 → ((k : ℕ) → at + 1 ≤ k → k < last → is_common (slice_index w k) ≡ true) → IsSimpleTextAt w at (last + 1)
short_text w at last h inside opens closes all =
    let (n, count) = counted at last h in
    let a = common w n (at + 1) last count (omega (arith, inside)) all in
    let split : between w at (last + 1) ≡ 0x22 ∷ (between w (at + 1) last ++ 0x22 ∷ []) = part-cons w at (last + 1) (omega (arith, h)) (omega (arith, inside))
    ∙ (ap (λ z. slice_index w at ∷ z) (part-more w (at + 1) last (omega (arith, h)) inside) ∙ (ap (λ b. b ∷ (between w (at + 1) last ++ slice_index w last ∷ [])) opens ∙ ap (λ b. 0x22 ∷ (between w (at + 1) last ++ b ∷ [])) closes)) in (
      (omega (arith, h), omega (arith, inside), (a.characters, a.are, split ∙ ap (λ z. 0x22 ∷ (z ++ 0x22 ∷ [])) (sym a.text))),
      ap (list_all is_simple) (rest_to w at (last + 1) (omega (arith, h)) ∙ split) ∙ a.simple (0x22 ∷ []) refl,
    )
  where
    counted : (i j : ℕ) → i < j → (n : ℕ) × (i + 1 + n ≡ j)
    counted i j h = (j - (i + 1), omega (arith, h))
