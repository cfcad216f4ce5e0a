-- Words that were taken from a place of a text on, and the bytes from one place to another.
-- For `text_end`, `name_place` and `position_end`.
use Rattle.std.proofs.Common.{◌≡◌, ℕ, ◌+◌, ◌-◌, ◌<◌, ◌≤◌, true, List, [], length, take, drop, sym, ◌∙◌, ap, subst, arith}
use Rattle.std.proofs.lemmas.List.{length-drop, drop-take}
use Rattle.at_text.specs.Prefix.{TakesLongest}
use Rattle.at_text.specs.declared.prefixes.Taken.{Taken}
use Rattle.at_fixed.specs.NumberSoFar.{between}
use Rattle.at_fixed.specs.Numerals.{JsonNumber}
use Rattle.at_lex.specs.Strings.{JsonString, AreUnitsOf}
use Rattle.at_lex.proofs.FrontLemmas.{suffix_is}
use Rattle.at_scan.specs.declared.places.NamePlace.{NamePlace}
use Rattle.at_scan.specs.Places.{IsTextAt, IsNameAt}

-- the bytes of the rest up to a place
pub rest_part : (w : List ℕ) (i n : ℕ) → take n (drop i w) ≡ between w i (i + n)
rest_part w i n = sym (drop-take i n w)

pub rest_to : (w : List ℕ) (i j : ℕ) → i ≤ j → take (j - i) (drop i w) ≡ between w i j
rest_to w i j h = rest_part w i (j - i) ∙ ap (between w i) (omega arith)

-- what a reader of the bytes ahead takes as a whole word
pub taken_whole : (L : List ℕ → Type 0) (w : List ℕ) (at : ℕ) (taken : Taken) → TakesLongest L (take (length w - at) (drop at w)) taken → taken.whole ≡ true → (taken.len ≤ length (drop at w)) × L (take taken.len (drop at w))
taken_whole L w at taken h k = grind (arith, suffix_is)

pub some_bytes : (L : List ℕ → Type 0) (w : List ℕ) (at n : ℕ) → (L [] → ⊥) → L (take n (drop at w)) → at < at + n
some_bytes L w at n h k = grind arith

pub end_fits : (w : List ℕ) (at n : ℕ) → at ≤ length w → n ≤ length (drop at w) → at + n ≤ length w
end_fits w at n h k = omega (arith, h, k, length-drop at w)

pub no_empty_number : JsonNumber [] → ⊥
no_empty_number h = grind arith

pub no_empty_string : JsonString [] → ⊥
no_empty_string (cs, ok, e) = cc

-- a word of the bytes ahead, from its place to its end
pub record IsTaken (L : List ℕ → Type 0) (w : List ℕ) (at end : ℕ) : Type 0 where
  pub order : at < end
  pub within : end ≤ length w
  pub word : L (between w at end)

pub word_taken : (L : List ℕ → Type 0) (w : List ℕ) (at : ℕ) (taken : Taken) → (L [] → ⊥) → at ≤ length w → TakesLongest L (take (length w - at) (drop at w)) taken → taken.whole ≡ true → IsTaken L w at (at + taken.len)
word_taken L w at taken none inside h e =
    let (fits, word) = taken_whole L w at taken h e in
    record { order = some_bytes L w at taken.len none word; within = end_fits w at taken.len inside fits; word = subst L (rest_part w at taken.len) word }

pub number_taken : (w : List ℕ) (at : ℕ) (taken : Taken) → at ≤ length w → TakesLongest JsonNumber (take (length w - at) (drop at w)) taken → taken.whole ≡ true → IsTaken JsonNumber w at (at + taken.len)
number_taken w at taken inside h e = word_taken JsonNumber w at taken no_empty_number inside h e

pub text_taken : (w : List ℕ) (at : ℕ) (taken : Taken) → at ≤ length w → TakesLongest JsonString (take (length w - at) (drop at w)) taken → taken.whole ≡ true → IsTextAt w at (at + taken.len)
text_taken w at taken inside h e = let t = word_taken JsonString w at taken no_empty_string inside h e in (t.order, t.within, t.word)

pub string_taken : (w : List ℕ) (at end : ℕ) → IsTextAt w at end → JsonString (take (end - at) (drop at w))
string_taken w at end (order, within, s) = subst JsonString (sym (rest_to w at end (omega (arith, order)))) s

-- the bytes of a name, and its units
pub name_text : (w : List ℕ) (at : ℕ) (n : NamePlace) → IsNameAt w at n → JsonString (take (n.end - n.first) (drop n.first w))
name_text w at n h = subst JsonString (sym (rest_to w n.first n.end (omega (arith, h.text.0)))) h.text.2

pub name_units : (w : List ℕ) (at : ℕ) (n : NamePlace) (units : List ℕ) → IsNameAt w at n → AreUnitsOf (take (n.end - n.first) (drop n.first w)) units → AreUnitsOf (between w n.first n.end) units
name_units w at n units h u = subst (λ z. AreUnitsOf z units) (rest_to w n.first n.end (omega (arith, h.text.0))) u
