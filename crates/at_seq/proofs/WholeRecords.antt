-- No JSON text holds the bytes RS and 01 (RFC 8259 sections 2, 6 and 7), so a JSON text behind a separator is one piece of a sequence, and
-- cutting a file at its separators, as `pieces_from` does, loses no spelling. The records of `HasSeqFault` and `AreSeqFeatures`, which
-- the contract of `part_seq` cites, are those pieces.
-- Laws of the definitions. For `part_seq`, a JSON text has no such byte.
use Rattle.std.proofs.Common.{◌≡◌, ℕ, ◌+◌, ◌==◌, inl, inr, Bool, true, false, ◌&&◌, ◌||◌, nat_le, true≢false, List, [], ◌∷◌, ◌++◌, length, flat_map, Option, Some, None, IfSome, refl, sym, ◌∙◌, ap, subst, arith}
use Rattle.std.specs.List.{AllByRecursion, list_any}
use Rattle.std.specs.Char.{is_ascii_hexdigit}
use Rattle.std.proofs.lemmas.List.Elements.{All-from_recursion}
use Rattle.std.proofs.lemmas.List.Folds.{list_any_none}
use Rattle.std.proofs.lemmas.List.Splits.{slice_split_none, slice_split_at}
use Rattle.std.proofs.ByRecursion.{All-append}
use Rattle.at_text.specs.Parts.{Nothing, Exactly, Many, ◌▸◌, At}
use Rattle.at_text.specs.Texts.{is_space, is_digit, is_one_of}
use Rattle.at_fixed.specs.Numerals.{Numeral, Exponent, IsExponent, IsAtMostOneOf, AreDigits, AreSomeDigits, IsJsonWhole, IsJsonNumeral, fraction_text, exponent_text, numeral_text}
use Rattle.at_lex.specs.Strings.{Character, plain, escape, unit, escapes, is_plain, IsCharacter, AreCharacters, character_text, string_text, SpellsString}
use Rattle.at_lex.specs.Runs.{Literal, the_false, literal_text}
use Rattle.at_lex.specs.Spans.{AreSpaces}
use Rattle.at_nest.specs.Tree.{Tree, literal, number, text, array, object, Trees, no_trees, tree_and, Members, no_members, member_and, Padded, WithName, Spells, SpellsItems, SpellsFurtherItems, SpellsMembers, SpellsFurtherMembers, IsTextOf}
use Rattle.at_nest.specs.Syntax.{JsonText}
use Rattle.at_nest.proofs.TreeParts.{padded_parts, after_parts, named_behind, array_parts, object_parts, text_parts, padded_made}
use Rattle.at_text.specs.Separated.{placed}
use Rattle.at_seq.specs.Records.{pieces_from, is_separator}

-- RS, and the byte that a filter puts in the place of one
abbrev pub is_mark : ℕ → Bool
is_mark b = b == 0x1E || b == 0x01

-- none of the bytes is one of these
abbrev pub IsUnparted : List ℕ → Type 0
IsUnparted w = AllByRecursion (λ b. is_mark b ≡ false) w

-- what the part says is said in such bytes alone
abbrev SaysUnparted : (ℕ → List ℕ → Type 0) → Type 0
SaysUnparted P = (at : ℕ) (w : List ℕ) → P at w → IsUnparted w

joined : (v w : List ℕ) → IsUnparted v → IsUnparted w → IsUnparted (v ++ w)
joined v w = All-append (λ b. is_mark b ≡ false) v w

-- ---- bytes that pass a test which these fail

-- the test fails at both
abbrev Fails : (ℕ → Bool) → Type 0
Fails test = (test 0x1E ≡ false) × (test 0x01 ≡ false)

not_one : (test : ℕ → Bool) (b c : ℕ) (t : Bool) → (b == c) ≡ t → test c ≡ false → test b ≡ true → t ≡ false
not_one test b c true same fails h = let e : b ≡ c = grind (arith, same) in absurd (true≢false (sym h ∙ (ap test e ∙ fails)))
not_one test b c false same fails h = refl

neither : (s t : Bool) → s ≡ false → t ≡ false → (s || t) ≡ false
neither false t refl_s h = h
neither true t e h = absurd (true≢false e)

other : (test : ℕ → Bool) → Fails test → (b : ℕ) → test b ≡ true → is_mark b ≡ false
other test fails b h = neither (b == 0x1E) (b == 0x01) (not_one test b 0x1E (b == 0x1E) refl fails.0 h) (not_one test b 0x01 (b == 0x01) refl fails.1 h)

many : (test : ℕ → Bool) → Fails test → SaysUnparted (Many test)
many test fails at [] h = tt
many test fails at (b ∷ w) (h, hs) = (other test fails b h, many test fails at w hs)

spaces : (w : List ℕ) → AreSpaces w → IsUnparted w
spaces w h = many is_space (refl, refl) 0 w h

-- ---- literals and numbers

literal_unparted : (l : Literal) → IsUnparted (literal_text l)
literal_unparted the_false = (refl, (refl, (refl, (refl, (refl, tt)))))
literal_unparted _ = (refl, (refl, (refl, (refl, tt))))

at_most_one : (bytes w : List ℕ) → Fails (is_one_of bytes) → IsAtMostOneOf bytes w → IsUnparted w
at_most_one bytes [] fails h = tt
at_most_one bytes (b ∷ []) fails h = (other (is_one_of bytes) fails b h, tt)
at_most_one bytes (b ∷ c ∷ w) fails h = absurd h

digits : (w : List ℕ) → AreDigits w → IsUnparted w
digits w h = many is_digit (refl, refl) 0 w h

some_digits : (w : List ℕ) → AreSomeDigits w → IsUnparted w
some_digits [] h = absurd h
some_digits (b ∷ w) h = digits (b ∷ w) h

whole_part : (w : List ℕ) → IsJsonWhole w → IsUnparted w
whole_part [] h = absurd h
whole_part (b ∷ w) (inl (e, f)) = (ap is_mark e, subst IsUnparted (sym f) tt)
whole_part (b ∷ w) (inr (h, hs)) = (other (λ c. nat_le 0x31 c && nat_le c 0x39) (refl, refl) b h, digits w hs)

fraction_part : (f : Option (List ℕ)) → IfSome f AreSomeDigits → IsUnparted (fraction_text f)
fraction_part None h = tt
fraction_part (Some w) h = (refl, some_digits w h)

exponent_part : (e : Option Exponent) → IfSome e IsExponent → IsUnparted (exponent_text e)
exponent_part None h = tt
exponent_part (Some e) h =
    let sign = at_most_one (0x2B ∷ 0x2D ∷ []) e.sign (refl, refl) h.sign in
    (other (is_one_of (0x65 ∷ 0x45 ∷ [])) (refl, refl) e.letter h.letter, joined e.sign e.digits sign (some_digits e.digits h.digits))

number_unparted : (n : Numeral) → IsJsonNumeral n → IsUnparted (numeral_text n)
number_unparted n h =
    let sign = at_most_one (0x2D ∷ []) n.sign (refl, refl) h.sign in
    let behind = joined (fraction_text n.fraction) (exponent_text n.exponent) (fraction_part n.fraction h.fraction) (exponent_part n.exponent h.exponent) in
    joined n.sign (n.whole ++ (fraction_text n.fraction ++ exponent_text n.exponent)) sign
    (joined n.whole (fraction_text n.fraction ++ exponent_text n.exponent) (whole_part n.whole h.whole) behind)

-- ---- strings

four_true : (a b c d : Bool) → ((a && b) && (c && d)) ≡ true → (a ≡ true) × (b ≡ true) × (c ≡ true) × (d ≡ true)
four_true true true true true h = (refl, refl, refl, refl)
four_true true true true false h = absurd (cc)
four_true true true false d h = absurd (cc)
four_true true false c d h = absurd (cc)
four_true false b c d h = absurd (cc)

hex_digit : (b : ℕ) → is_ascii_hexdigit b ≡ true → is_mark b ≡ false
hex_digit b h = other is_ascii_hexdigit (refl, refl) b h

character_unparted : (c : Character) → IsCharacter c → IsUnparted (character_text c)
character_unparted (plain b) h = (other is_plain (refl, refl) b h, tt)
character_unparted (escape letter) h = (refl, (other (λ b. list_any (λ (e : ℕ × ℕ). e.0 == b) escapes) (refl, refl) letter h, tt))
character_unparted (unit a b c d) h =
    let (p, q, r, s) = four_true (is_ascii_hexdigit a) (is_ascii_hexdigit b) (is_ascii_hexdigit c) (is_ascii_hexdigit d) h in
    (refl, (refl, (hex_digit a p, (hex_digit b q, (hex_digit c r, (hex_digit d s, tt))))))

characters_unparted : (cs : List Character) → AreCharacters cs → IsUnparted (flat_map character_text cs)
characters_unparted [] h = tt
characters_unparted (c ∷ cs) (h, hs) = joined (character_text c) (flat_map character_text cs) (character_unparted c h) (characters_unparted cs hs)

string_unparted : (cs : List Character) → AreCharacters cs → IsUnparted (string_text cs)
string_unparted cs h = (refl, joined (flat_map character_text cs) (0x22 ∷ []) (characters_unparted cs h) (refl, tt))

-- ---- parts behind one another

padded : (P Q : ℕ → List ℕ → Type 0) → SaysUnparted P → SaysUnparted Q → SaysUnparted (Padded P ▸ Q)
padded P Q p q at w h =
    let (a, v, b, r, e, ha, hb, hp, hq) = padded_parts P Q at w h in
    let behind = joined b r (spaces b hb) (q (at + length a + length v + length b) r hq) in
    subst IsUnparted (sym e) (joined a (v ++ (b ++ r)) (spaces a ha) (joined v (b ++ r) (p (at + length a) v hp) behind))

after : (byte : ℕ) (P : ℕ → List ℕ → Type 0) → is_mark byte ≡ false → SaysUnparted P → SaysUnparted (Exactly (byte ∷ []) ▸ P)
after byte P other p at w k = let (r, e, h) = after_parts byte P at w k in subst IsUnparted (sym e) (other, p (at + 1) r h)

ended : SaysUnparted Nothing
ended at w e = subst IsUnparted (sym e) tt

-- a part between two bytes
enclosed : (v w : List ℕ) (opener closer : ℕ) → is_mark opener ≡ false → is_mark closer ≡ false → w ≡ opener ∷ (v ++ closer ∷ []) → IsUnparted v → IsUnparted w
enclosed v w opener closer begins ends e h = subst IsUnparted (sym e) (begins, joined v (closer ∷ []) h (ends, tt))

name_unparted : (name : List Character) (i : ℕ) → SaysUnparted (At i (SpellsString name))
name_unparted name i at w (o, (is, e)) = subst IsUnparted (sym e) (string_unparted name is)

-- a name, a colon and a value, and then the rest
member : (name : List Character) (i : ℕ) (P Q : ℕ → List ℕ → Type 0) → SaysUnparted P → SaysUnparted Q → SaysUnparted (WithName name i P ▸ Q)
member name i P Q p q at w h =
    padded (At i (SpellsString name)) (Exactly (0x3A ∷ []) ▸ (Padded P ▸ Q)) (name_unparted name i) (after 0x3A (Padded P ▸ Q) refl (padded P Q p q)) at w (named_behind name i P Q at w h)

-- ---- trees

mutual
  tree_unparted : (t : Tree) (at : ℕ) (w : List ℕ) → Spells at w t → IsUnparted w
  tree_unparted (literal i l) at w (o, e) = subst IsUnparted (sym e) (literal_unparted l)
  tree_unparted (number i n) at w (o, (is, e)) = subst IsUnparted (sym e) (number_unparted n is)
  tree_unparted (text i cs) at w (o, (is, e)) = subst IsUnparted (sym e) (string_unparted cs is)
  tree_unparted (array i ts) at w k = let (o, (v, e, h)) = array_parts ts i at w k in enclosed v w 0x5B 0x5D refl refl e (items_unparted ts (at + 1) v h)
  tree_unparted (object i ms) at w k = let (o, (v, e, h)) = object_parts ms i at w k in enclosed v w 0x7B 0x7D refl refl e (members_unparted ms (at + 1) v h)

  items_unparted : (ts : Trees) (at : ℕ) (w : List ℕ) → SpellsItems at w ts → IsUnparted w
  items_unparted no_trees at w h = spaces w h
  items_unparted (tree_and t ts) at w h =
      padded (λ j v. Spells j v t) (λ j r. SpellsFurtherItems j r ts) (λ j v k. tree_unparted t j v k) (λ j r k. further_unparted ts j r k) at w h

  further_unparted : (ts : Trees) (at : ℕ) (w : List ℕ) → SpellsFurtherItems at w ts → IsUnparted w
  further_unparted no_trees at w h = ended at w h
  further_unparted (tree_and t ts) at w h = after 0x2C (Padded (λ j v. Spells j v t) ▸ (λ j r. SpellsFurtherItems j r ts)) refl
      (padded (λ j v. Spells j v t) (λ j r. SpellsFurtherItems j r ts) (λ j v k. tree_unparted t j v k) (λ j r k. further_unparted ts j r k)) at w h

  members_unparted : (ms : Members) (at : ℕ) (w : List ℕ) → SpellsMembers at w ms → IsUnparted w
  members_unparted no_members at w h = spaces w h
  members_unparted (member_and name i t ms) at w h =
      member name i (λ j v. Spells j v t) (λ j r. SpellsFurtherMembers j r ms) (λ j v k. tree_unparted t j v k) (λ j r k. further_members_unparted ms j r k) at w h

  further_members_unparted : (ms : Members) (at : ℕ) (w : List ℕ) → SpellsFurtherMembers at w ms → IsUnparted w
  further_members_unparted no_members at w h = ended at w h
  further_members_unparted (member_and name i t ms) at w h =
      after 0x2C (WithName name i (λ j v. Spells j v t) ▸ (λ j r. SpellsFurtherMembers j r ms)) refl
      (member name i (λ j v. Spells j v t) (λ j r. SpellsFurtherMembers j r ms) (λ j v k. tree_unparted t j v k) (λ j r k. further_members_unparted ms j r k)) at w h

pub text_unparted : (t : Tree) (at : ℕ) (w : List ℕ) → IsTextOf at w t → IsUnparted w
text_unparted t at w h = padded (λ j v. Spells j v t) Nothing (λ j v k. tree_unparted t j v k) ended at w (padded_made (λ j v. Spells j v t) Nothing at w (text_parts t at w h))

-- ---- the laws

first_of_two : (s t : Bool) → (s || t) ≡ false → s ≡ false
first_of_two false t e = refl
first_of_two true t e = e

pub without_rs : (w : List ℕ) → IsUnparted w → AllByRecursion (λ b. is_separator b ≡ false) w
without_rs [] h = tt
without_rs (b ∷ w) (h, hs) = (first_of_two (b == 0x1E) (b == 0x01) h, without_rs w hs)

-- no byte of a value's spelling is RS
pub no_separator : (at : ℕ) (w : List ℕ) (t : Tree) → Spells at w t → list_any is_separator w ≡ false
no_separator at w t h = list_any_none is_separator w (All-from_recursion (λ b. is_separator b ≡ false) w (without_rs w (tree_unparted t at w h)))

-- and none of a JSON text's, white space included
pub text_no_separator : (at : ℕ) (w : List ℕ) → JsonText at w → list_any is_separator w ≡ false
text_no_separator at w (t, h) = list_any_none is_separator w (All-from_recursion (λ b. is_separator b ≡ false) w (without_rs w (text_unparted t at w h)))

-- a JSON text is one piece
pub text_one_piece : (at : ℕ) (w : List ℕ) → JsonText at w → pieces_from at w ≡ record { at = at; text = w } ∷ []
text_one_piece at w (t, h) = ap (placed at) (slice_split_none is_separator w (All-from_recursion (λ b. is_separator b ≡ false) w (without_rs w (text_unparted t at w h))))

-- and the first one where a separator stands behind it
pub text_first_piece : (at : ℕ) (w rest : List ℕ) → JsonText at w
    → pieces_from at (w ++ 0x1E ∷ rest) ≡ record { at = at; text = w } ∷ pieces_from (at + length w + 1) rest
text_first_piece at w rest (t, h) =
    ap (placed at) (slice_split_at is_separator w 0x1E rest (All-from_recursion (λ b. is_separator b ≡ false) w (without_rs w (text_unparted t at w h))) refl)
