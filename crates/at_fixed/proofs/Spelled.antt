-- A text spells at most one number, of JSON or of WKT, and a reader that takes the longest viable prefix takes a number whole.
-- For `leading_number`, `plain_len`, `plain_number` and `read_fixed`.
use Rattle.std.proofs.Common.{◌≡◌, ℕ, ◌⊎◌, inl, inr, List, [], ◌∷◌, ◌++◌, length, take, Option, IfSome, IsTrue, Result, Ok, ℤ, true, sym, ◌∙◌, ap, subst, arith, append-nil}
use Rattle.std.proofs.Math.Seq.{take-length}
use Rattle.at_text.specs.declared.prefixes.Taken.{Taken}
use Rattle.at_text.specs.Prefix.{LongestViable, TakesLongest}
use Rattle.at_text.proofs.Machine.{longest_unique}
use Rattle.at_fixed.specs.declared.notation.Notation.{Notation}
use Rattle.at_fixed.specs.declared.rounding.Coords.{Coords}
use Rattle.at_fixed.specs.declared.rounding.FixedFault.{FixedFault}
use Rattle.at_fixed.specs.Numerals.{Numeral, numeral_text, IsAtMostOneOf, AreDigits, AreSomeDigits, IsJsonWhole, IsJsonNumeral, AreWktDigits, IsWktNumeral, IsNumeralOf, SpellsNumeral, JsonNumber, WktNumber}
use Rattle.at_fixed.specs.Fixed.{fixed_of, IsFixedOf}
use Rattle.at_fixed.specs.Decimals.{IsDecimalOf}
use Rattle.at_fixed.specs.Scanned.{IsPlain, IsScanned}
use Rattle.at_fixed.specs.declared.scanning.Scanned.{Scanned}
use Rattle.at_fixed.proofs.NumeralParts.{one_numeral}

json_sign : (s : List ℕ) → IsAtMostOneOf (0x2D ∷ []) s → IsAtMostOneOf (0x2B ∷ 0x2D ∷ []) s
json_sign s h = grind arith

json_digits : (w : List ℕ) (f : Option (List ℕ)) → IsJsonWhole w → IfSome f AreDigits → AreWktDigits w f
json_digits w f h k = grind arith

json_fraction : (f : Option (List ℕ)) → IfSome f AreSomeDigits → IfSome f AreDigits
json_fraction f h = grind arith

-- each number of JSON is one of WKT
pub json_is_wkt : (n : Numeral) → IsJsonNumeral n → IsWktNumeral n
json_is_wkt n h = record { sign = json_sign n.sign h.sign; digits = json_digits n.whole n.fraction h.whole (json_fraction n.fraction h.fraction); exponent = h.exponent }

is_wkt : (n : Numeral) → IsJsonNumeral n ⊎ IsWktNumeral n → IsWktNumeral n
is_wkt n h = grind arith

either_of : (g : Notation) (n : Numeral) → IsNumeralOf g n → IsJsonNumeral n ⊎ IsWktNumeral n
either_of g n h = grind arith

-- a text spells at most one number
pub one_spelled : (text : List ℕ) (n m : Numeral) → SpellsNumeral text n → SpellsNumeral text m → m ≡ n
one_spelled text n m (h, e) (k, f) = one_numeral m n (is_wkt m k) (is_wkt n h) (sym f ∙ e)

pub fixed_by : (g : Notation) (text : List ℕ) (digits : ℕ) (how : Coords) (answer : Result ℤ FixedFault) (n : Numeral) → IsNumeralOf g n → text ≡ numeral_text n
    → answer ≡ fixed_of n digits how → IsFixedOf text digits how answer
fixed_by g text digits how answer n h e v = record {
  numeral = n;
  spelled = (either_of g n h, e);
  only = λ m k. one_spelled text n m (either_of g n h, e) k;
  value = v;
}

-- what a scan found at the beginning of a text, where it has a value
pub scanned_plain : (g : Notation) (w : List ℕ) (digits : ℕ) (how : Coords) (scanned : Scanned) (value : ℤ) → IsScanned g w scanned × (scanned.is_number ≡ true)
    → ((n : Numeral) → IsDecimalOf scanned.decimal n → Ok value ≡ fixed_of n digits how) → IsPlain g w digits how (record { len = scanned.len; value = value })
scanned_plain g w digits how scanned value h k = grind (arith, fixed_by)

pub json_text : (w : List ℕ) → JsonNumber w ⊎ WktNumber w → WktNumber w
json_text w (inl (n, h, e)) = (n, json_is_wkt n h, e)
json_text w (inr h) = h

-- a text of the language is taken whole
pub taken_whole : (L : List ℕ → Type 0) (w : List ℕ) (t : Taken) → TakesLongest L w t → L w → (t.len ≡ length w) × (take t.len w ≡ w) × IsTrue t.whole
taken_whole L w t h l =
    let all : LongestViable L w (length w) = record {
      fits = omega arith;
      front = ([], subst L (sym (ap (λ x. x ++ []) (take-length w) ∙ append-nil w)) l);
      longest = λ more. absurd (omega (arith, more));
    } in
    let len : t.len ≡ length w = longest_unique L w t.len (length w) h.longest all in
    let text : take t.len w ≡ w = ap (λ n. take n w) len ∙ take-length w in
    (len, text, h.whole.1 (subst L (sym text) l))
