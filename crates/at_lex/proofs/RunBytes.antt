-- Literals and numbers are runs of bytes, and so is what begins one.
-- For most public calls of the crate, `copy`, `from_slice`, `lex` among them.
use Rattle.std.proofs.Common.{rules, ◌≡◌, ◌≢◌, ℕ, ◌<◌, inl, inr, List, [], ◌∷◌, ◌++◌, length, Option, IfSome, true, false, cond, ◌==◌, refl, ◌∙◌, ap, arith}
use Rattle.at_text.specs.Prefix.{Viable}
use Rattle.at_text.specs.Texts.{is_digit, is_space, is_run, is_one_of}
use Rattle.at_fixed.specs.Numerals.{Exponent, fraction_text, exponent_text, IsAtMostOneOf, AreDigits, AreSomeDigits, IsExponent, IsJsonWhole}
use Rattle.at_fixed.proofs.NumberMachine.{one_of_two}
use Rattle.at_lex.specs.declared.tokens.Start.{Start}
use Rattle.at_lex.specs.declared.tokens.Start.TheVariants.{Out, InString}
use Rattle.at_lex.specs.Runs.{Literal, literal_text, JsonRun}
use Rattle.at_lex.specs.Spans.{AreRun, AreSpaces, IsRun, end_of}

pub run_append : (u v : List ℕ) → AreRun u → AreRun v → AreRun (u ++ v)
run_append [] v h k = k
run_append (b ∷ u) v (h, hs) k = (h, run_append u v hs k)

pub run_front : (u v : List ℕ) → AreRun (u ++ v) → AreRun u
run_front [] v h = tt
run_front (b ∷ u) v (h, hs) = (h, run_front u v hs)

digit_run : (b : ℕ) → is_digit b ≡ true → is_run b ≡ true
digit_run b h = grind (arith, h)

sign_run : (b : ℕ) → is_one_of (0x2B ∷ 0x2D ∷ []) b ≡ true → is_run b ≡ true
sign_run b h = elim (one_of_two 0x2B 0x2D b h) [ inl e ↦ ap is_run e | inr e ↦ ap is_run e ]

letter_run : (b : ℕ) → is_one_of (0x65 ∷ 0x45 ∷ []) b ≡ true → is_run b ≡ true
letter_run b h = elim (one_of_two 0x65 0x45 b h) [ inl e ↦ ap is_run e | inr e ↦ ap is_run e ]

digits_run : (w : List ℕ) → AreDigits w → AreRun w
digits_run [] h = tt
digits_run (b ∷ w) (h, hs) = (digit_run b h, digits_run w hs)

some_digits_run : (w : List ℕ) → AreSomeDigits w → AreRun w
some_digits_run w h = grind (arith, digit_run, digits_run)

signs_run : (w : List ℕ) → IsAtMostOneOf (0x2B ∷ 0x2D ∷ []) w → AreRun w
signs_run w h = grind (arith, sign_run)

minuses_run : (w : List ℕ) → IsAtMostOneOf (0x2D ∷ []) w → AreRun w
minuses_run w h = grind arith

whole_run : (w : List ℕ) → IsJsonWhole w → AreRun w
whole_run w h = search (rules, digit_run, digits_run)

fraction_run : (f : Option (List ℕ)) → IfSome f AreSomeDigits → AreRun (fraction_text f)
fraction_run f h = grind (arith, some_digits_run)

exponent_run : (e : Option Exponent) → IfSome e IsExponent → AreRun (exponent_text e)
exponent_run e h = grind (arith, letter_run, run_append, signs_run, some_digits_run)

literal_run : (l : Literal) → AreRun (literal_text l)
literal_run l = grind arith

pub word_run : (w : List ℕ) → JsonRun w → AreRun w
word_run w h = grind (arith, literal_run, run_append, minuses_run, whole_run, fraction_run, exponent_run)

-- what begins a literal or a number is a run
pub viable_run : (u : List ℕ) → Viable JsonRun u → AreRun u
viable_run u (more, h) = run_front u more (word_run (u ++ more) h)

-- ---- outside text

run_unquoted : (b : ℕ) → is_run b ≡ true → (b == 0x22) ≡ false
run_unquoted b h = grind (arith, h)

space_unquoted : (b : ℕ) → is_space b ≡ true → (b == 0x22) ≡ false
space_unquoted b h = grind (arith, h)

pub run_out : (w : List ℕ) → AreRun w → end_of Out w ≡ Out
run_out [] h = refl
run_out (b ∷ w) (h, hs) = ap (λ (s : Start). end_of s w) (ap (λ c. cond c InString Out) (run_unquoted b h)) ∙ run_out w hs

pub spaces_out : (w : List ℕ) → AreSpaces w → end_of Out w ≡ Out
spaces_out [] h = refl
spaces_out (b ∷ w) (h, hs) = ap (λ (s : Start). end_of s w) (ap (λ c. cond c InString Out) (space_unquoted b h)) ∙ spaces_out w hs

-- ---- at least one byte

pub some_run : (w : List ℕ) → 0 < length w → AreRun w → IsRun w
some_run w h k = grind arith

pub some_bytes : (w : List ℕ) → 0 < length w → w ≢ []
some_bytes w h e = absurd (omega (arith, h, ap length e))
