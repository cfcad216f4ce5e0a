-- Literals and numbers: by their first byte, as runs of bytes, and their longest viable prefix.
-- For `check_run`, `lex`, `next_item` and `take_run`.
use Rattle.std.proofs.Common.{◌≡◌, ◌≢◌, ℕ, zero, suc, ◌+◌, ◌<◌, ◌≤◌, ◌==◌, inl, inr, List, [], ◌∷◌, ◌++◌, length, take, drop, slice_index, true, false, refl, sym, ◌∙◌, ap, subst, arith, length-append, length-take, take-append-drop, add-one, eq-eqb, true≢false, not}
use Rattle.std.proofs.lemmas.List.{take_all}
use native.Mathlib.Decide.{dec_lt}
use Rattle.at_text.specs.declared.prefixes.Taken.{Taken}
use Rattle.at_text.specs.Prefix.{TakesLongest}
use Rattle.at_fixed.specs.Numerals.{fraction_text, exponent_text, IsAtMostOneOf, IsJsonWhole, JsonNumber}
use Rattle.at_lex.specs.Runs.{Literal, the_null, the_true, the_false, literal_text, JsonRun}
use Rattle.at_lex.specs.Beginnings.{IsCommon}

-- the byte that begins a literal
pub letter_of : Literal → ℕ
letter_of the_null = 0x6E
letter_of the_true = 0x74
letter_of the_false = 0x66

first_letter : (l : Literal) → slice_index (literal_text l) 0 ≡ letter_of l
unfolding letter_of
first_letter the_null = refl
first_letter _ = refl

some_letters : (l : Literal) → 0 < length (literal_text l)
some_letters l = grind arith

same_letter : (l m : Literal) → letter_of l ≡ letter_of m → literal_text l ≡ literal_text m
unfolding letter_of
same_letter the_null the_true e = absurd (omega (arith, e))
same_letter the_null the_false e = absurd (omega (arith, e))
same_letter the_true the_null e = absurd (omega (arith, e))
same_letter the_true the_false e = absurd (omega (arith, e))
same_letter the_false the_null e = absurd (omega (arith, e))
same_letter the_false the_true e = absurd (omega (arith, e))
same_letter _ _ e = refl

signed_first : (s w v : List ℕ) → IsAtMostOneOf (0x2D ∷ []) s → IsJsonWhole w → slice_index (s ++ (w ++ v)) 0 ≤ 0x39
signed_first s w v h k = grind arith

number_first : (w : List ℕ) → JsonNumber w → slice_index w 0 ≤ 0x39
number_first w (n, h, e) = subst (λ v. slice_index v 0 ≤ 0x39) (sym e) (signed_first n.sign n.whole (fraction_text n.fraction ++ exponent_text n.exponent) h.sign h.whole)

no_number : (l : Literal) (w : List ℕ) → ¬ (JsonNumber (letter_of l ∷ w))
unfolding letter_of
no_number l w = grind arith

-- what begins with the letter of a literal is no number
no_number_at : (l : Literal) (w : List ℕ) → 0 < length w → slice_index w 0 ≡ letter_of l → ¬ (JsonNumber w)
no_number_at l [] h e n = absurd (omega (arith, h))
no_number_at l (b ∷ w) h e n = no_number l w (subst (λ c. JsonNumber (c ∷ w)) e n)

-- and is that literal, if it is a run
only_literal : (l : Literal) (w : List ℕ) → slice_index w 0 ≡ letter_of l → 0 < length w → JsonRun w → w ≡ literal_text l
only_literal l w e h (inl (m, is)) = is ∙ sym (same_letter l m (sym e ∙ (ap (λ v. slice_index v 0) is ∙ first_letter m)))
only_literal l w e h (inr n) = absurd (no_number_at l w h e n)

front_byte : (w more : List ℕ) (n : ℕ) → 0 < n → 0 < length w → slice_index (take n w ++ more) 0 ≡ slice_index w 0
front_byte w more n h k = grind arith

next_suc : (v more : List ℕ) (k : ℕ) → k < length v → slice_index (take (suc k) v ++ more) k ≡ slice_index v k
next_suc [] more k below = absurd (omega (arith, below))
next_suc (b ∷ v) more zero below = refl
next_suc (b ∷ v) more (suc k) below = next_suc v more k (omega (arith, below))

next_byte : (v more : List ℕ) (k : ℕ) → k < length v → slice_index (take (k + 1) v ++ more) k ≡ slice_index v k
next_byte v more k below = ap (λ n. slice_index (take n v ++ more) k) (add-one k) ∙ next_suc v more k below

-- the text goes with the literal, and no further
pub literal_taken : (l : Literal) (w : List ℕ) (n : ℕ) → slice_index w 0 ≡ letter_of l → IsCommon w (literal_text l) n → 0 < length w
    → TakesLongest JsonRun w (record { len = n; whole = n == length (literal_text l) })
literal_taken l w n first h some =
    let word = literal_text l in
    let begun : 0 < n = positive n refl in
    let all : take n w ++ drop n word ≡ word = ap (λ v. v ++ drop n word) h.same ∙ take-append-drop n word in
    record {
      longest = record {
        fits = h.fits;
        front = (drop n word, inl (l, all));
        longest = λ below (more, run).
            let long : 0 < length (take (n + 1) w ++ more) = omega (arith, length-append (take (n + 1) w) more, length-take (n + 1) w) in
            let is : take (n + 1) w ++ more ≡ word = only_literal l (take (n + 1) w ++ more) (front_byte w more (n + 1) (omega arith) some ∙ first) long run in
            let within : n < length word = omega (arith, ap length is, length-append (take (n + 1) w) more, length-take (n + 1) w) in
            let there : slice_index (take (n + 1) w ++ more) n ≡ slice_index w n = next_byte w more n below in
            h.stops below within (sym there ∙ ap (λ v. slice_index v n) is);
      };
      whole = (
        (λ same. let e : n ≡ length word = grind (arith, same) in inl (l, h.same ∙ take_length n word e)),
        (λ run. let long : 0 < length (take n w) = omega (arith, length-take n w, h.fits) in
            let is : take n w ≡ word = only_literal l (take n w) (taken_byte w n begun some ∙ first) long run in
            eq-eqb n (length word) (omega (arith, ap length is, length-take n w, h.fits))),
      );
    }
  where
    positive : (m : ℕ) → m ≡ n → 0 < n
    positive zero e = absurd (h.stops (omega arith) (omega (arith, some_letters l)) (ap (slice_index w) (sym e) ∙ (first ∙ (sym (first_letter l) ∙ ap (slice_index (literal_text l)) e))))
    positive (suc m) e = omega arith

    take_length : (k : ℕ) (v : List ℕ) → k ≡ length v → take k v ≡ v
    take_length k v e = take_all k v (omega arith)

    taken_byte : (v : List ℕ) (k : ℕ) → 0 < k → 0 < length v → slice_index (take k v) 0 ≡ slice_index v 0
    taken_byte [] k p q = absurd (omega (arith, q))
    taken_byte (b ∷ v) zero p q = absurd (omega arith)
    taken_byte (b ∷ v) (suc k) p q = refl

-- ---- numbers

-- the first byte is that of no literal
pub record NoLetter (w : List ℕ) : Type 0 where
  pub no_n : slice_index w 0 ≢ 0x6E
  pub no_t : slice_index w 0 ≢ 0x74
  pub no_f : slice_index w 0 ≢ 0x66

no_literal : (w : List ℕ) → NoLetter w → (l : Literal) → ¬ (w ≡ literal_text l)
no_literal w h l = grind arith

-- the longest viable prefix of a number is that of a run
pub number_taken : (w : List ℕ) (t : Taken) → NoLetter w → TakesLongest JsonNumber w t → TakesLongest JsonRun w t
number_taken w t h k = grind arith

-- ---- a whole text

-- all of the text is its longest viable prefix, and that is a word
pub whole_is_word : (L : List ℕ → Type 0) (w : List ℕ) (t : Taken) → TakesLongest L w t → t.whole ≡ true → length w ≤ t.len → L w
whole_is_word L w t h e k = subst L (take_all t.len w k) (h.whole.0 e)

-- a text that is not its longest viable prefix is no word
pub part_no_word : (L : List ℕ → Type 0) (w : List ℕ) (t : Taken) → TakesLongest L w t → t.len < length w → ¬ (L w)
part_no_word L w t h below word =
    let all : take (t.len + 1) w ++ drop (t.len + 1) w ≡ w = take-append-drop (t.len + 1) w in
    h.longest.longest below (drop (t.len + 1) w, subst L (sym all) word)

unfinished_all : (L : List ℕ → Type 0) (w : List ℕ) (t : Taken) → TakesLongest L w t → t.whole ≡ false → length w ≤ t.len → ¬ (L w)
unfinished_all L w t h e k word = true≢false (sym (h.whole.1 (subst L (sym (take_all t.len w k)) word)) ∙ e)

-- where the longest viable prefix is no word, the text is none
pub unfinished_no_word : (L : List ℕ → Type 0) (w : List ℕ) (t : Taken) → TakesLongest L w t → t.whole ≡ false → ¬ (L w)
unfinished_no_word L w t h e = elim (dec_lt t.len (length w)) [
  | yes below ↦ part_no_word L w t h below
  | no above ↦ unfinished_all L w t h e (omega (arith, above))
]

-- ---- as the readers answer

has_byte : (l : Literal) (w : List ℕ) → slice_index w 0 ≡ letter_of l → 0 < length w
unfolding letter_of
has_byte the_null [] e = absurd (omega (arith, e))
has_byte the_true [] e = absurd (omega (arith, e))
has_byte the_false [] e = absurd (omega (arith, e))
has_byte l (b ∷ w) e = omega arith

pub takes_literal : (l : Literal) (w : List ℕ) (t : Taken) → slice_index w 0 ≡ letter_of l → IsCommon w (literal_text l) t.len → t.whole ≡ (t.len == length (literal_text l)) → TakesLongest JsonRun w t
takes_literal l w t first common e =
    let taken = literal_taken l w t.len first common (has_byte l w first) in
    record { longest = taken.longest; whole = ((λ h. taken.whole.0 (sym e ∙ h)), (λ run. e ∙ taken.whole.1 run)) }

pub letter_null : letter_of the_null ≡ 0x6E
unfolding letter_of
letter_null = refl

pub letter_true : letter_of the_true ≡ 0x74
unfolding letter_of
letter_true = refl

pub letter_false : letter_of the_false ≡ 0x66
unfolding letter_of
letter_false = refl

pub is_literal : (l : Literal) (w : List ℕ) → slice_index w 0 ≡ letter_of l → JsonRun w → w ≡ literal_text l
is_literal l w e run = only_literal l w e (has_byte l w e) run

pub is_number : (w : List ℕ) → NoLetter w → JsonRun w → JsonNumber w
is_number w h k = grind arith
