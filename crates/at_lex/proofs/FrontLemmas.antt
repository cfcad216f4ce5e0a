-- What is known of the bytes of a front, and of the byte behind them.
-- For most public calls of the crate, `copy`, `from_slice`, `lex` among them.
use Rattle.std.proofs.Common.{◌≡◌, ℕ, zero, suc, ◌+◌, ◌-◌, ◌<◌, ◌≤◌, List, [], ◌∷◌, length, take, drop, slice_index, Bool, true, false, IsTrue, refl, sym, ◌∙◌, ap, subst, arith, length-drop, get_or-drop}
use native.Mathlib.Decide.{dec_lt}
use Rattle.std.proofs.lemmas.List.{take_all}
use Rattle.std.specs.List.{AllByRecursion}
use Rattle.at_text.specs.Texts.{is_space, is_run}
use Rattle.at_lex.specs.Spans.{begins_space, begins_run}
use Rattle.at_lex.specs.Fronts.{IsFront}

all_taken : (test : ℕ → Bool) (w : List ℕ) (n : ℕ) → n ≤ length w → ((k : ℕ) → k < n → test (slice_index w k) ≡ true) → AllByRecursion (λ b. IsTrue (test b)) (take n w)
all_taken test w zero h f = tt
all_taken test [] (suc n) h f = absurd (omega arith)
all_taken test (b ∷ w) (suc n) h f = (f 0 (omega arith), all_taken test w n (omega arith) (λ k less. f (suc k) (omega arith)))

-- each byte of the front passes
pub front_all : (test : ℕ → Bool) (w : List ℕ) (n : ℕ) → IsFront test w n → AllByRecursion (λ b. IsTrue (test b)) (take n w)
front_all test w n h = all_taken test w n h.fits h.passes

-- behind a front of a run stands no byte of one
pub run_stops : (w : List ℕ) (n : ℕ) → (n < length w → is_run (slice_index w n) ≡ false) → begins_run (drop n w) ≡ false
run_stops [] zero f = refl
run_stops [] (suc n) f = refl
run_stops (b ∷ w) zero f = f (omega arith)
run_stops (b ∷ w) (suc n) f = run_stops w n (λ h. f (omega arith))

-- what `&s[n..]` is
pub suffix_is : (w : List ℕ) (n : ℕ) → take (length w - n) (drop n w) ≡ drop n w
suffix_is w n = take_all (length w - n) (drop n w) (omega (arith, length-drop n w))

-- a front of what stands behind n bytes
pub front_behind : (test : ℕ → Bool) (w : List ℕ) (n k : ℕ) → IsFront test (take (length w - n) (drop n w)) k → IsFront test (drop n w) k
front_behind test w n k h = subst (λ v. IsFront test v k) (suffix_is w n) h

-- bytes that all pass, and a front behind them
pub front_join : (test : ℕ → Bool) (w : List ℕ) (a b : ℕ) → a ≤ length w → ((k : ℕ) → k < a → test (slice_index w k) ≡ true) → IsFront test (take (length w - a) (drop a w)) b → IsFront test w (a + b)
front_join test w a b fits near far =
    let g = front_behind test w a b far in
    let left = length-drop a w in
    record {
      fits = (let f = g.fits in omega (arith, f, left, fits));
      passes = λ k h. elim (dec_lt k a) [
        | yes below ↦ near k below
        | no above ↦ (let past : k ≡ a + (k - a) = omega (arith, above) in ap test (ap (slice_index w) past ∙ sym (get_or-drop a w (k - a) 0)) ∙ g.passes (k - a) (omega (arith, h, above)))
      ];
      stops = λ h. ap test (sym (get_or-drop a w b 0)) ∙ g.stops (omega (arith, h, left));
    }
