-- What a longest viable prefix says of the machine: it goes through, and stops at the next byte. And a string cut in two is read by it.
-- For `finish`, `finish_span`, `merge` and `run_block`.
use Rattle.std.proofs.Common.{◌≡◌, ℕ, ◌⊎◌, inl, inr, List, [], ◌∷◌, ◌++◌, Option, Some, None, option_and_then, Bool, refl, ◌∙◌, ap, add-one, take-suc, ◌+◌, ◌<◌, length, take, slice_index}
use Rattle.at_text.specs.Prefix.{LongestViable}
use Rattle.at_text.proofs.Machine.{IsMachine, run, run-rest, run_more}
use Rattle.at_lex.specs.Strings.{JsonString}
use Rattle.at_lex.proofs.JsonString as str

pub option_cases : {S : Type 0} (o : Option S) → (o ≡ None) ⊎ ((t : S) × (o ≡ Some t))
option_cases None = inl refl
option_cases (Some t) = inr (t, refl)

module _ {S : Type 0} {Rest : S → List ℕ → Type 0} {step : S → ℕ → Option S} {accepts : S → Bool} (m : IsMachine Rest step accepts) where
  pub rest_runs : (s : S) (u v : List ℕ) → Rest s (u ++ v) → (t : S) × (run step s u ≡ Some t) × Rest t v
  rest_runs s [] v r = (s, refl, r)
  rest_runs s (b ∷ u) v r = let (t, e, q) = m.goes s b (u ++ v) r in let (x, f, k) = rest_runs t u v q in (x, ap (option_and_then (λ y. run step y u)) e ∙ f, k)

  pub longest_runs : (start : S) (w : List ℕ) (n : ℕ) → LongestViable (Rest start) w n → (s : S) × (run step start (take n w) ≡ Some s) × (n < length w → step s (slice_index w n) ≡ None)
  longest_runs start w n h = let (v, r) = h.front in let (s, e, q) = rest_runs start (take n w) v r in (
    s,
    e,
    λ below. elim (option_cases (step s (slice_index w n))) [
      | inl none ↦ none
      | inr (t, f) ↦ (let (more, k) = m.lives t in
          let one : run step start (take n w ++ slice_index w n ∷ []) ≡ Some t = run_more m start s t (take n w) (slice_index w n) e f in
          let all : take (n + 1) w ≡ take n w ++ slice_index w n ∷ [] = (rw (add-one n, take-suc w n 0 below) refl) in
          absurd (h.longest below (more, run-rest m start t (take (n + 1) w) more (ap (run step start) all ∙ one) k)))
    ],
  )

-- a string's text, up to where no string goes on
pub string_runs : (w : List ℕ) (n : ℕ) → LongestViable JsonString w n → (s : str.State) × (run str.step str.opening (take n w) ≡ Some s) × (n < length w → str.step s (slice_index w n) ≡ None)
string_runs w n h = longest_runs str.machine str.opening w n (record {
  fits = h.fits;
  front = (let (v, j) = h.front in (v, (str.opening-JsonString (take n w ++ v)).1 j));
  longest = λ below (v, r). h.longest below (v, (str.opening-JsonString (take (n + 1) w ++ v)).0 r);
})
