-- How a machine that reads bytes one by one, and every state of which can still end well, gives the longest
-- viable prefix. `Rest s` is what may follow in the state s, told without the machine.
-- For the crates above.
use Rattle.std.proofs.Common.{◌≡◌, ℕ, ◌+◌, ◌<◌, ◌≤◌, List, [], ◌∷◌, ◌++◌, length, take, drop, slice_index, Option, Some, None, option_and_then, Bool, IsTrue, ◌↔◌, sym, ◌∙◌, ap, subst, append_assoc, append-nil, arith, take-suc, take-append-drop, take-take, add-one, lt_of_lt_of_le, ◌⊎◌, inl, inr}
use Rattle.std.proofs.lemmas.Option.{none-some, same_Some, option_and_then_some}
use native.Mathlib.Decide.{dec_lt}
use Rattle.at_text.specs.declared.prefixes.Taken.{Taken}
use Rattle.at_text.specs.Prefix.{Viable, LongestViable, TakesLongest}

-- the state after the bytes, where the machine doesn't stop
abbrev pub run : {S : Type 0} → (S → ℕ → Option S) → S → List ℕ → Option S
run step s [] = Some s
run step s (b ∷ w) = option_and_then (λ t. run step t w) (step s b)

-- each state has an end, each step takes off one byte of what may follow, and nothing else may follow
pub record IsMachine {S : Type 0} (Rest : S → List ℕ → Type 0) (step : S → ℕ → Option S) (accepts : S → Bool) : Type 0 where
  pub ends : (s : S) → Rest s [] ↔ IsTrue (accepts s)
  pub goes : (s : S) (b : ℕ) (w : List ℕ) → Rest s (b ∷ w) → (t : S) × (step s b ≡ Some t) × Rest t w
  pub comes : (s t : S) (b : ℕ) (w : List ℕ) → step s b ≡ Some t → Rest t w → Rest s (b ∷ w)
  pub lives : (s : S) → (w : List ℕ) × Rest s w

-- what is viable stays so when it is cut short
pub shorter : (L : List ℕ → Type 0) (w : List ℕ) (n m : ℕ) → m ≤ n → Viable L (take n w) → Viable L (take m w)
shorter L w n m h (v, l) =
    let split : take n w ++ v ≡ take m w ++ (drop m (take n w) ++ v) =
    ap (λ x. x ++ v) (sym (take-append-drop m (take n w)) ∙ ap (λ x. x ++ drop m (take n w)) (take-take m n w h)) ∙ append_assoc (take m w) (drop m (take n w)) v in
    (drop m (take n w) ++ v, subst L split l)

lt_cases : (m n : ℕ) → (m ≡ n) ⊎ ((m < n) ⊎ (n < m))
lt_cases m n = elim (dec_lt m n) [ yes h ↦ inr (inl h) | no f ↦ elim (dec_lt n m) [ yes h ↦ inr (inr h) | no g ↦ inl (omega arith) ] ]

module _ {S : Type 0} {Rest : S → List ℕ → Type 0} {step : S → ℕ → Option S} {accepts : S → Bool} (m : IsMachine Rest step accepts) where
  pub run-rest : (s t : S) (u w : List ℕ) → run step s u ≡ Some t → Rest t w → Rest s (u ++ w)
  run-rest s t [] w e r = let P : S → Type 0 = λ x. Rest x w in subst P (sym (same_Some s t e)) r
  run-rest s t (b ∷ u) w e r =
      option_and_then_some (λ x. run step x u) (step s b) t e (λ v f g. m.comes s v b (u ++ w) f (run-rest v t u w g r))

  pub rest-run : (s t : S) (u w : List ℕ) → run step s u ≡ Some t → Rest s (u ++ w) → Rest t w
  rest-run s t [] w e r = let P : S → Type 0 = λ x. Rest x w in subst P (same_Some s t e) r
  rest-run s t (b ∷ u) w e r =
      let (v, f, q) = m.goes s b (u ++ w) r in
      let P : Option S → Type 0 = λ o. option_and_then (λ x. run step x u) o ≡ Some t in
      rest-run v t u w (subst P f e) q

  -- the loop's step
  pub run_more : (s t u : S) (w : List ℕ) (b : ℕ) → run step s w ≡ Some t → step t b ≡ Some u → run step s (w ++ b ∷ []) ≡ Some u
  run_more s t u [] b e f = ap (option_and_then (λ x. Some x)) (ap (λ x. step x b) (same_Some s t e) ∙ f)
  run_more s t u (c ∷ w) b e f =
      option_and_then_some (λ x. run step x w) (step s c) t e (λ v g h. ap (option_and_then (λ x. run step x (w ++ b ∷ []))) g ∙ run_more v t u w b h f)

  -- where the machine stands after n bytes, at the end or before a byte that stops it, that is the longest viable prefix
  pub longest_at : (start s : S) (w : List ℕ) (n : ℕ) → n ≤ length w → run step start (take n w) ≡ Some s
      → (n < length w → step s (slice_index w n) ≡ None)
      → TakesLongest (Rest start) w (record { len = n; whole = accepts s })
  longest_at start s w n h e stops = record {
    longest = record {
      fits = h;
      front = (let (v, r) = m.lives s in (v, run-rest start s (take n w) v e r));
      longest = λ below (more, r).
          let b : ℕ = slice_index w n in
          let split : take (n + 1) w ++ more ≡ take n w ++ (b ∷ more) = (rw (add-one n, take-suc w n 0 below) (append_assoc (take n w) (b ∷ []) more)) in
          let after : Rest s (b ∷ more) = rest-run start s (take n w) (b ∷ more) e (subst (Rest start) split r) in
          let (t, f, q) = m.goes s b more after in
          none-some t (sym (stops below) ∙ f);
    };
    whole = (
      (λ accepted. let r : Rest start (take n w ++ []) = run-rest start s (take n w) [] e ((m.ends s).1 accepted) in subst (Rest start) (append-nil (take n w)) r),
      (λ word. (m.ends s).0 (rest-run start s (take n w) [] e (subst (Rest start) (sym (append-nil (take n w))) word))),
    );
  }

-- a longest viable prefix has one length
pub longest_unique : (L : List ℕ → Type 0) (w : List ℕ) (m n : ℕ) → LongestViable L w m → LongestViable L w n → m ≡ n
longest_unique L w m n a b = elim (lt_cases m n) [
  | inl same ↦ same
  | inr (inl less) ↦ absurd (a.longest (lt_of_lt_of_le less b.fits) (shorter L w n (m + 1) (omega arith) b.front))
  | inr (inr more) ↦ absurd (b.longest (lt_of_lt_of_le more a.fits) (shorter L w m (n + 1) (omega arith) a.front))
]

-- what is said of a language holds of an equal one
pub TakesLongest-same : (L M : List ℕ → Type 0) (w : List ℕ) (t : Taken) → ((v : List ℕ) → L v ↔ M v) → TakesLongest L w t → TakesLongest M w t
TakesLongest-same L M w t e h = record {
  longest = record {
    fits = h.longest.fits;
    front = (let (v, l) = h.longest.front in (v, (e (take t.len w ++ v)).0 l));
    longest = λ below (v, l). h.longest.longest below (v, (e (take (t.len + 1) w ++ v)).1 l);
  };
  whole = ((λ a. (e (take t.len w)).0 (h.whole.0 a)), (λ l. h.whole.1 ((e (take t.len w)).1 l)));
}

-- the machine ends well over the bytes
abbrev pub Accepts : {S : Type 0} → (S → ℕ → Option S) → (S → Bool) → S → List ℕ → Type 0
Accepts step accepts s [] = IsTrue (accepts s)
Accepts {S} step accepts s (b ∷ w) = (t : S) × (step s b ≡ Some t) × Accepts step accepts t w

-- each machine reads what it accepts, where each of its states has an end
pub accepts_machine : {S : Type 0} (step : S → ℕ → Option S) (accepts : S → Bool)
    → ((s : S) → (w : List ℕ) × Accepts step accepts s w) → IsMachine (Accepts step accepts) step accepts
accepts_machine step accepts lives = record {
  ends = λ s. ((λ h. h), (λ h. h));
  goes = λ s b w r. r;
  comes = λ s t b w e r. (t, e, r);
  lives = lives;
}
