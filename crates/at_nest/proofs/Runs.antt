-- A run that is no value: its longest viable prefix, and the byte behind it, stop the machine.
-- For `finish`, `finish_span`, `merge` and `run_block`.
use Rattle.std.proofs.Common.{◌≡◌, ℕ, ◌⊎◌, inl, inr, List, [], ◌∷◌, ◌++◌, Option, Some, None, option_map, option_and_then, true, false, ◌==◌, refl, sym, ◌∙◌, ap, subst, append_assoc, append-nil, codes, ◌+◌, length, true≢false}
use Rattle.std.proofs.lemmas.Bool.{eqb-true, false_from_ne_true}
use Rattle.at_text.specs.Prefix.{Viable}
use Rattle.at_text.specs.Texts.{is_run}
use Rattle.at_text.proofs.Machine.{run, run-rest, run_more}
use Rattle.at_nest.proofs.JsonNumber as num
use Rattle.at_lex.specs.Runs.{Literal, literal_text, the_null, the_true, the_false, JsonRun}
use Rattle.at_nest.proofs.JsonMachine.{Frame, in_number, begin_value}
use Rattle.at_lex.specs.Spans.{AreRun}
use Rattle.at_lex.proofs.RunBytes.{word_run}
use Rattle.at_nest.specs.Forms.{Meaning}
use Rattle.at_nest.proofs.Steps.{number_none}
use Rattle.at_nest.specs.Levels.{plain_halt, in_run}
use Rattle.at_nest.proofs.Pushes.{IsRunBegun, IsStop}
use Rattle.at_nest.proofs.Begun.{unlike, pass}
use Rattle.at_nest.proofs.Longest.{rest_runs, option_cases}
use Rattle.at_nest.proofs.TokenStops.{RunStops, WordStops, empty_form, run_stops_at, first_stops_at}

number_viable : (u : List ℕ) (n : num.State) → run num.step num.start u ≡ Some n → Viable JsonRun u
number_viable u n e = let (v, r) = num.machine.lives n in (v, inr ((num.start-JsonNumber (u ++ v)).0 (run-rest num.machine num.start n u v e r)))

pub number_whole : (u : List ℕ) (n : num.State) → run num.step num.start u ≡ Some n → num.accepts n ≡ true → JsonRun u
number_whole u n e a = inr ((num.start-JsonNumber u).0 (subst (num.Rest num.start) (append-nil u) (run-rest num.machine num.start n u [] e ((num.machine.ends n).1 a))))

pub begun_of : (u : List ℕ) → Viable JsonRun u → IsRunBegun u
begun_of u (v, inl (l, e)) = inr (l, v, e)
begun_of u (v, inr h) = let (n, e, r) = rest_runs num.machine num.start u v ((num.start-JsonNumber (u ++ v)).1 h) in inl (n, e)

-- the byte behind: of the run, and then no run begins so, or of no run, and then the bytes are no run
abbrev pub IsBehind : List ℕ → ℕ → Type 0
IsBehind u byte = ((is_run byte ≡ true) × (¬ (Viable JsonRun (u ++ byte ∷ [])))) ⊎ ((is_run byte ≡ false) × (¬ JsonRun u))

pub no_nil : JsonRun [] → ⊥
no_nil (inl (the_null, e)) = cc
no_nil (inl (the_true, e)) = cc
no_nil (inl (the_false, e)) = cc
no_nil (inr h) = (num.start-JsonNumber []).1 h

pub run_there : (u : List ℕ) (c : ℕ) (r : List ℕ) → AreRun (u ++ (c ∷ r)) → is_run c ≡ true
run_there [] c r (e, h) = e
run_there (b ∷ u) c r (e, h) = run_there u c r h

step_none : (u : List ℕ) (n : num.State) (byte : ℕ) → run num.step num.start u ≡ Some n → IsBehind u byte → num.step n byte ≡ None
step_none u n byte e (inl (h, k)) = elim (option_cases (num.step n byte)) [ inl f ↦ f | inr (q, f) ↦ absurd (k (number_viable (u ++ byte ∷ []) q (run_more num.machine num.start n q u byte e f))) ]
step_none u n byte e (inr (h, k)) = number_none n byte h

number_rest : (u : List ℕ) (n : num.State) (byte : ℕ) → run num.step num.start u ≡ Some n → IsBehind u byte → (is_run byte ≡ true) ⊎ (num.accepts n ≡ false)
number_rest u n byte e (inl (h, k)) = inl h
number_rest u n byte e (inr (h, k)) = inr (false_from_ne_true (num.accepts n) (λ f. k (number_whole u n e f)))

word_rest : (l : Literal) (u r : List ℕ) (byte : ℕ) → u ++ r ≡ literal_text l → IsBehind u byte → WordStops r byte
word_rest l u [] byte e (inl (h, k)) = h
word_rest l u [] byte e (inr (h, k)) = absurd (k (inl (l, sym (append-nil u) ∙ e)))
word_rest l u (c ∷ r) byte e b = false_from_ne_true (byte == c) (λ f. not_byte (eqb-true byte c f) b)
  where
    not_byte : byte ≡ c → IsBehind u byte → ⊥
    not_byte f (inl (h, k)) = k (subst (λ z. Viable JsonRun (u ++ z ∷ [])) (sym f) (r, inl (l, append_assoc u (c ∷ []) r ∙ e)))
    not_byte f (inr (h, k)) = true≢false (sym (run_there u c r (word_run (u ++ (c ∷ r)) (inl (l, e)))) ∙ (ap is_run (sym f) ∙ h))

pub run_stops : (u : List ℕ) (byte : ℕ) → IsRunBegun u → IsBehind u byte → RunStops u byte
run_stops u byte (inl (n, e)) b = inl (n, e, step_none u n byte e b, number_rest u n byte e b)
run_stops u byte (inr (l, r, e)) b = inr (l, r, e, word_rest l u r byte e b)

-- a byte of a run with which no run begins begins no value
not_letter : (byte c : ℕ) (w : List ℕ) (l : Literal) → c ∷ w ≡ literal_text l → ¬ (Viable JsonRun (byte ∷ [])) → (byte == c) ≡ false
not_letter byte c w l e h = false_from_ne_true (byte == c) (λ f. h (w, inl (l, ap (λ z. z ∷ w) (eqb-true byte c f) ∙ e)))

pub first_none : (byte : ℕ) → is_run byte ≡ true → ¬ (Viable JsonRun (byte ∷ [])) → (st : List Frame) → begin_value st byte ≡ None
first_none byte k h st = pass (byte == 0x5B) _ _ _ (unlike is_run byte 0x5B refl k) (pass (byte == 0x7B) _ _ _ (unlike is_run byte 0x7B refl k) (pass (byte == 0x22) _ _ _ (unlike is_run byte 0x22 refl k)
    (pass (byte == 0x6E) _ _ _ (not_letter byte 0x6E (codes "ull") the_null refl h) (pass (byte == 0x74) _ _ _ (not_letter byte 0x74 (codes "rue") the_true refl h) (pass (byte == 0x66) _ _ _ (not_letter byte 0x66 (codes "alse") the_false refl h)
    (ap (option_map (λ v. in_number v st)) (number_first (num.step num.start byte) refl)))))))
  where
    number_first : (o : Option num.State) → num.step num.start byte ≡ o → num.step num.start byte ≡ None
    number_first None e = e
    number_first (Some n) e = absurd (h (number_viable (byte ∷ []) n (ap (option_and_then (λ z. Some z)) e)))

-- a run that is no value stops: behind u, its longest viable prefix, the byte stands
pub run_token : {X : Type 0} (m : Meaning X) (at : ℕ) (b : ℕ) (v : List ℕ) (byte : ℕ) (others : List ℕ) → is_run b ≡ true → Viable JsonRun (b ∷ v) → IsBehind (b ∷ v) byte
    → IsStop {X = X} m at ((b ∷ v) ++ (byte ∷ others)) empty_form (record { kind = in_run; item = at; place = at + length (b ∷ v) })
run_token m at b v byte others k h behind = run_stops_at m at ((b ∷ v) ++ (byte ∷ others)) b v byte others refl k (run_stops (b ∷ v) byte (begun_of (b ∷ v) h) behind)

pub first_token : {X : Type 0} (m : Meaning X) (at : ℕ) (byte : ℕ) (others : List ℕ) → is_run byte ≡ true → ¬ (Viable JsonRun (byte ∷ [])) → IsStop {X = X} m at (byte ∷ others) empty_form (plain_halt at)
first_token m at byte others k h = first_stops_at m at (byte ∷ others) byte others refl k (first_none byte k h)
