-- The machine for JSON texts, token by token: what a token leads to, whatever byte comes next.
-- For `finish`, `finish_span`, `merge` and `run_block`.
use Rattle.std.proofs.Common.{◌≡◌, ℕ, List, [], ◌∷◌, ◌++◌, Some, None, option_map, option_and_then, Bool, true, false, cond, not, ◌&&◌, ◌==◌, refl, sym, ◌∙◌, ap, subst, arith}
use Rattle.std.proofs.lemmas.Bool.{not-true, and_right}
use Rattle.std.specs.Bool.{⊤}
use Rattle.at_text.specs.Texts.{is_digit, is_space, is_run, is_one_of}
use Rattle.at_text.proofs.Machine.{run}
use Rattle.at_nest.proofs.JsonNumber as num
use Rattle.at_lex.proofs.JsonString as str
use Rattle.at_lex.specs.Spans.{AreSpaces, begins_run}
use Rattle.at_nest.proofs.JsonMachine.{State, Frame, colon, after, in_number, in_string, in_name, in_word, step, within, after_step, wrong, chosen_by}

-- ---- bytes that are in no run

no_digit : (b : ℕ) → is_run b ≡ false → is_digit b ≡ false
no_digit b h = grind (arith, h)

-- a number goes on with none of them
pub number_none : (s : num.State) (b : ℕ) → is_run b ≡ false → num.step s b ≡ None
number_none num.start b h = let n : (b == 0x2D) ≡ false = grind (arith, h) in rw n (grind (arith, h))
number_none num.signed b h = grind (arith, h)
number_none num.zero_digit b h = grind (arith, h)
number_none num.whole b h = rw (no_digit b h) (grind (arith, h))
number_none num.fraction b h = rw (no_digit b h) (grind (arith, h))
number_none num.letter b h = rw (no_digit b h) (grind (arith, h))
number_none _ b h = rw (no_digit b h) refl

-- ---- a state that is past a token

-- the state is between tokens
abbrev pub IsStill : State → Type 0
IsStill (in_number n st) = ⊥
IsStill (in_string s st) = ⊥
IsStill (in_name s st) = ⊥
IsStill (in_word w st) = ⊥
IsStill _ = ⊤

-- the state is at the end of a whole token, and goes on as t
abbrev pub Settled : State → State → Type 0
Settled (in_number n st) t = (num.accepts n ≡ true) × (t ≡ after st)
Settled (in_string s st) t = (str.accepts s ≡ true) × (t ≡ after st)
Settled (in_name s st) t = (str.accepts s ≡ true) × (t ≡ colon st)
Settled (in_word w st) t = (w ≡ []) × (t ≡ after st)
Settled s t = t ≡ s

-- the state is at the end of a run
abbrev pub run_ended : State → Bool
run_ended (in_number n st) = true
run_ended (in_word w st) = true
run_ended _ = false

pub still_settled : (t : State) → IsStill t → Settled t t
still_settled (in_number n st) h = absurd h
still_settled (in_string n st) h = absurd h
still_settled (in_name n st) h = absurd h
still_settled (in_word n st) h = absurd h
still_settled _ h = refl

pub settled_still : (s t : State) → Settled s t → IsStill t
settled_still (in_number n st) t (p, e) = subst IsStill (sym e) tt
settled_still (in_string n st) t (p, e) = subst IsStill (sym e) tt
settled_still (in_name n st) t (p, e) = subst IsStill (sym e) tt
settled_still (in_word n st) t (p, e) = subst IsStill (sym e) tt
settled_still _ t e = subst IsStill (sym e) tt

pub still_space : (t : State) (b : ℕ) → IsStill t → is_space b ≡ true → step t b ≡ Some t
still_space (in_number n st) b h e = absurd h
still_space (in_string n st) b h e = absurd h
still_space (in_name n st) b h e = absurd h
still_space (in_word n st) b h e = absurd h
still_space _ b h e = chosen_by _ _ b e

closed : (s : str.State) → str.accepts s ≡ true → s ≡ str.closed
closed str.closed p = refl
closed _ p = wrong p

ended_number : (n : num.State) (st : List Frame) (b : ℕ) → num.accepts n ≡ true → is_run b ≡ false → step (in_number n st) b ≡ step (after st) b
ended_number n st b p g = ap (λ o. within (option_map (λ v. in_number v st) o) (num.accepts n) (after_step st b)) (number_none n b g) ∙ ap (λ c. cond c (after_step st b) None) p

-- the next byte does the same in both
pub settled_step : (s t : State) (b : ℕ) → Settled s t → (run_ended s && is_run b) ≡ false → step s b ≡ step t b
settled_step (in_number n st) t b (p, e) g = ended_number n st b p g ∙ sym (ap (λ x. step x b) e)
settled_step (in_string s st) t b (p, e) g = ap (λ z. step (in_string z st) b) (closed s p) ∙ sym (ap (λ x. step x b) e)
settled_step (in_name s st) t b (p, e) g = ap (λ z. step (in_name z st) b) (closed s p) ∙ sym (ap (λ x. step x b) e)
settled_step (in_word w st) t b (p, e) g = ap (λ z. step (in_word z st) b) p ∙ sym (ap (λ x. step x b) e)
settled_step _ t b e g = sym (ap (λ x. step x b) e)

-- no run goes on from the state into the bytes
abbrev pub is_clear : State → List ℕ → Bool
is_clear s w = not (run_ended s && begins_run w)

pub space_no_run : (b : ℕ) → is_space b ≡ true → is_run b ≡ false
space_no_run b h = ap (λ p. not p && not (is_one_of (0x7B ∷ 0x7D ∷ 0x5B ∷ 0x5D ∷ 0x2C ∷ 0x3A ∷ 0x22 ∷ []) b)) h

pub still_spaces : (t : State) (a w : List ℕ) → IsStill t → AreSpaces a → run step t (a ++ w) ≡ run step t w
still_spaces t [] w h s = refl
still_spaces t (b ∷ a) w h (s, r) = ap (option_and_then (λ x. run step x (a ++ w))) (still_space t b h s) ∙ still_spaces t a w h r

-- white space, and then a byte, do the same in both
pub settled_run : (s t : State) (a : List ℕ) (c : ℕ) (r : List ℕ) → Settled s t → AreSpaces a → is_clear s (a ++ (c ∷ r)) ≡ true → run step s (a ++ (c ∷ r)) ≡ run step t (c ∷ r)
settled_run s t [] c r h sp g = ap (option_and_then (λ x. run step x r)) (settled_step s t c h (not-true _ g))
settled_run s t (b ∷ a) c r h (e, sp) g = ap (option_and_then (λ x. run step x (a ++ (c ∷ r)))) (settled_step s t b h (and_right (run_ended s) _ (space_no_run b e)))
    ∙ (ap (option_and_then (λ x. run step x (a ++ (c ∷ r)))) (still_space t b (settled_still s t h) e) ∙ still_spaces t a (c ∷ r) (settled_still s t h) sp)
