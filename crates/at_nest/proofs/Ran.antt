-- The machine is in a run only where the last byte was of a run.
-- For `finish`, `finish_span`, `merge` and `run_block`.
use Rattle.std.proofs.Common.{◌≡◌, ℕ, inl, List, [], ◌∷◌, Option, Some, None, Bool, true, false, cond, not, ◌&&◌, ◌==◌, refl, sym, ◌∙◌, ap, subst, true≢false}
use Rattle.std.proofs.lemmas.Option.{same_Some, option_and_then_some}
use Rattle.std.proofs.lemmas.Bool.{not-true}
use Rattle.std.specs.Bool.{⊤}
use Rattle.at_text.specs.Texts.{is_space, is_run}
use Rattle.at_nest.proofs.JsonNumber as num
use Rattle.at_lex.specs.declared.tokens.Start.TheVariants.{Out}
use Rattle.at_lex.proofs.JsonString as str
use Rattle.at_nest.proofs.JsonMachine.{State, Frame, in_array, in_object, value, items, members, name, colon, after, in_number, in_string, in_name, in_word, step, begin_value, after_step, after_byte as after_json, colon_step, either, only, by_last, by_token, by_value}
use Rattle.at_nest.specs.Borders.{ends_run}
use Rattle.at_lex.specs.Spans.{AreRun}
use Rattle.at_nest.proofs.Steps.{Settled, is_clear, run_ended}
use Rattle.at_lex.proofs.RunBytes.{word_run}
use Rattle.at_nest.proofs.Values.{go, run_byte}
use Rattle.at_nest.proofs.Lexical.{At, none_put, text_out, bracket_number, word_off}

abbrev pub Ran : State → Bool → Type 0
Ran (in_number n st) r = r ≡ true
Ran (in_word w st) r = (r ≡ true) × AreRun w
Ran _ r = ⊤

-- where the byte may lead
abbrev RanBy : ℕ → State → Type 0
RanBy b t = Ran t (is_run b)

begin_ran : (st : List Frame) (t : State) (b : ℕ) → begin_value st b ≡ Some t → Ran t (is_run b)
begin_ran st t b = by_value (RanBy b) st t b (λ q. tt) (λ q. tt) (λ q. tt)
    (λ l c r is e. (let k : AreRun (c ∷ r) = word_run (c ∷ r) (inl (l, is)) in (ap is_run e ∙ k.0, k.1))) (λ n f. run_byte num.start n b f)

after_json_ran : (st : List Frame) (t : State) (b : ℕ) → after_json st b ≡ Some t → Ran t (is_run b)
after_json_ran [] t b e = none_put t e
after_json_ran (in_array ∷ st) t b e = either (RanBy b) (b == 0x2C) (value (in_array ∷ st)) t _ (λ q. tt) (only (RanBy b) (b == 0x5D) (after st) t (λ q. tt)) e
after_json_ran (in_object ∷ st) t b e = either (RanBy b) (b == 0x2C) (name st) t _ (λ q. tt) (only (RanBy b) (b == 0x7D) (after st) t (λ q. tt)) e

after_ran : (st : List Frame) (t : State) (b : ℕ) → after_step st b ≡ Some t → Ran t (is_run b)
after_ran st t b = either (RanBy b) (is_space b) (after st) t _ (λ q. tt) (after_json_ran st t b)

colon_ran : (st : List Frame) (t : State) (b : ℕ) → colon_step st b ≡ Some t → Ran t (is_run b)
colon_ran st t b = either (RanBy b) (is_space b) (colon st) t _ (λ q. tt) (only (RanBy b) (b == 0x3A) (value (in_object ∷ st)) t (λ q. tt))

ran_step : (q t : State) (b : ℕ) (r : Bool) → Ran q r → step q b ≡ Some t → Ran t (is_run b)
ran_step (value st) t b r h e = either (RanBy b) (is_space b) (value st) t _ (λ q. tt) (begin_ran st t b) e
ran_step (items st) t b r h e = either (RanBy b) (is_space b) (items st) t _ (λ q. tt) (either (RanBy b) (b == 0x5D) (after st) t _ (λ q. tt) (begin_ran (in_array ∷ st) t b)) e
ran_step (members st) t b r h e = either (RanBy b) (is_space b) (members st) t _ (λ q. tt) (either (RanBy b) (b == 0x7D) (after st) t _ (λ q. tt) (only (RanBy b) (b == 0x22) (in_name str.inside st) t (λ q. tt))) e
ran_step (name st) t b r h e = either (RanBy b) (is_space b) (name st) t _ (λ q. tt) (only (RanBy b) (b == 0x22) (in_name str.inside st) t (λ q. tt)) e
ran_step (colon st) t b r h e = colon_ran st t b e
ran_step (after st) t b r h e = after_ran st t b e
ran_step (in_number n st) t b r h e = by_token (RanBy b) (λ v. in_number v st) (num.step n b) (num.accepts n) (after_step st b) t (λ v f. run_byte n v b f) (λ p. after_ran st t b) e
ran_step (in_string q st) t b r h e = by_token (RanBy b) (λ v. in_string v st) (str.step q b) (str.accepts q) (after_step st b) t (λ v f. tt) (λ p. after_ran st t b) e
ran_step (in_name q st) t b r h e = by_token (RanBy b) (λ v. in_name v st) (str.step q b) (str.accepts q) (colon_step st b) t (λ v f. tt) (λ p. colon_ran st t b) e
ran_step (in_word [] st) t b r h e = after_ran st t b e
ran_step (in_word (c ∷ w) st) t b r (h, (k, l)) e = by_last (RanBy b) b c (in_word w st) t (λ q. (ap is_run q ∙ k, l)) e

-- the machine is in a run only where the last byte was of one
ran_by : (q t : State) (b : ℕ) (w : List ℕ) (r : Bool) → Ran q r → go q (b ∷ w) ≡ Some t → Ran t (ends_run (b ∷ w))
ran_by q t b [] r h e = option_and_then_some (λ z. Some z) (step q b) t e (λ v f g. subst (λ z. Ran z (is_run b)) (same_Some v t g) (ran_step q v b r h f))
ran_by q t b (c ∷ w) r h e = option_and_then_some (λ z. go z (c ∷ w)) (step q b) t e (λ v f g. ran_by v t c w (is_run b) (ran_step q v b r h f) g)

pub ran_start : (t : State) (w : List ℕ) → go (value []) w ≡ Some t → Ran t (ends_run w)
ran_start t [] e = subst (λ z. Ran z false) (same_Some (value []) t e) tt
ran_start t (b ∷ w) e = ran_by (value []) t b w false tt e

-- behind a byte that is of no run the machine is in no run
pub start_ran : (t : State) (w : List ℕ) → go (value []) w ≡ Some t → ends_run w ≡ false → Ran t false
start_ran t w e n = subst (Ran t) n (ran_start t w e)

-- outside text and in no run, the machine is settled
pub ran_settled : (t : State) → At t Out → Ran t false → (u : State) × Settled t u × (run_ended t ≡ false)
ran_settled (in_number n st) h k = absurd (true≢false (sym k))
ran_settled (in_word w st) h (k, l) = absurd (true≢false (sym k))
ran_settled (in_string q st) h k = (after st, (ap str.accepts (text_out q h), refl), refl)
ran_settled (in_name q st) h k = (colon st, (ap str.accepts (text_out q h), refl), refl)
ran_settled t h k = (t, refl, refl)

no_run_behind : (p : Bool) (c : ℕ) → p ≡ true → not (p && is_run c) ≡ true → is_run c ≡ false
no_run_behind p c e h = not-true (is_run c) (sym (ap (λ z. not (z && is_run c)) e) ∙ h)

number_done : (p : Bool) (o : Option State) (t : State) → cond p o None ≡ Some t → p ≡ true
number_done true o t e = refl
number_done false o t e = none_put t e

-- outside text, where the machine goes on with a byte that no run before goes on with, it is settled
pub goes_settled : (q t : State) (p : Bool) (c : ℕ) (y : List ℕ) → At q Out → Ran q p → not (p && is_run c) ≡ true → step q c ≡ Some t → (u : State) × Settled q u × (is_clear q (c ∷ y) ≡ true)
goes_settled (in_number n st) t p c y h k a e = let no : is_run c ≡ false = no_run_behind p c k a in
    (after st, (number_done (num.accepts n) (after_step st c) t (sym (bracket_number n st c no) ∙ e), refl), ap not no)
goes_settled (in_word [] st) t p c y (h, l) (k, m) a e = (after st, (refl, refl), ap not (no_run_behind p c k a))
goes_settled (in_word (d ∷ w) st) t p c y (h, (l, ls)) (k, m) a e = absurd (word_off d c w st t (no_run_behind p c k a) l e)
goes_settled (in_string q st) t p c y h k a e = (after st, (ap str.accepts (text_out q h), refl), refl)
goes_settled (in_name q st) t p c y h k a e = (colon st, (ap str.accepts (text_out q h), refl), refl)
goes_settled q t p c y h k a e = (q, refl, refl)
