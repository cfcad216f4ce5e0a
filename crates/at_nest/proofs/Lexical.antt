-- The lexical state in each state of the machine, and what an opening bracket leads to.
-- For `finish`, `finish_span`, `merge` and `run_block`.
use Rattle.std.proofs.Common.{◌≡◌, ℕ, ◌⊎◌, inl, inr, List, [], ◌∷◌, Option, Some, None, option_map, Bool, true, false, cond, ◌==◌, refl, sym, ◌∙◌, ap, subst, true≢false}
use Rattle.std.proofs.lemmas.Option.{none-some, same_Some, option_and_then_some}
use Rattle.std.specs.Bool.{⊤}
use Rattle.std.specs.Char.{is_ascii_hexdigit}
use Rattle.at_text.specs.Texts.{is_space, is_run}
use Rattle.at_lex.specs.Strings.{is_plain}
use Rattle.at_nest.proofs.JsonNumber as num
use Rattle.at_lex.specs.declared.tokens.Start.{Start}
use Rattle.at_lex.specs.declared.tokens.Start.TheVariants.{Out, InString, InEscape}
use Rattle.at_lex.proofs.JsonString as str
use Rattle.at_nest.proofs.JsonMachine.{State, Frame, in_array, in_object, value, items, members, name, colon, after, in_number, in_string, in_name, in_word, step, within, begin_value, after_step, after_byte as after_json, colon_step, either, only, by_byte, by_last, by_token, by_value}
use Rattle.at_lex.specs.Spans.{after_byte, end_of, AreRun}
use Rattle.at_nest.proofs.Steps.{number_none, Settled}
use Rattle.at_nest.proofs.Values.{go, run_byte, unlike}
use Rattle.at_lex.proofs.RunBytes.{word_run}

abbrev pub InText : str.State → Start → Type 0
InText str.opening s = ⊥
InText str.escaped s = s ≡ InEscape
InText str.closed s = s ≡ Out
InText _ s = s ≡ InString

-- the machine's state may stand where the lexical state is s
abbrev pub At : State → Start → Type 0
At (in_string q st) s = InText q s
At (in_name q st) s = InText q s
At (in_word w st) s = (s ≡ Out) × AreRun w
At _ s = s ≡ Out

-- by a byte that passes a test that no quote passes, and no backslash
stays_out : (P : ℕ → Bool) (b : ℕ) → P 0x22 ≡ false → P b ≡ true → after_byte Out b ≡ Out
stays_out P b h e = ap (λ c. cond c InString Out) (unlike P b 0x22 h e)

stays_in : (P : ℕ → Bool) (b : ℕ) → P 0x22 ≡ false → P 0x5C ≡ false → P b ≡ true → after_byte InString b ≡ InString
stays_in P b h k e = ap (λ c. cond c InEscape (cond (b == 0x22) Out InString)) (unlike P b 0x5C k e) ∙ ap (λ c. cond c Out InString) (unlike P b 0x22 h e)

pub none_put : {A : Type 0} {P : Type 0} (t : A) → ◌≡◌ {A = Option A} None (Some t) → P
none_put t e = absurd (none-some t e)

from_state : (P : Start → Type 0) (b : ℕ) (s r : Start) → s ≡ r → P (after_byte r b) → P (after_byte s b)
from_state P b s r e h = subst (λ (x : Start). P (after_byte x b)) (sym e) h

hex_step : (t u : str.State) (b : ℕ) → (after_byte InString b ≡ InString → InText u (after_byte InString b)) → cond (is_ascii_hexdigit b) (Some u) None ≡ Some t → InText t (after_byte InString b)
hex_step t u b i e = only (λ x. InText x (after_byte InString b)) (is_ascii_hexdigit b) u t (λ q. i (stays_in is_ascii_hexdigit b refl refl q)) e

-- the text's state after one byte
pub text_step : (q t : str.State) (b : ℕ) (s : Start) → InText q s → str.step q b ≡ Some t → InText t (after_byte s b)
text_step str.opening t b s h e = absurd h
text_step str.inside t b s h e = let P : str.State → Type 0 = λ x. InText x (after_byte InString b) in from_state (InText t) b s InString h
    (by_byte P b 0x22 str.closed t _ (ap (after_byte InString)) (by_byte P b 0x5C str.escaped t _ (ap (after_byte InString)) (only P (is_plain b) str.inside t (stays_in is_plain b refl refl))) e)
text_step str.escaped t b s h e = let P : str.State → Type 0 = λ x. InText x InString in from_state (InText t) b s InEscape h
    (by_byte P b 0x75 str.hex4 t _ (λ q. refl) (only P _ str.inside t (λ q. refl)) e)
text_step str.hex4 t b s h e = from_state (InText t) b s InString h (hex_step t str.hex3 b (λ i. i) e)
text_step str.hex3 t b s h e = from_state (InText t) b s InString h (hex_step t str.hex2 b (λ i. i) e)
text_step str.hex2 t b s h e = from_state (InText t) b s InString h (hex_step t str.hex1 b (λ i. i) e)
text_step str.hex1 t b s h e = from_state (InText t) b s InString h (hex_step t str.inside b (λ i. i) e)
text_step str.closed t b s h e = none_put t e

pub closed_is : (n : str.State) (s : Start) → InText n s → str.accepts n ≡ true → s ≡ Out
closed_is str.closed s h a = h
closed_is str.opening s h a = absurd h
closed_is _ s h a = absurd (true≢false (sym a))

pub not_out_string : Out ≡ InString → ⊥
not_out_string e = cc

pub not_out_escape : Out ≡ InEscape → ⊥
not_out_escape e = cc

-- outside text a string is at its end
pub text_out : (q : str.State) → InText q Out → q ≡ str.closed
text_out str.closed h = refl
text_out str.opening h = absurd h
text_out str.escaped h = absurd (not_out_escape h)
text_out _ h = absurd (not_out_string h)

-- ---- the whole machine

-- where the byte may lead from outside text
abbrev Leads : ℕ → State → Type 0
Leads b t = At t (after_byte Out b)

begin_at : (st : List Frame) (t : State) (b : ℕ) → begin_value st b ≡ Some t → At t (after_byte Out b)
begin_at st t b = by_value (Leads b) st t b (ap (after_byte Out)) (ap (after_byte Out)) (ap (after_byte Out))
    (λ l c r is e. (let k : AreRun (c ∷ r) = word_run (c ∷ r) (inl (l, is)) in (stays_out is_run b refl (ap is_run e ∙ k.0), k.1))) (λ n f. stays_out is_run b refl (run_byte num.start n b f))

after_json_at : (st : List Frame) (t : State) (b : ℕ) → after_json st b ≡ Some t → At t (after_byte Out b)
after_json_at [] t b e = none_put t e
after_json_at (in_array ∷ st) t b e = by_byte (Leads b) b 0x2C (value (in_array ∷ st)) t _ (ap (after_byte Out)) (by_last (Leads b) b 0x5D (after st) t (ap (after_byte Out))) e
after_json_at (in_object ∷ st) t b e = by_byte (Leads b) b 0x2C (name st) t _ (ap (after_byte Out)) (by_last (Leads b) b 0x7D (after st) t (ap (after_byte Out))) e

after_at : (st : List Frame) (t : State) (b : ℕ) → after_step st b ≡ Some t → At t (after_byte Out b)
after_at st t b = either (Leads b) (is_space b) (after st) t _ (stays_out is_space b refl) (after_json_at st t b)

colon_at : (st : List Frame) (t : State) (b : ℕ) → colon_step st b ≡ Some t → At t (after_byte Out b)
colon_at st t b = either (Leads b) (is_space b) (colon st) t _ (stays_out is_space b refl) (by_last (Leads b) b 0x3A (value (in_object ∷ st)) t (ap (after_byte Out)))

name_at : (st : List Frame) (t : State) (b : ℕ) → cond (b == 0x22) (Some (in_name str.inside st)) None ≡ Some t → At t (after_byte Out b)
name_at st t b = by_last (Leads b) b 0x22 (in_name str.inside st) t (ap (after_byte Out))

pub at_step : (q t : State) (b : ℕ) (s : Start) → At q s → step q b ≡ Some t → At t (after_byte s b)
at_step (value st) t b s h e = from_state (At t) b s Out h (either (Leads b) (is_space b) (value st) t _ (stays_out is_space b refl) (begin_at st t b) e)
at_step (items st) t b s h e = from_state (At t) b s Out h (either (Leads b) (is_space b) (items st) t _ (stays_out is_space b refl)
    (by_byte (Leads b) b 0x5D (after st) t _ (ap (after_byte Out)) (begin_at (in_array ∷ st) t b)) e)
at_step (members st) t b s h e = from_state (At t) b s Out h (either (Leads b) (is_space b) (members st) t _ (stays_out is_space b refl)
    (by_byte (Leads b) b 0x7D (after st) t _ (ap (after_byte Out)) (name_at st t b)) e)
at_step (name st) t b s h e = from_state (At t) b s Out h (either (Leads b) (is_space b) (name st) t _ (stays_out is_space b refl) (name_at st t b) e)
at_step (colon st) t b s h e = from_state (At t) b s Out h (colon_at st t b e)
at_step (after st) t b s h e = from_state (At t) b s Out h (after_at st t b e)
at_step (in_number n st) t b s h e = from_state (At t) b s Out h
    (by_token (Leads b) (λ v. in_number v st) (num.step n b) (num.accepts n) (after_step st b) t (λ v f. stays_out is_run b refl (run_byte n v b f)) (λ p. after_at st t b) e)
at_step (in_string q st) t b s h e = by_token (λ x. At x (after_byte s b)) (λ v. in_string v st) (str.step q b) (str.accepts q) (after_step st b) t
    (λ v f. text_step q v b s h f) (λ p f. from_state (At t) b s Out (closed_is q s h p) (after_at st t b f)) e
at_step (in_name q st) t b s h e = by_token (λ x. At x (after_byte s b)) (λ v. in_name v st) (str.step q b) (str.accepts q) (colon_step st b) t
    (λ v f. text_step q v b s h f) (λ p f. from_state (At t) b s Out (closed_is q s h p) (colon_at st t b f)) e
at_step (in_word [] st) t b s (h, k) e = from_state (At t) b s Out h (after_at st t b e)
at_step (in_word (c ∷ w) st) t b s (h, (k, l)) e = from_state (At t) b s Out h (by_last (Leads b) b c (in_word w st) t (λ q. (stays_out is_run b refl (ap is_run q ∙ k), l)) e)

-- where the machine is after the bytes, the lexical state is what they lead to
pub at_run : (q t : State) (w : List ℕ) (s : Start) → At q s → go q w ≡ Some t → At t (end_of s w)
at_run q t [] s h e = subst (λ (x : State). At x s) (same_Some q t e) h
at_run q t (b ∷ w) s h e = option_and_then_some (λ x. go x w) (step q b) t e (λ v f g. at_run v t w (after_byte s b) (at_step q v b s h f) g)

-- ---- what an opening bracket leads to, wherever the machine is outside text

pub bracket_number : (n : num.State) (st : List Frame) (b : ℕ) → is_run b ≡ false → step (in_number n st) b ≡ cond (num.accepts n) (after_step st b) None
bracket_number n st b h = ap (λ o. within (option_map (λ v. in_number v st) o) (num.accepts n) (after_step st b)) (number_none n b h)

cond_none : {A : Type 0} (p : Bool) (o : Option A) (t : A) → o ≡ None → cond p o None ≡ Some t → ⊥
cond_none true o t e f = none-some t (sym e ∙ f)
cond_none false o t e f = none-some t f

pub after_off : (b : ℕ) → is_space b ≡ false → (b == 0x2C) ≡ false → (b == 0x5D) ≡ false → (b == 0x7D) ≡ false → (st : List Frame) → after_step st b ≡ None
after_off b s c p q [] = rw s refl
after_off b s c p q (in_array ∷ st) = rw (s, c, p) refl
after_off b s c p q (in_object ∷ st) = rw (s, c, q) refl

pub word_off : (c b : ℕ) (w : List ℕ) (st : List Frame) (t : State) → is_run b ≡ false → is_run c ≡ true → step (in_word (c ∷ w) st) b ≡ Some t → ⊥
word_off c b w st t h k e = by_last (λ x. ⊥) b c (in_word w st) t (λ q. true≢false (sym k ∙ (ap is_run (sym q) ∙ h))) e

-- the state is behind a value or a name, or in a token
abbrev IsBehind : State → Type 0
IsBehind (value st) = ⊥
IsBehind (items st) = ⊥
IsBehind (members st) = ⊥
IsBehind (name st) = ⊥
IsBehind (colon st) = ⊥
IsBehind _ = ⊤

-- there an opening bracket has no place, and no quote
no_place : {P : Type 0} (q t : State) (b : ℕ) → IsBehind q → At q Out → is_run b ≡ false → ((st : List Frame) → after_step st b ≡ None) → ((st : List Frame) → colon_step st b ≡ None) → step q b ≡ Some t → P
no_place (after st) t b k h n a c e = none_put t (sym (a st) ∙ e)
no_place (in_number s st) t b k h n a c e = absurd (cond_none (num.accepts s) (after_step st b) t (a st) (sym (bracket_number s st b n) ∙ e))
no_place (in_string s st) t b k h n a c e = none_put t (sym (ap (λ z. step (in_string z st) b) (text_out s h) ∙ a st) ∙ e)
no_place (in_name s st) t b k h n a c e = none_put t (sym (ap (λ z. step (in_name z st) b) (text_out s h) ∙ c st) ∙ e)
no_place (in_word [] st) t b k h n a c e = none_put t (sym (a st) ∙ e)
no_place (in_word (d ∷ w) st) t b k (h, (i, l)) n a c e = absurd (word_off d b w st t n i e)
no_place _ t b k h n a c e = absurd k

pub opens_square : (q t : State) → At q Out → step q 0x5B ≡ Some t → (st : List Frame) × (t ≡ items st)
opens_square (value st) t h e = (st, sym (same_Some (items st) t e))
opens_square (items st) t h e = (in_array ∷ st, sym (same_Some (items (in_array ∷ st)) t e))
opens_square (members st) t h e = none_put t e
opens_square (name st) t h e = none_put t e
opens_square (colon st) t h e = none_put t e
opens_square q t h e = no_place q t 0x5B tt h refl (after_off 0x5B refl refl refl refl) (λ st. refl) e

pub opens_brace : (q t : State) → At q Out → step q 0x7B ≡ Some t → (st : List Frame) × (t ≡ members st)
opens_brace (value st) t h e = (st, sym (same_Some (members st) t e))
opens_brace (items st) t h e = (in_array ∷ st, sym (same_Some (members (in_array ∷ st)) t e))
opens_brace (members st) t h e = none_put t e
opens_brace (name st) t h e = none_put t e
opens_brace (colon st) t h e = none_put t e
opens_brace q t h e = no_place q t 0x7B tt h refl (after_off 0x7B refl refl refl refl) (λ st. refl) e

pub opens_quote : (q t : State) → At q Out → step q 0x22 ≡ Some t → (st : List Frame) × ((t ≡ in_string str.inside st) ⊎ (t ≡ in_name str.inside st))
opens_quote (value st) t h e = (st, inl (sym (same_Some (in_string str.inside st) t e)))
opens_quote (items st) t h e = (in_array ∷ st, inl (sym (same_Some (in_string str.inside (in_array ∷ st)) t e)))
opens_quote (members st) t h e = (st, inr (sym (same_Some (in_name str.inside st) t e)))
opens_quote (name st) t h e = (st, inr (sym (same_Some (in_name str.inside st) t e)))
opens_quote (colon st) t h e = none_put t e
opens_quote q t h e = no_place q t 0x22 tt h refl (after_off 0x22 refl refl refl refl) (λ st. refl) e

pub settled_out : (q t : State) → Settled q t → (s : Start) → At q s → s ≡ Out
settled_out (in_string q st) t h s i = closed_is q s i h.0
settled_out (in_name q st) t h s i = closed_is q s i h.0
settled_out (in_word w st) t h s i = i.0
settled_out _ t h s i = i
