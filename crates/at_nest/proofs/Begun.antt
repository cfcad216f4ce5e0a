-- An item that is only begun: where the machine goes in it, and where it stops at its first byte.
-- For `finish`, `finish_span`, `merge` and `run_block`.
use Rattle.std.proofs.Common.{◌≡◌, ℕ, inl, inr, List, [], ◌∷◌, ◌++◌, Some, None, option_map, option_and_then, true, cond, ◌==◌, refl, sym, ◌∙◌, ap, codes}
use Rattle.std.proofs.lemmas.Option.{none-some, same_Some, option_and_then_some}
use Rattle.at_text.specs.Texts.{is_space, is_run}
use Rattle.at_text.proofs.Machine.{run}
use Rattle.at_nest.proofs.JsonNumber as num
use Rattle.at_lex.specs.Runs.{Literal, literal_text, the_null, the_true, the_false}
use Rattle.at_lex.proofs.JsonString as str
use Rattle.at_nest.proofs.JsonMachine.{State, Frame, in_array, value, items, members, name, colon, after, in_number, in_string, in_name, in_word, step, within, begin_value, after_step, colon_step, same_byte, by_last}
use Rattle.at_nest.proofs.Steps.{IsStill}
use Rattle.at_nest.proofs.Values.{go, run_byte}
pub use Rattle.at_nest.proofs.Values.{unlike, run_no_space, pass, number_begins}
use Rattle.at_nest.specs.Walks.{value_kind, text_kind, next}
use Rattle.at_nest.proofs.PieceSteps.{Unmarked, unmarked_halts, first, quote_halts}
use Rattle.at_nest.proofs.Pushes.{IsRunBegun, IsTextBegun}

pub run_unmarked : (b : ℕ) → is_run b ≡ true → Unmarked b
run_unmarked b h = record { space = run_no_space b h; quote = unlike is_run b 0x22 refl h; comma_byte = unlike is_run b 0x2C refl h; colon_byte = unlike is_run b 0x3A refl h; square = unlike is_run b 0x5D refl h; brace = unlike is_run b 0x7D refl h }

-- ---- runs

pub number_run : (s n : num.State) (st : List Frame) (u : List ℕ) → run num.step s u ≡ Some n → go (in_number s st) u ≡ Some (in_number n st)
number_run s n st [] e = ap (λ x. Some (in_number x st)) (same_Some s n e)
number_run s n st (c ∷ u) e = option_and_then_some (λ x. run num.step x u) (num.step s c) n e (λ v f g.
    ap (option_and_then (λ x. go x u)) (ap (λ o. within (option_map (λ t. in_number t st) o) (num.accepts s) (after_step st c)) f) ∙ number_run v n st u g)

pub word_run : (u r : List ℕ) (st : List Frame) → go (in_word (u ++ r) st) u ≡ Some (in_word r st)
word_run [] r st = refl
word_run (c ∷ u) r st = ap (option_and_then (λ x. go x u)) (ap (λ t. cond t (Some (in_word (u ++ r) st)) None) (same_byte c)) ∙ word_run u r st

-- the value that the run begins
pub record RunBegins (st : List Frame) (b : ℕ) (v : List ℕ) : Type 0 where
  pub next_state : State
  pub last : State
  pub begins : begin_value st b ≡ Some next_state
  pub goes : go next_state v ≡ Some last
  pub is_run_byte : is_run b ≡ true

abbrev pub tail_of : List ℕ → List ℕ
tail_of [] = []
tail_of (b ∷ w) = w

word_at : (st : List Frame) (b c : ℕ) (v r w : List ℕ) → b ≡ c → v ++ r ≡ w → begin_value st c ≡ Some (in_word w st) → is_run c ≡ true → RunBegins st b v
word_at st b c v r w e f h k = record {
  next_state = in_word w st;
  last = in_word r st;
  begins = ap (begin_value st) e ∙ h;
  goes = ap (λ z. go (in_word z st) v) (sym f) ∙ word_run v r st;
  is_run_byte = ap is_run e ∙ k;
}

pub literal_begins : (st : List Frame) (l : Literal) (b : ℕ) (v r : List ℕ) → b ∷ (v ++ r) ≡ literal_text l → RunBegins st b v
literal_begins st the_null b v r e = word_at st b 0x6E v r (codes "ull") (ap first e) (ap tail_of e) refl refl
literal_begins st the_true b v r e = word_at st b 0x74 v r (codes "rue") (ap first e) (ap tail_of e) refl refl
literal_begins st the_false b v r e = word_at st b 0x66 v r (codes "alse") (ap first e) (ap tail_of e) refl refl

pub run_begins : (st : List Frame) (b : ℕ) (v : List ℕ) → IsRunBegun (b ∷ v) → RunBegins st b v
run_begins st b v (inl (n, e)) = option_and_then_some (λ x. run num.step x v) (num.step num.start b) n e (λ s f g. record {
  next_state = in_number s st;
  last = in_number n st;
  begins = number_begins st b s f;
  goes = number_run s n st v g;
  is_run_byte = run_byte num.start s b f;
})
run_begins st b v (inr (l, r, e)) = literal_begins st l b v r e

pub from_value : (st : List Frame) (b : ℕ) (v : List ℕ) (h : RunBegins st b v) → go (value st) (b ∷ v) ≡ Some h.last
from_value st b v h = ap (option_and_then (λ x. go x v)) (pass (is_space b) _ _ _ (run_no_space b h.is_run_byte) h.begins) ∙ h.goes

pub from_items : (st : List Frame) (b : ℕ) (v : List ℕ) (h : RunBegins (in_array ∷ st) b v) → go (items st) (b ∷ v) ≡ Some h.last
from_items st b v h = ap (option_and_then (λ x. go x v)) (pass (is_space b) _ _ _ (run_no_space b h.is_run_byte) (pass (b == 0x5D) _ _ _ (unlike is_run b 0x5D refl h.is_run_byte) h.begins)) ∙ h.goes

pub run_goes : (s t : State) (b : ℕ) (v : List ℕ) → IsRunBegun (b ∷ v) → next s value_kind ≡ Some t → (l : State) × (go s (b ∷ v) ≡ Some l)
run_goes (value st) t b v h e = let k : RunBegins st b v = run_begins st b v h in (k.last, from_value st b v k)
run_goes (items st) t b v h e = let k : RunBegins (in_array ∷ st) b v = run_begins (in_array ∷ st) b v h in (k.last, from_items st b v k)
run_goes (after (in_array ∷ st)) t b v h e = absurd (none-some t e)
run_goes _ t b v h e = absurd (none-some t e)

pub run_halts : (s : State) (b : ℕ) (v : List ℕ) → IsStill s → IsRunBegun (b ∷ v) → next s value_kind ≡ None → step s b ≡ None
run_halts s b v i h e = let k : RunBegins [] b v = run_begins [] b v h in unmarked_halts s b i (run_unmarked b k.is_run_byte) e

-- ---- strings

pub string_run : (s n : str.State) (st : List Frame) (u : List ℕ) → run str.step s u ≡ Some n → go (in_string s st) u ≡ Some (in_string n st)
string_run s n st [] e = ap (λ x. Some (in_string x st)) (same_Some s n e)
string_run s n st (c ∷ u) e = option_and_then_some (λ x. run str.step x u) (str.step s c) n e (λ v f g.
    ap (option_and_then (λ x. go x u)) (ap (λ o. within (option_map (λ t. in_string t st) o) (str.accepts s) (after_step st c)) f) ∙ string_run v n st u g)

pub name_run : (s n : str.State) (st : List Frame) (u : List ℕ) → run str.step s u ≡ Some n → go (in_name s st) u ≡ Some (in_name n st)
name_run s n st [] e = ap (λ x. Some (in_name x st)) (same_Some s n e)
name_run s n st (c ∷ u) e = option_and_then_some (λ x. run str.step x u) (str.step s c) n e (λ v f g.
    ap (option_and_then (λ x. go x u)) (ap (λ o. within (option_map (λ t. in_name t st) o) (str.accepts s) (colon_step st c)) f) ∙ name_run v n st u g)

pub text_first : (b : ℕ) (v : List ℕ) → IsTextBegun (b ∷ v) → (b ≡ 0x22) × (n : str.State) × (run str.step str.inside v ≡ Some n)
text_first b v (n, e) = option_and_then_some (λ x. run str.step x v) (str.step str.opening b) n e (λ s f g.
    by_last (λ x. run str.step x v ≡ Some n → (b ≡ 0x22) × (n : str.State) × (run str.step str.inside v ≡ Some n)) b 0x22 str.inside s (λ q h. (q, n, h)) f g)

at_quote : (s t : State) (b : ℕ) (v : List ℕ) → b ≡ 0x22 → go s (0x22 ∷ v) ≡ Some t → go s (b ∷ v) ≡ Some t
at_quote s t b v e h = ap (λ c. go s (c ∷ v)) e ∙ h

pub text_goes_on : (s t : State) (b : ℕ) (v : List ℕ) → IsTextBegun (b ∷ v) → next s text_kind ≡ Some t → (l : State) × (go s (b ∷ v) ≡ Some l)
text_goes_on (value st) t b v h e = let (f, n, g) = text_first b v h in (in_string n st, at_quote (value st) (in_string n st) b v f (string_run str.inside n st v g))
text_goes_on (items st) t b v h e = let (f, n, g) = text_first b v h in (in_string n (in_array ∷ st), at_quote (items st) (in_string n (in_array ∷ st)) b v f (string_run str.inside n (in_array ∷ st) v g))
text_goes_on (members st) t b v h e = let (f, n, g) = text_first b v h in (in_name n st, at_quote (members st) (in_name n st) b v f (name_run str.inside n st v g))
text_goes_on (name st) t b v h e = let (f, n, g) = text_first b v h in (in_name n st, at_quote (name st) (in_name n st) b v f (name_run str.inside n st v g))
text_goes_on (after (in_array ∷ st)) t b v h e = absurd (none-some t e)
text_goes_on _ t b v h e = absurd (none-some t e)

pub text_stops : (s : State) (b : ℕ) (v : List ℕ) → IsStill s → IsTextBegun (b ∷ v) → next s text_kind ≡ None → step s b ≡ None
text_stops s b v i h e = let (f, n, g) = text_first b v h in ap (step s) f ∙ quote_halts s i e
