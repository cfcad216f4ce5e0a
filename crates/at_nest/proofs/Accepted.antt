-- The machine for JSON texts accepts what the grammar says: it goes through a text's value, and each of its states has an end.
-- For `finish`, `finish_span`, `merge` and `run_block`.
use Rattle.std.proofs.Common.{◌≡◌, ℕ, ◌↔◌, List, [], ◌∷◌, ◌++◌, Some, None, true, false, not, ◌&&◌, refl, sym, ◌∙◌, ap, subst, append-nil, ◌+◌, ◌<◌, ◌≤◌, length, take, slice_index}
use Rattle.std.proofs.lemmas.Option.{same_Some, option_and_then_some}
use Rattle.std.proofs.lemmas.Bool.{not-true}
use Rattle.at_text.specs.Prefix.{TakesLongest}
use Rattle.at_text.proofs.Machine.{IsMachine, Accepts, accepts_machine, run, longest_at, TakesLongest-same}
use Rattle.at_lex.specs.Spans.{begins_run}
use Rattle.at_lex.proofs.JsonString as str
use Rattle.at_nest.specs.Syntax.{JsonText}
use Rattle.at_nest.proofs.JsonNumber as num
use Rattle.at_nest.proofs.TreeParts as parts
use Rattle.at_nest.proofs.JsonMachine.{Frame, in_array, in_object, State, value, items, members, name, colon, after, in_number, in_string, in_name, in_word, is_nil, accepts, step, sound, text_from}
use Rattle.at_nest.proofs.Steps.{Settled, is_clear, settled_step, still_spaces}
use Rattle.at_nest.proofs.Values.{go, Enters, value_enters, value_at, on_number, on_string, on_name, on_word}
use Rattle.at_nest.proofs.Walks.{Reads, spaces_read}

abbrev pub Acc : State → List ℕ → Type 0
Acc = Accepts step accepts

pub run_accepted : (s t : State) (u v : List ℕ) → go s u ≡ Some t → Acc t v → Acc s (u ++ v)
run_accepted s t [] v e k = subst (λ x. Acc x v) (sym (same_Some s t e)) k
run_accepted s t (b ∷ u) v e k = option_and_then_some (λ x. go x u) (step s b) t e (λ q f g. (q, f, run_accepted q t u v g k))

pub settled_accepts : (s t : State) → Settled s t → accepts s ≡ accepts t
settled_accepts (in_number n st) t (p, e) = ap (λ c. c && is_nil st) p ∙ sym (ap accepts e)
settled_accepts (in_string n st) t (p, e) = ap (λ c. c && is_nil st) p ∙ sym (ap accepts e)
settled_accepts (in_name n st) t (p, e) = sym (ap accepts e)
settled_accepts (in_word w st) t (p, e) = ap (λ x. is_nil x && is_nil st) p ∙ sym (ap accepts e)
settled_accepts _ t e = sym (ap accepts e)

-- what the grammar's state accepts, a state that is settled as it does, where no run goes on
settled_accepted : (s t : State) (w : List ℕ) → Settled s t → is_clear s w ≡ true → Acc t w → Acc s w
settled_accepted s t [] h c k = settled_accepts s t h ∙ k
settled_accepted s t (b ∷ w) h c (q, e, k) = (q, settled_step s t b h (not-true _ c) ∙ e, k)

text_accepted : (at : ℕ) (w : List ℕ) → JsonText at w → Acc (value []) w
text_accepted at w (t, h) =
    let (a, v, b, r, e, ha, hb, s, f) = parts.text_parts t at w h in
    let enter : Enters [] v = value_enters t [] (at + length a) v s in
    let end : Reads enter.last (after []) b = spaces_read enter.last (after []) b enter.settled hb in
    let goes : go (value []) w ≡ Some end.last = ap (go (value [])) (e ∙ ap (λ z. a ++ (v ++ (b ++ z))) f) ∙ (still_spaces (value []) a (v ++ (b ++ [])) tt ha
    ∙ (value_at [] v (b ++ []) enter ∙ (ap (go enter.last) (append-nil b) ∙ end.goes))) in
    subst (Acc (value [])) (append-nil w) (run_accepted (value []) end.last w [] goes (settled_accepts end.last (after []) end.settled))

-- ---- each state has an end

closes : (st : List Frame) → (w : List ℕ) × (begins_run w ≡ false) × Acc (after st) w
closes [] = ([], refl, refl)
closes (in_array ∷ st) = let (w, n, k) = closes st in (0x5D ∷ w, refl, (after st, refl, k))
closes (in_object ∷ st) = let (w, n, k) = closes st in (0x7D ∷ w, refl, (after st, refl, k))

value_lives : (st : List Frame) → (w : List ℕ) × Acc (value st) w
value_lives st = let (w, n, k) = closes st in (0x30 ∷ w, (in_number num.zero_digit st, refl, settled_accepted (in_number num.zero_digit st) (after st) w (refl, refl) (ap not n) k))

colon_lives : (st : List Frame) → (w : List ℕ) × Acc (colon st) w
colon_lives st = let (w, k) = value_lives (in_object ∷ st) in (0x3A ∷ w, (value (in_object ∷ st), refl, k))

pub lives : (s : State) → (w : List ℕ) × Acc s w
lives (value st) = value_lives st
lives (items st) = let (w, n, k) = closes st in (0x5D ∷ w, (after st, refl, k))
lives (members st) = let (w, n, k) = closes st in (0x7D ∷ w, (after st, refl, k))
lives (name st) = let (w, k) = colon_lives st in (0x22 ∷ 0x22 ∷ w, (in_name str.inside st, refl, (in_name str.closed st, refl, settled_accepted (in_name str.closed st) (colon st) w (refl, refl) refl k)))
lives (colon st) = colon_lives st
lives (after st) = let (w, n, k) = closes st in (w, k)
lives (in_number s st) = let (u, r) = num.machine.lives s in let (n, e, a) = on_number s st u r in let (w, o, k) = closes st in
    (u ++ w, run_accepted (in_number s st) (in_number n st) u w e (settled_accepted (in_number n st) (after st) w (a, refl) (ap not o) k))
lives (in_string s st) = let (u, r) = str.machine.lives s in let (n, e, a) = on_string s st u r in let (w, o, k) = closes st in
    (u ++ w, run_accepted (in_string s st) (in_string n st) u w e (settled_accepted (in_string n st) (after st) w (a, refl) refl k))
lives (in_name s st) = let (u, r) = str.machine.lives s in let (n, e, a) = on_name s st u r in let (w, k) = colon_lives st in
    (u ++ w, run_accepted (in_name s st) (in_name n st) u w e (settled_accepted (in_name n st) (colon st) w (a, refl) refl k))
lives (in_word w st) = let (y, o, k) = closes st in (w ++ y, run_accepted (in_word w st) (in_word [] st) w y (on_word w st) (settled_accepted (in_word [] st) (after st) y (refl, refl) (ap not o) k))

machine : IsMachine (Accepts step accepts) step accepts
machine = accepts_machine step accepts lives

pub accepted-JsonText : (at : ℕ) (w : List ℕ) → Acc (value []) w ↔ JsonText at w
accepted-JsonText at w = ((λ h. text_from at w (sound (value []) w h)), text_accepted at w)

-- the longest viable prefix of bytes at any offset, where the machine stands after n of them and goes no further
pub text_at : (at : ℕ) (s : State) (w : List ℕ) (n : ℕ) → n ≤ length w → run step (value []) (take n w) ≡ Some s
    → (n < length w → step s (slice_index w n) ≡ None) → TakesLongest (JsonText at) w (record { len = n; whole = accepts s })
text_at at s w n h e stops = TakesLongest-same (Acc (value [])) (JsonText at) w (record { len = n; whole = accepts s }) (accepted-JsonText at) (longest_at machine (value []) s w n h e stops)
