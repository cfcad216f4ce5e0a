-- A string that is cut in two and closed: either its text is a JSON string, or a byte in it stops.
-- For `finish`, `finish_span`, `merge` and `run_block`.
use Rattle.std.proofs.Common.{◌≡◌, ℕ, List, [], ◌∷◌, ◌++◌, Some, None, false, refl, ap, subst, ◌+◌, length, append-nil, append_assoc}
use Rattle.std.proofs.lemmas.Option.{same_Some, option_and_then_some}
use Rattle.std.proofs.lemmas.Bool.{false_from_ne_true}
use Rattle.at_text.proofs.Machine.{run, run-rest}
use Rattle.at_lex.specs.declared.tokens.Start.{Start}
use Rattle.at_lex.specs.declared.tokens.Start.TheVariants.{Out, InString, InEscape}
use Rattle.at_lex.specs.Strings.{JsonString}
use Rattle.at_lex.proofs.JsonString as str
use Rattle.at_lex.specs.Spans.{after_byte, end_of, ClosesText}
use Rattle.at_nest.specs.Forms.{Meaning}
use Rattle.at_nest.proofs.Lexical.{InText, text_step, text_out}
pub use Rattle.at_nest.proofs.Lexical.{closed_is}
use Rattle.at_nest.proofs.Unions.{closes_out}
use Rattle.at_nest.specs.Levels.{in_text}
use Rattle.at_nest.proofs.Pushes.{IsStop}
use Rattle.at_nest.proofs.TokenStops.{empty_form, text_stops_at}

pub text_run : (q n : str.State) (v : List ℕ) (s : Start) → InText q s → run str.step q v ≡ Some n → InText n (end_of s v)
text_run q n [] s h e = subst (λ z. InText z s) (same_Some q n e) h
text_run q n (b ∷ v) s h e = option_and_then_some (λ x. run str.step x v) (str.step q b) n e (λ t f g. text_run t n v (after_byte s b) (text_step q t b s h f) g)

-- a closed string is outside text nowhere before its end
closes_once : (s : Start) (v : List ℕ) (c : ℕ) (o : List ℕ) → ClosesText s (v ++ (c ∷ o)) → end_of s v ≡ Out → ⊥
closes_once s [] c o h e = subst (λ (z : Start). ClosesText z (c ∷ o)) e h
closes_once Out (b ∷ v) c o h e = h
closes_once InString (b ∷ v) c o h e = closes_once (after_byte InString b) v c o h e
closes_once InEscape (b ∷ v) c o h e = closes_once InString v c o h e

-- a byte in a closed string stops it before it is whole
unfinished : (v : List ℕ) (byte : ℕ) (o : List ℕ) (n : str.State) → ClosesText InString (v ++ (byte ∷ o)) → run str.step str.inside v ≡ Some n → str.accepts n ≡ false
unfinished v byte o n h e = false_from_ne_true (str.accepts n) (λ f. closes_once InString v byte o h (closed_is n (end_of InString v) (text_run str.inside n v InString refl e) f))

-- the machine goes through a closed string: it is a JSON string
pub whole_string : (u : List ℕ) (n : str.State) → ClosesText InString u → run str.step str.inside u ≡ Some n → JsonString (0x22 ∷ u)
whole_string u n h e =
    let out : InText n Out = subst (InText n) (closes_out InString u h) (text_run str.inside n u InString refl e) in
    (str.opening-JsonString (0x22 ∷ u)).0 (subst (str.Rest str.opening) (append-nil (0x22 ∷ u)) (run-rest str.machine str.opening n (0x22 ∷ u) [] e ((str.machine.ends n).1 (ap str.accepts (text_out n out)))))

-- a closed string that stops at a byte
pub string_token : {X : Type 0} (m : Meaning X) (at : ℕ) (v : List ℕ) (byte : ℕ) (o more : List ℕ) (n : str.State) → ClosesText InString (v ++ (byte ∷ o)) → run str.step str.inside v ≡ Some n → str.step n byte ≡ None
    → IsStop {X = X} m at ((0x22 ∷ (v ++ (byte ∷ o))) ++ more) empty_form (record { kind = in_text; item = at; place = at + length (0x22 ∷ v) })
string_token m at v byte o more n h e f = text_stops_at m at ((0x22 ∷ (v ++ (byte ∷ o))) ++ more) n 0x22 v byte (o ++ more) (ap (λ z. 0x22 ∷ z) (append_assoc v (byte ∷ o) more)) e f (unfinished v byte o n h e)
