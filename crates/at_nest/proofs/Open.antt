-- A text that ends in a run or a string that could go on.
-- For `finish`, `finish_span`, `merge` and `run_block`.
use Rattle.std.proofs.Common.{◌≡◌, ℕ, ◌⊎◌, inl, inr, List, [], ◌∷◌, ◌++◌, Option, Some, None, option_and_then, Bool, true, false, ◌&&◌, ◌==◌, refl, sym, ◌∙◌, ap, subst, arith, append-nil, codes, ◌+◌, length, true≢false}
use Rattle.std.proofs.lemmas.Bool.{not-true}
use Rattle.std.proofs.Math.Seq.{take-length}
use Rattle.std.proofs.lemmas.Option.{none-some, same_Some, option_and_then_some}
use Rattle.at_text.specs.Prefix.{TakesLongest}
use Rattle.at_text.specs.Texts.{is_space, is_run}
use Rattle.at_text.proofs.Machine.{run}
use Rattle.at_nest.proofs.JsonNumber as num
use Rattle.at_lex.specs.Runs.{Literal, literal_text, the_null, the_true, the_false}
use Rattle.at_lex.proofs.JsonString as str
use Rattle.at_nest.specs.Syntax.{JsonText}
use Rattle.at_nest.proofs.JsonMachine.{State, Frame, in_array, value, items, members, name, after, in_number, in_string, in_name, in_word, step, accepts, is_nil, begin_value}
use Rattle.at_nest.proofs.Accepted.{text_at}
use Rattle.at_nest.specs.Borders.{are_apart}
use Rattle.at_nest.specs.Forms.{Meaning}
use Rattle.at_nest.proofs.Steps.{IsStill, is_clear, settled_step, settled_still}
use Rattle.at_nest.proofs.Values.{go, run_then, run_byte}
use Rattle.at_nest.specs.Walks.{Kind, value_kind, text_kind, next, walks, Walk, reached, refused}
use Rattle.at_nest.proofs.PieceSteps.{first}
use Rattle.at_nest.proofs.Walks.{Reads, walk_reads, walk_halts, cases, swap}
use Rattle.at_nest.specs.Levels.{Form, pieces_of}
use Rattle.at_nest.proofs.Pushes.{IsForm, IsRunBegun}
use Rattle.at_nest.proofs.Begun.{number_run, number_begins, word_run, string_run, name_run, text_first, pass, run_no_space, unlike, run_halts, text_stops, tail_of}
use Rattle.at_nest.proofs.Finished.{Answer, syntax, ended, IsAnswer, halted_answer, halted_longer, walk_cases}

-- a run that is no value yet, and a string without its end
abbrev pub IsRunOpen : List ℕ → Type 0
IsRunOpen u = ((n : num.State) × (run num.step num.start u ≡ Some n) × (num.accepts n ≡ false)) ⊎ ((l : Literal) × (c : ℕ) × (r : List ℕ) × (u ++ (c ∷ r) ≡ literal_text l))

abbrev pub IsTextOpen : List ℕ → Type 0
IsTextOpen u = (n : str.State) × (run str.step str.opening u ≡ Some n) × (str.accepts n ≡ false)

-- the machine goes through, and what was read is not whole
pub record GoesOpen (s : State) (u : List ℕ) : Type 0 where
  pub last : State
  pub goes : go s u ≡ Some last
  pub unfinished : accepts last ≡ false

pub record BeginsOpen (st : List Frame) (b : ℕ) (v : List ℕ) : Type 0 where
  pub next_state : State
  pub begins : begin_value st b ≡ Some next_state
  pub more : GoesOpen next_state v
  pub is_run_byte : is_run b ≡ true

word_open : (st : List Frame) (b c d : ℕ) (v r w : List ℕ) → b ≡ c → v ++ (d ∷ r) ≡ w → begin_value st c ≡ Some (in_word w st) → is_run c ≡ true → BeginsOpen st b v
word_open st b c d v r w e f h k = record {
  next_state = in_word w st;
  begins = ap (begin_value st) e ∙ h;
  is_run_byte = ap is_run e ∙ k;
  more = record { last = in_word (d ∷ r) st; goes = ap (λ z. go (in_word z st) v) (sym f) ∙ word_run v (d ∷ r) st; unfinished = refl };
}

run_open : (st : List Frame) (b : ℕ) (v : List ℕ) → IsRunOpen (b ∷ v) → BeginsOpen st b v
run_open st b v (inl (n, e, h)) = option_and_then_some (λ x. run num.step x v) (num.step num.start b) n e (λ s f g. record {
  next_state = in_number s st;
  begins = number_begins st b s f;
  is_run_byte = run_byte num.start s b f;
  more = record { last = in_number n st; goes = number_run s n st v g; unfinished = ap (λ c. c && is_nil st) h };
})
run_open st b v (inr (the_null, c, r, e)) = word_open st b 0x6E c v r (codes "ull") (ap first e) (ap tail_of e) refl refl
run_open st b v (inr (the_true, c, r, e)) = word_open st b 0x74 c v r (codes "rue") (ap first e) (ap tail_of e) refl refl
run_open st b v (inr (the_false, c, r, e)) = word_open st b 0x66 c v r (codes "alse") (ap first e) (ap tail_of e) refl refl

from_step : (s s1 : State) (b : ℕ) (v : List ℕ) → step s b ≡ Some s1 → GoesOpen s1 v → GoesOpen s (b ∷ v)
from_step s s1 b v e h = record { last = h.last; goes = ap (option_and_then (λ x. go x v)) e ∙ h.goes; unfinished = h.unfinished }

run_goes_open : (s t : State) (b : ℕ) (v : List ℕ) → IsRunOpen (b ∷ v) → next s value_kind ≡ Some t → GoesOpen s (b ∷ v)
run_goes_open (value st) t b v h e = let k : BeginsOpen st b v = run_open st b v h in from_step (value st) k.next_state b v (pass (is_space b) _ _ _ (run_no_space b k.is_run_byte) k.begins) k.more
run_goes_open (items st) t b v h e = let k : BeginsOpen (in_array ∷ st) b v = run_open (in_array ∷ st) b v h in
    from_step (items st) k.next_state b v (pass (is_space b) _ _ _ (run_no_space b k.is_run_byte) (pass (b == 0x5D) _ _ _ (unlike is_run b 0x5D refl k.is_run_byte) k.begins)) k.more
run_goes_open (after (in_array ∷ st)) t b v h e = absurd (none-some t e)
run_goes_open _ t b v h e = absurd (none-some t e)

text_inside : (b : ℕ) (v : List ℕ) → IsTextOpen (b ∷ v) → (b ≡ 0x22) × (n : str.State) × (run str.step str.inside v ≡ Some n) × (str.accepts n ≡ false)
text_inside b v (n, e, h) = let (f, k, g) = text_first b v (n, e) in
    let same : k ≡ n = same_Some k n (sym (opened b v k f g) ∙ e) in (f, k, g, ap str.accepts same ∙ h)
  where
    opened : (b : ℕ) (v : List ℕ) (k : str.State) → b ≡ 0x22 → run str.step str.inside v ≡ Some k → run str.step str.opening (b ∷ v) ≡ Some k
    opened b v k f g = ap (λ c. run str.step str.opening (c ∷ v)) f ∙ g

as_string : (s : State) (st : List Frame) (b : ℕ) (v : List ℕ) → step s 0x22 ≡ Some (in_string str.inside st) → IsTextOpen (b ∷ v) → GoesOpen s (b ∷ v)
as_string s st b v q h = let (f, n, g, k) = text_inside b v h in
    from_step s (in_string str.inside st) b v (ap (step s) f ∙ q) (record { last = in_string n st; goes = string_run str.inside n st v g; unfinished = ap (λ c. c && is_nil st) k })

as_name : (s : State) (st : List Frame) (b : ℕ) (v : List ℕ) → step s 0x22 ≡ Some (in_name str.inside st) → IsTextOpen (b ∷ v) → GoesOpen s (b ∷ v)
as_name s st b v q h = let (f, n, g, k) = text_inside b v h in
    from_step s (in_name str.inside st) b v (ap (step s) f ∙ q) (record { last = in_name n st; goes = name_run str.inside n st v g; unfinished = refl })

text_goes_open : (s t : State) (b : ℕ) (v : List ℕ) → IsTextOpen (b ∷ v) → next s text_kind ≡ Some t → GoesOpen s (b ∷ v)
text_goes_open (value st) t b v h e = as_string (value st) st b v refl h
text_goes_open (items st) t b v h e = as_string (items st) (in_array ∷ st) b v refl h
text_goes_open (members st) t b v h e = as_name (members st) st b v refl h
text_goes_open (name st) t b v h e = as_name (name st) st b v refl h
text_goes_open (after (in_array ∷ st)) t b v h e = absurd (none-some t e)
text_goes_open _ t b v h e = absurd (none-some t e)

-- ---- the answer

-- what is begun at the text's end: a run, or a string
abbrev pub open_kind : Bool → Kind
open_kind true = value_kind
open_kind false = text_kind

abbrev pub IsOpen : Bool → List ℕ → Type 0
IsOpen true u = IsRunOpen u
IsOpen false u = IsTextOpen u

abbrev pub open_or : {X : Type 0} → ℕ → Option State → Answer X
open_or i None = syntax i
open_or i (Some t) = ended

abbrev pub open_by : {X : Type 0} → Bool → ℕ → Walk → Answer X
open_by c i (refused k) = syntax k
open_by c i (reached t) = open_or i (next t (open_kind c))

goes_open : (c : Bool) (s t : State) (b : ℕ) (v : List ℕ) → IsOpen c (b ∷ v) → next s (open_kind c) ≡ Some t → GoesOpen s (b ∷ v)
goes_open true s t b v h e = run_goes_open s t b v h e
goes_open false s t b v h e = text_goes_open s t b v h e

run_begun_of : (u : List ℕ) → IsRunOpen u → IsRunBegun u
run_begun_of u (inl (n, e, h)) = inl (n, e)
run_begun_of u (inr (l, c, r, e)) = inr (l, c ∷ r, e)

halts_open : (c : Bool) (s : State) (b : ℕ) (v : List ℕ) → IsStill s → IsOpen c (b ∷ v) → next s (open_kind c) ≡ None → step s b ≡ None
halts_open true s b v i h e = run_halts s b v i (run_begun_of (b ∷ v) h) e
halts_open false s b v i (n, f, g) e = text_stops s b v i (n, f) e

open_ended : {X : Type 0} (m : Meaning X) (at : ℕ) (w : List ℕ) (h : GoesOpen (value []) w) → IsAnswer m at w ended
open_ended m at w h =
    let r : TakesLongest (JsonText 0) w (record { len = length w; whole = accepts h.last }) = text_at 0 h.last w (length w) (omega arith) (ap (go (value [])) (take-length w) ∙ h.goes) (λ k. absurd (omega (arith, k))) in
    (r.longest, λ word. true≢false (sym (r.whole.1 (subst (JsonText 0) (sym (take-length w)) word)) ∙ h.unfinished))

pub open_answer : {X : Type 0} (m : Meaning X) (c : Bool) (at : ℕ) (x : List ℕ) (f : Form X) (b : ℕ) (v : List ℕ) → IsForm m at x f → are_apart x (b ∷ v) ≡ true → IsOpen c (b ∷ v)
    → IsAnswer m at (x ++ (b ∷ v)) (open_by c (at + length x) (walks (value []) (pieces_of f)))
open_answer m c at x f b v h ap1 is_open = elim (walk_cases (walks (value []) (pieces_of f))) [
  | inl (i, e) ↦ subst (λ z. IsAnswer m at (x ++ (b ∷ v)) (open_by c (at + length x) z)) (sym e)
      (halted_answer m at i (x ++ (b ∷ v)) (halted_longer (value []) at x (b ∷ v) i (walk_halts m (pieces_of f) at x (value []) (value []) i refl refl h.formed e)))
  | inr (t, e) ↦ subst (λ z. IsAnswer m at (x ++ (b ∷ v)) (open_by c (at + length x) z)) (sym e) (by_next t (walk_reads m (pieces_of f) at x (value []) (value []) t refl refl h.formed e))
]
  where
    by_next : (t : State) → Reads (value []) t x → IsAnswer m at (x ++ (b ∷ v)) (open_or (at + length x) (next t (open_kind c)))
    by_next t r = let clear1 : is_clear r.last (b ∷ v) ≡ true = r.clear (b ∷ v) ap1 refl in elim (cases (next t (open_kind c))) [
      | inl n ↦ subst (λ o. IsAnswer m at (x ++ (b ∷ v)) (open_or (at + length x) o)) (sym n) (halted_answer m at (at + length x) (x ++ (b ∷ v)) (record {
        before = x;
        byte = b;
        others = v;
        last = r.last;
        split = refl;
        place = refl;
        goes = r.goes;
        halts = settled_step r.last t b r.settled (not-true _ clear1) ∙ halts_open c t b v (settled_still r.last t r.settled) is_open n;
      }))
      | inr (q, n) ↦ subst (λ o. IsAnswer m at (x ++ (b ∷ v)) (open_or (at + length x) o)) (sym n) (let k : GoesOpen t (b ∷ v) = goes_open c t q b v is_open n in open_ended m at (x ++ (b ∷ v)) (record {
        last = k.last;
        goes = run_then (value []) r.last x (b ∷ v) r.goes ∙ (ap (go r.last) (sym (append-nil (b ∷ v))) ∙ (swap r.last t (b ∷ v) [] b v refl r.settled (ap (is_clear r.last) (append-nil (b ∷ v)) ∙ clear1) ∙ (ap (go t) (append-nil (b ∷ v)) ∙ k.goes)));
        unfinished = k.unfinished;
      }))
    ]
