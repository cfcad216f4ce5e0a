-- The answer of a whole text, with what is pending at its end.
-- For `finish`, `finish_span`, `merge` and `run_block`.
use Rattle.std.proofs.Common.{◌≡◌, ℕ, List, [], ◌∷◌, ◌++◌, Bool, true, sym, ◌∙◌, ap, subst, arith, append-nil, ◌+◌, length}
use Rattle.at_nest.proofs.JsonMachine.{value}
use Rattle.at_nest.specs.Borders.{are_apart}
use Rattle.at_nest.specs.Forms.{Meaning, Mark, mark, IsMark, Formed}
use Rattle.at_nest.proofs.Joins.{apart_nothing, formed_append, formed_out}
use Rattle.at_nest.specs.Walks.{walks}
use Rattle.at_nest.specs.Levels.{pieces_of, Pushed, further, stopped, SpanStop, push}
use Rattle.at_nest.proofs.Pushes.{IsForm, IsStop, push_ok}
use Rattle.at_nest.proofs.Merges.{merged_ok}
use Rattle.at_nest.proofs.Finished.{IsReduced, Answer, IsAnswer, finished, finished_ok}
use Rattle.at_nest.proofs.Unions.{Ends}
use Rattle.at_nest.proofs.TokenStops.{empty_form}
use Rattle.at_nest.proofs.Reduced.{push_reduced}
use Rattle.at_nest.proofs.Open.{IsOpen, open_by, open_answer}

-- how the bytes at the text's end are read: nothing, a mark, a stop in them, or a run or string that could go on
pub data Last (X : Type 0) : Type 0 where
  no_last : Last X
  last_mark : Mark X → Last X
  last_stop : SpanStop → Last X
  last_open : Bool → ℕ → Last X

abbrev pub IsLast : {X : Type 0} → Meaning X → ℕ → List ℕ → Last X → Type 0
IsLast m at v no_last = v ≡ []
IsLast m at v (last_mark x) = IsMark m at v x
IsLast m at v (last_stop h) = IsStop m at v empty_form h
IsLast m at v (last_open c i) = (i ≡ at) × (b : ℕ) × (u : List ℕ) × (v ≡ b ∷ u) × IsOpen c (b ∷ u)

abbrev pub finish_last : {X : Type 0} → Meaning X → Pushed X → Last X → Answer X
finish_last m (stopped k i) last = finished m (stopped k i)
finish_last m (further k) no_last = finished m (further k)
finish_last m (further k) (last_mark x) = finished m (push m k (mark x))
finish_last m (further k) (last_stop h) = finished m (stopped k h)
finish_last m (further k) (last_open c i) = open_by c i (walks (value []) (pieces_of k))

pub mark_formed : {X : Type 0} (m : Meaning X) (at : ℕ) (v : List ℕ) (x : Mark X) → IsMark m at v x → Formed m at v (mark x ∷ [])
mark_formed m at v x h = ([], v, [], sym (append-nil v), tt, (let e : at ≡ at + 0 = omega arith in subst (λ n. IsMark m n v x) e h), apart_nothing v, tt)

pub last_answer : {X : Type 0} (m : Meaning X) (at : ℕ) (x v : List ℕ) (p : Pushed X) (last : Last X) → Ends m at x v p → IsReduced p → are_apart x v ≡ true → IsLast m (at + length x) v last → IsAnswer m at (x ++ v) (finish_last m p last)
last_answer m at x v (stopped k i) last h r a l = finished_ok m at (x ++ v) (stopped k i) h tt
last_answer m at x v (further k) no_last h r a l = finished_ok m at (x ++ v) (further k) (subst (λ z. IsForm m at z k) (sym (append-nil x) ∙ ap (λ z. x ++ z) (sym l)) h) r
last_answer m at x v (further k) (last_mark y) h r a l =
    finished_ok m at (x ++ v) (push m k (mark y)) (push_ok m at (x ++ v) k (mark y) (formed_append m at x v (pieces_of k) (mark y ∷ []) h.formed (mark_formed m (at + length x) v y l) a) h.levels) (push_reduced m k (mark y) r)
last_answer m at x v (further k) (last_stop i) h r a l =
    finished_ok m at (x ++ v) (stopped k i) (merged_ok m at x v (further k) (stopped empty_form i) h l (formed_out m at x (pieces_of k) h.formed) a) tt
last_answer m at x v (further k) (last_open c i) h r a (e, b, u, f, o) =
    subst (λ z. IsAnswer m at (x ++ z) (open_by c i (walks (value []) (pieces_of k)))) (sym f)
    (subst (λ n. IsAnswer m at (x ++ (b ∷ u)) (open_by c n (walks (value []) (pieces_of k)))) (sym e) (open_answer m c at x k b u h (ap (are_apart x) (sym f) ∙ a) o))
