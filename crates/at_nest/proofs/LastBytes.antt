-- How the last bytes of a text read, and the answer of a text that ends in them.
-- For `finish`, `finish_span`, `merge` and `run_block`.
use Rattle.std.proofs.Common.{◌≡◌, ℕ, inl, inr, List, [], ◌∷◌, ◌++◌, Option, Some, None, Bool, true, false, Result, Err, refl, sym, ◌∙◌, ap, subst, append-nil, ◌+◌, ◌<◌, length, take, true≢false}
use Rattle.std.proofs.Math.Seq.{take-length}
use Rattle.std.proofs.lemmas.Option.{same_Some, none-some}
use Rattle.std.proofs.lemmas.Bool.{false_from_ne_true}
use Rattle.at_text.specs.Prefix.{Viable, LongestViable}
use Rattle.at_text.proofs.Machine.{run, run-rest}
use Rattle.at_lex.specs.Strings.{JsonString}
use Rattle.at_lex.specs.Runs.{JsonRun}
use Rattle.at_lex.specs.Spans.{begins_run, AreRun, StaysInText, after_byte, end_of}
use Rattle.at_lex.specs.declared.tokens.Start.{Start}
use Rattle.at_lex.specs.declared.tokens.Start.TheVariants.{Out, InString, InEscape}
use Rattle.at_lex.proofs.JsonString as str
use Rattle.at_nest.proofs.JsonNumber as num
use Rattle.at_nest.specs.declared.finishing.NestEnd.{NestEnd}
use Rattle.at_nest.specs.declared.pieces.SpanStop.{SpanStop as CodeHalt}
use Rattle.at_nest.specs.declared.pieces.Within.{Within as CodeWithin}
use Rattle.at_nest.specs.declared.pieces.Within.TheVariants as within
use Rattle.at_nest.specs.Tree.{Tree, Spells}
use Rattle.at_nest.specs.Forms.{mark, entry}
use Rattle.at_nest.specs.Levels.{Pushed, further, stopped, pieces_of, push}
use Rattle.at_nest.specs.Stops.{IsStop, IsPushed, IsRunBegun}
use Rattle.at_nest.specs.Unions.{empty_form}
use Rattle.at_nest.specs.Variants.{IsPending, none_pending, run_pending, text_pending}
use Rattle.at_nest.specs.Answers.{finished, IsAnswer}
use Rattle.at_nest.specs.Shown.{Shown}
use Rattle.at_nest.specs.KeptItems.{Content, one, PushesValue, free, halt_of, IsPushedAs}
use Rattle.at_nest.specs.Reading.{stop_within}
use Rattle.at_nest.specs.NextItems.{next_of, answer_of, stop_of, open_of}
use Rattle.at_nest.specs.LastBytes.{begins_text, IsOpen, EndsSo}
use Rattle.at_nest.specs.TextAnswers.{Answers}
use Rattle.at_nest.proofs.Longest.{string_runs, rest_runs}
use Rattle.at_nest.proofs.Unions.{stays_in}
use Rattle.at_nest.proofs.Strings.{text_run, closed_is}
use Rattle.at_nest.proofs.TokenStops.{text_stops_at}
use Rattle.at_nest.proofs.Readings.{reading_ends}
use Rattle.at_nest.proofs.TokenReads.{cut_at, take_is, there_is, run_refused_inside, run_halt, run_halt_is, run_no_quote, run_tree}
use Rattle.at_nest.proofs.Runs.{begun_of, number_whole}
use Rattle.at_nest.proofs.Pushes.{push_ok}
use Rattle.at_nest.proofs.Joins.{formed_append}
use Rattle.at_nest.proofs.Texts.{mark_formed, last_answer, no_last, last_mark, last_stop, last_open}
use Rattle.at_nest.proofs.Open as unended
use Rattle.at_nest.proofs.NextItems.{each_closed, answer_tells, stop_tells, open_tells}
use Rattle.at_nest.proofs.Told.{told}
use Rattle.at_nest.proofs.Lexical.{not_out_string}
use Rattle.at_nest.proofs.PieceSteps.{first}
use Rattle.at_nest.proofs.Begun.{tail_of}

-- ---- what may go on at the end of a text

not_both : (v : List ℕ) → begins_run v ≡ true → begins_text v ≡ true → ⊥
not_both [] r t = true≢false (sym r)
not_both (b ∷ v) r t = true≢false (sym t ∙ run_no_quote b r)

pub pending_text : (v : List ℕ) → IsPending v → begins_text v ≡ true → (u : List ℕ) × (v ≡ 0x22 ∷ u) × StaysInText InString u
pending_text v (none_pending e) t = absurd (true≢false (sym t ∙ ap begins_text e))
pending_text v (run_pending r b) t = absurd (not_both v b t)
pending_text v (text_pending u e k) t = (u, e, k)

pub pending_run : (v : List ℕ) → IsPending v → begins_run v ≡ true → AreRun v
pending_run v (none_pending e) t = absurd (true≢false (sym t ∙ ap begins_run e))
pending_run v (run_pending r b) t = r
pending_run v (text_pending u e k) t = absurd (true≢false (sym t ∙ ap begins_run e))

-- ---- strings

stays_front : (s : Start) (v x : List ℕ) → StaysInText s (v ++ x) → (s ≡ Out → ⊥) → StaysInText s v
stays_front Out v x h n = absurd (n refl)
stays_front InString (b ∷ v) x h n = stays_front (after_byte InString b) v x h (λ e. subst (λ t. StaysInText t (v ++ x)) e h)
stays_front InEscape (b ∷ v) x h n = stays_front InString v x h (λ e. subst (λ t. StaysInText t (v ++ x)) e h)
stays_front _ [] x h n = tt

-- the reader is in a string that goes on
unfinished : (v x : List ℕ) (n : str.State) → StaysInText InString (v ++ x) → run str.step str.inside v ≡ Some n → str.accepts n ≡ false
unfinished v x n h e = false_from_ne_true (str.accepts n)
    (λ f. stays_in InString v (stays_front InString v x h (λ e. not_out_string (sym e))) (closed_is n (end_of InString v) (text_run str.inside n v InString refl e) f))

-- a string without its closing quote is none
pub no_string : (u : List ℕ) → StaysInText InString u → ¬ (JsonString (0x22 ∷ u))
no_string u h j = let (n, e, r) = rest_runs str.machine str.opening (0x22 ∷ u) [] (subst (str.Rest str.opening) (sym (append-nil (0x22 ∷ u))) ((str.opening-JsonString (0x22 ∷ u)).1 j)) in
    true≢false (sym ((str.machine.ends n).0 r) ∙ unfinished u [] n (subst (StaysInText InString) (sym (append-nil u)) h) e)

pub text_open : (v : List ℕ) (n : ℕ) → IsPending v → begins_text v ≡ true → LongestViable JsonString v n → n ≡ length v → IsOpen within.Text v
text_open v n p t longest all = let (u, e, k) = pending_text v p t in
    (t, subst (Viable JsonString) (ap (λ z. take z v) all ∙ take-length v) longest.front, λ j. no_string u k (subst JsonString e j))

pub text_stops : (at : ℕ) (v : List ℕ) (n : ℕ) → IsPending v → begins_text v ≡ true → LongestViable JsonString v n → n < length v → IsStop free at v empty_form (halt_of (stop_within within.Text at n))
text_stops at v n p t longest below =
    let (u, e, k) = pending_text v p t in
    let (a, byte, o, s, l) = cut_at v n below in
    let (q, r, stops) = string_runs v n longest in
    by_front u e k a byte o q s l (ap (run str.step str.opening) (sym (take_is v a byte o n s l)) ∙ r) (ap (str.step q) (sym (there_is v a byte o n s l)) ∙ stops below)
  where
    by_front : (u : List ℕ) → v ≡ 0x22 ∷ u → StaysInText InString u → (a : List ℕ) (byte : ℕ) (o : List ℕ) (q : str.State) → v ≡ a ++ (byte ∷ o) → length a ≡ n → run str.step str.opening a ≡ Some q → str.step q byte ≡ None
        → IsStop free at v empty_form (halt_of (stop_within within.Text at n))
    by_front u e k [] byte o q s l r c = absurd (none-some str.inside (sym c ∙ (ap (λ z. str.step z byte) (sym (same_Some str.opening q r)) ∙ ap (str.step str.opening) (ap first (sym s ∙ e)))))
    by_front u e k (b ∷ z) byte o q s l r c =
        let is_quote : b ≡ 0x22 = ap first (sym s ∙ e) in
        let inside : u ≡ z ++ (byte ∷ o) = ap tail_of (sym e ∙ s) in
        let goes : run str.step str.inside z ≡ Some q = ap (λ y. run str.step str.opening (y ∷ z)) (sym is_quote) ∙ r in
        let width : length (b ∷ z) ≡ n = l in
        subst (λ (m : ℕ). IsStop free at v empty_form (halt_of (stop_within within.Text at m))) width
        (text_stops_at free at v q b z byte o s r c (unfinished z (byte ∷ o) q (subst (StaysInText InString) inside k) goes))

-- ---- runs

pub run_open : (v : List ℕ) (n : ℕ) → begins_run v ≡ true → ¬ (JsonRun v) → LongestViable JsonRun v n → n ≡ length v → IsOpen within.Run v
run_open v n b none longest all = (b, subst (Viable JsonRun) (ap (λ z. take z v) all ∙ take-length v) longest.front, none)

pub run_stops : (at : ℕ) (v : List ℕ) (n : ℕ) → IsPending v → begins_run v ≡ true → LongestViable JsonRun v n → n < length v → IsStop free at v empty_form (halt_of (stop_within within.Run at n))
run_stops at v n p b longest below =
    subst (λ h. IsStop free at v empty_form h) (sym (run_halt_is at n)) (subst (λ z. IsStop free at z empty_form (run_halt at n)) (append-nil v)
    (reading_ends free at v [] (stopped empty_form (run_halt at n)) (run_refused_inside free at v [] n (pending_run v p b) longest below)))

-- ---- the answer

run_is_open : (v : List ℕ) → IsOpen within.Run v → unended.IsRunOpen v
run_is_open v (b, viable, none) = by_begun (begun_of v viable)
  where
    by_begun : IsRunBegun v → unended.IsRunOpen v
    by_begun (inl (n, e)) = inl (n, e, false_from_ne_true (num.accepts n) (λ f. none (number_whole v n e f)))
    by_begun (inr (l, [], e)) = absurd (none (inl (l, sym (append-nil v) ∙ e)))
    by_begun (inr (l, (c ∷ r), e)) = inr (l, c, r, e)

text_is_open : (v : List ℕ) → IsOpen within.Text v → unended.IsTextOpen v
text_is_open v (b, (y, j), none) = let (n, e, r) = rest_runs str.machine str.opening v y ((str.opening-JsonString (v ++ y)).1 j) in
    (n, e, false_from_ne_true (str.accepts n) (λ f. none ((str.opening-JsonString v).0 (subst (str.Rest str.opening) (append-nil v) (run-rest str.machine str.opening n v [] e ((str.machine.ends n).1 f))))))

first_byte : (test : List ℕ → Bool) (v : List ℕ) → test [] ≡ false → test v ≡ true → (b : ℕ) × (u : List ℕ) × (v ≡ b ∷ u)
first_byte test [] n h = absurd (true≢false (sym h ∙ n))
first_byte test (b ∷ u) n h = (b, u, refl)

module _ {X : Type 0} (K : X → Content → Type 0) where
  pub ends_nothing : (s : Shown X) (from : ℕ) (v : List ℕ) → v ≡ [] → EndsSo K s from v (answer_of s)
  ends_nothing s from v n at x f h form apart e =
      told K at (x ++ v) (finished free (further f)) (answer_of s) (last_answer free at x v (further f) no_last form (each_closed K at (x ++ v) s.outer f.outer h.0) apart n) (answer_tells K at (x ++ v) s f h form.levels)

  pub ends_stop : (s : Shown X) (from : ℕ) (v : List ℕ) (halt : CodeHalt) → IsStop free from v empty_form (halt_of halt) → EndsSo K s from v (Err (stop_of (next_of s) halt))
  ends_stop s from v halt stop at x f h form apart e =
      told K at (x ++ v) (finished free (stopped f (halt_of halt))) (Err (stop_of (next_of s) halt))
      (last_answer free at x v (further f) (last_stop (halt_of halt)) form (each_closed K at (x ++ v) s.outer f.outer h.0) apart (subst (λ n. IsStop free n v empty_form (halt_of halt)) e stop))
      (stop_tells K at (x ++ v) s f halt h form.levels)

  pub ends_open : (s : Shown X) (from : ℕ) (v : List ℕ) (within : CodeWithin) → IsOpen within v → EndsSo K s from v (Err (open_of (next_of s) within from))
  ends_open s from v within.First o at x f h form apart e = absurd o
  ends_open s from v within.Run o at x f h form apart e = let (b, u, q) = first_byte begins_run v refl o.0 in
      told K at (x ++ v) _ (Err (open_of (next_of s) within.Run from))
      (last_answer free at x v (further f) (last_open true from) form (each_closed K at (x ++ v) s.outer f.outer h.0) apart (e, b, u, q, subst unended.IsRunOpen q (run_is_open v o)))
      (open_tells K true at (x ++ v) s f within.Run from refl h form.levels)
  ends_open s from v within.Text o at x f h form apart e = let (b, u, q) = first_byte begins_text v refl o.0 in
      told K at (x ++ v) _ (Err (open_of (next_of s) within.Text from))
      (last_answer free at x v (further f) (last_open false from) form (each_closed K at (x ++ v) s.outer f.outer h.0) apart (e, b, u, q, subst unended.IsTextOpen q (text_is_open v o)))
      (open_tells K false at (x ++ v) s f within.Text from refl h form.levels)

  -- behind a whole literal or number
  pub ends_run : (s new : Shown X) (r : Option CodeHalt) (from : ℕ) (v : List ℕ) (x : X) → JsonRun v → ((t : Tree) → Spells from v t → K x (one t)) → PushesValue K s new r from x
      → (result : Result X NestEnd) → (r ≡ None → result ≡ answer_of new) → ((halt : CodeHalt) → r ≡ Some halt → result ≡ Err (stop_of (next_of new) halt)) → EndsSo K s from v result
  ends_run s new r from v a j fold pushes result on off at x f h form apart e =
      let (t, spells, no_text, same) = run_tree from v j in
      let p : Pushed Tree = push free f (mark (entry from t)) in
      let pushed : IsPushed free at (x ++ v) p = push_ok free at (x ++ v) f (mark (entry from t))
      (formed_append free at x v (pieces_of f) (mark (entry from t) ∷ []) form.formed (mark_formed free (at + length x) v (entry from t) (e, t, subst (λ n. Spells n v t) e spells, no_text, same)) apart) form.levels in
      let shown_as : IsPushedAs K at (x ++ v) new r p = pushes at (x ++ v) f t h (fold t spells) in
      by_result r p pushed shown_as (last_answer free at x v (further f) (last_mark (entry from t)) form (each_closed K at (x ++ v) s.outer f.outer h.0) apart (e, t, subst (λ n. Spells n v t) e spells, no_text, same)) on off
    where
      by_result : (r : Option CodeHalt) (p : Pushed Tree) → IsPushed free at (x ++ v) p → IsPushedAs K at (x ++ v) new r p → IsAnswer free at (x ++ v) (finished free p) → (r ≡ None → result ≡ answer_of new) → ((halt : CodeHalt) → r ≡ Some halt → result ≡ Err (stop_of (next_of new) halt))
          → Answers K at (x ++ v) result
      by_result None (further k) q z answer on off = subst (Answers K at (x ++ v)) (sym (on refl)) (told K at (x ++ v) _ (answer_of new) answer (answer_tells K at (x ++ v) new k z q.levels))
      by_result (Some i) (stopped k y) q z answer on off = subst (Answers K at (x ++ v)) (sym (off i refl))
          (told K at (x ++ v) (finished free (stopped k (halt_of i))) (Err (stop_of (next_of new) i)) (subst (λ m. IsAnswer free at (x ++ v) (finished free (stopped k m))) (sym z.1) answer) (stop_tells K at (x ++ v) new k i z.0 q.form.levels))
      by_result _ _ q z answer on off = absurd z

pub same_halt : (h i : CodeHalt) → ◌≡◌ {A = Option CodeHalt} (Some h) (Some i) → h ≡ i
same_halt h i e = same_Some h i e
