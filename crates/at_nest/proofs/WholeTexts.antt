-- A span that is read as a whole text: its lead is a run of its own, and behind it stand the items that are kept.
-- For `finish` and `finish_span`.
use Rattle.std.proofs.Common.{◌≡◌, ℕ, inl, inr, Option, Some, None, List, [], ◌++◌, true, Result, Err, refl, sym, ◌∙◌, ap, subst, arith, append_assoc, append-nil, ◌+◌, ◌-◌, ◌≤◌, length, length-append, length-drop, take, drop, take-append-drop}
use Rattle.std.proofs.lemmas.List.{length-take-le}
use Rattle.std.proofs.Math.Seq.{take-append_seam, take-length, drop-append_seam}
use Rattle.at_text.specs.Spans.{span_of}
use Rattle.at_lex.specs.Spans.{AreRun}
use Rattle.at_lex.specs.declared.tokens.Start.{Start}
use Rattle.at_lex.specs.declared.tokens.Start.TheVariants.{Out}
use Rattle.at_nest.specs.declared.finishing.NestEnd.{NestEnd}
use Rattle.at_nest.specs.declared.pieces.SpanStop.{SpanStop as CodeHalt}
use Rattle.at_nest.specs.Tree.{Tree}
use Rattle.at_nest.specs.Borders.{are_apart}
use Rattle.at_nest.specs.Levels.{Form, Pushed, further, stopped, push_then}
use Rattle.at_nest.specs.Stops.{AreLevels, IsStop}
use Rattle.at_nest.specs.Unions.{IsToken, no_token, a_run, Ends, merged, empty_form}
use Rattle.at_nest.specs.Variants.{IsLeadEnd, IsPending, none_pending, run_pending}
use Rattle.at_nest.specs.Answers.{finished}
use Rattle.at_nest.specs.Shown.{Shown, show_as}
use Rattle.at_nest.specs.KeptItems.{Content, IsOfItems, free, halt_of, IsShown, IsPushedAs, IsPartOf}
use Rattle.at_nest.specs.VariantMeanings.{HoldsWhole, HoldsBroken, CanMeet, Meets}
use Rattle.at_nest.specs.NextItems.{next_of, stop_of}
use Rattle.at_nest.specs.LastBytes.{EndsSo}
use Rattle.at_nest.specs.TextAnswers.{Answers}
use Rattle.at_nest.proofs.Joining.{went_on}
use Rattle.at_nest.proofs.Joins.{apart_front}
use Rattle.at_nest.proofs.Unions.{ends_token, ends_right, token_apart, run_begins_or}
use Rattle.at_nest.proofs.UnionsHeld.{stops_behind}
use Rattle.at_nest.proofs.TokenStops.{nothing_is}
use Rattle.at_nest.proofs.Finished.{finished_ok}
use Rattle.at_nest.proofs.NextItems.{stop_tells}
use Rattle.at_nest.proofs.Told.{told}
use Rattle.at_nest.proofs.Merges.{apart_both}

-- ---- the bytes of a span

pub part_is : (bytes : List ℕ) (from to : ℕ) → from ≤ to → to ≤ length bytes → (y z : List ℕ) × (bytes ≡ y ++ (span_of bytes from to ++ z)) × (from ≡ length y) × (to ≡ length y + length (span_of bytes from to))
part_is bytes from to h k =
    let long : length (drop from bytes) ≡ length bytes - from = length-drop from bytes in
    let wide : length (take (to - from) (drop from bytes)) ≡ to - from = length-take-le (to - from) (drop from bytes) (omega (arith, long, h, k)) in
    let front : length (take from bytes) ≡ from = length-take-le from bytes (omega (arith, h, k)) in (
      take from bytes,
      drop (to - from) (drop from bytes),
      sym (take-append-drop from bytes) ∙ ap (λ v. take from bytes ++ v) (sym (take-append-drop (to - from) (drop from bytes))),
      sym front,
      omega (arith, wide, front, h),
    )

pub part_part : (bytes : List ℕ) (from to : ℕ) → from ≤ to → to ≤ length bytes → IsPartOf bytes from (span_of bytes from to)
part_part bytes from to h k = let (y, z, e, i, j) = part_is bytes from to h k in (y, z, e, i)

-- bytes in the span
pub inside_part : (bytes : List ℕ) (from to : ℕ) (a v z : List ℕ) (i j : ℕ) → from ≤ to → to ≤ length bytes → span_of bytes from to ≡ a ++ (v ++ z) → i ≡ from + length a → j ≡ i + length v → (take (j - i) (drop i bytes) ≡ v) × (i ≤ j) × (j ≤ to)
inside_part bytes from to a v z i j h k e p q =
    let (y, o, all, f, t) = part_is bytes from to h k in
    let wide : length (span_of bytes from to) ≡ length a + (length v + length z) = ap (λ x. length x) e ∙ (length-append a (v ++ z) ∙ ap (λ n. length a + n) (length-append v z)) in
    let split : bytes ≡ (y ++ a) ++ (v ++ (z ++ o)) = all ∙ (ap (λ x. y ++ (x ++ o)) e ∙ simp append_assoc) in
    let front : i ≡ length (y ++ a) = omega (arith, p, f, length-append y a) in
    let size : j - i ≡ length v = omega (arith, q) in (
      ap (λ n. take n (drop i bytes)) size ∙ (ap (take (length v)) (ap (λ n. drop n bytes) front ∙ (ap (drop (length (y ++ a))) split ∙ drop-append_seam (y ++ a) (v ++ (z ++ o)))) ∙ take-append_seam v (z ++ o)),
      omega (arith, q),
      omega (arith, q, p, f, t, wide),
    )

-- ---- the lead

lead_token : (u more : List ℕ) → IsLeadEnd Out u more → IsToken u more
lead_token u more (r, k, b, o, e) = elim (run_begins_or u r) [ inl n ↦ no_token n b o e | inr c ↦ a_run r c k b o e ]

lead_apart : (u more : List ℕ) → IsLeadEnd Out u more → are_apart u more ≡ true
lead_apart u more l = token_apart u more (lead_token u more l)

pub lead_pends : (w : List ℕ) → AreRun w → IsPending w
lead_pends w r = elim (run_begins_or w r) [ inl n ↦ none_pending n | inr b ↦ run_pending r b ]

-- the lead's token, behind nothing
first_token : (at : ℕ) (u more : List ℕ) (p : Pushed Tree) → Ends free at u more p → Ends free at u more (merged free (further empty_form) p)
first_token at u more p h = ends_token free at [] u more empty_form p (nothing_is free at) (let e : at ≡ at + length {A = ℕ} [] = omega arith in subst (λ n. Ends free n u more p) e h) refl

-- a stop of the lead comes before that of the items
abbrev pub first_halt : Option CodeHalt → CodeHalt → CodeHalt
first_halt None last = last
first_halt (Some halt) last = halt

module _ {X : Type 0} (K : X → Content → Type 0) where
  nothing_shown : (at : ℕ) (w : List ℕ) → IsShown K at w (show_as [] []) empty_form
  nothing_shown at w = (refl, tt)

  -- ---- the span is all lead

  pub answers_lead : (from : ℕ) (w : List ℕ) (s : Shown X) (r : Result X NestEnd) → s ≡ show_as [] [] → EndsSo K s from w r → Answers K from w r
  answers_lead from w s r e ends = ends from [] empty_form (subst (λ z. IsShown K from w z empty_form) (sym e) (nothing_shown from w)) (nothing_is free from) refl (let q : from ≡ from + 0 = omega arith in q)

  -- ---- behind the lead stand items

  -- the lead is a token that can be put before the items
  pub record Opens (bytes : List ℕ) (from to lead : ℕ) (old behind : Shown X) : Type 0 where
    pub order : from ≤ lead
    pub fits : lead ≤ length bytes
    pub meets : CanMeet K bytes old behind from (take (lead - from) (drop from bytes))

  opens_by : (bytes : List ℕ) (from to lead : ℕ) (old behind : Shown X) (g : Form Tree) (u more : List ℕ) → from ≤ to → to ≤ length bytes → old ≡ show_as [] [] → span_of bytes from to ≡ u ++ more → IsLeadEnd Out u more → lead ≡ from + length u
      → IsShown K from (span_of bytes from to) behind g → Opens bytes from to lead old behind
  opens_by bytes from to lead old behind g u more h k n e l p q =
      let i = inside_part bytes from to [] u more from lead h k e (let z : from ≡ from + 0 = omega arith in z) p in
      record {
        order = i.1;
        fits = omega (arith, i.2, k);
        meets = (
          from,
          span_of bytes from to,
          empty_form,
          g,
          more,
          part_part bytes from to h k,
          subst (λ z. IsShown K from (span_of bytes from to) z empty_form) (sym n) (nothing_shown from (span_of bytes from to)),
          q,
          ([], more, e ∙ ap (λ z. z ++ more) (sym i.0), (let z : from ≡ from + 0 = omega arith in z)),
          subst (λ z. IsToken z more) (sym i.0) (lead_token u more l),
        );
      }

  pub opens_whole : (bytes : List ℕ) (from to lead : ℕ) (old behind : Shown X) (pend : ℕ) (end : Start) → from ≤ to → to ≤ length bytes → old ≡ show_as [] [] → HoldsWhole K Out from (span_of bytes from to) lead behind pend end → Opens bytes from to lead old behind
  opens_whole bytes from to lead old behind pend end h k n w = opens_by bytes from to lead old behind w.form w.first (w.is_whole.middle ++ w.last) h k n w.is_whole.split w.is_whole.lead w.lead_at w.is_shown

  pub opens_broken : (bytes : List ℕ) (from to lead : ℕ) (old behind : Shown X) (halt : CodeHalt) → from ≤ to → to ≤ length bytes → old ≡ show_as [] [] → HoldsBroken K Out from (span_of bytes from to) lead behind halt → Opens bytes from to lead old behind
  opens_broken bytes from to lead old behind halt h k n w = opens_by bytes from to lead old behind w.form w.first w.is_broken.more h k n w.is_broken.split w.is_broken.lead w.lead_at w.is_shown

  -- what may go on, in all bytes
  pub record Pends (bytes : List ℕ) (to pend : ℕ) : Type 0 where
    pub order : pend ≤ to
    pub pending : IsPending (take (to - pend) (drop pend bytes))
    pub wide : pend + length (take (to - pend) (drop pend bytes)) ≡ to

  last_is : (bytes : List ℕ) (from to lead : ℕ) (behind : Shown X) (pend : ℕ) (end : Start) → from ≤ to → to ≤ length bytes → (w : HoldsWhole K Out from (span_of bytes from to) lead behind pend end) → (take (to - pend) (drop pend bytes) ≡ w.last) × (pend ≤ to) × (pend ≡ from + length (w.first ++ w.is_whole.middle)) × (pend + length w.last ≡ to)
  last_is bytes from to lead behind pend end h k w =
      let (y, z, all, f, t) = part_is bytes from to h k in
      let split : span_of bytes from to ≡ (w.first ++ w.is_whole.middle) ++ (w.last ++ []) = w.is_whole.split ∙ (sym (append_assoc w.first w.is_whole.middle w.last) ∙ ap (λ v. (w.first ++ w.is_whole.middle) ++ v) (sym (append-nil w.last))) in
      let wide : length (span_of bytes from to) ≡ length (w.first ++ w.is_whole.middle) + length w.last = ap (λ x. length x) (w.is_whole.split ∙ sym (append_assoc w.first w.is_whole.middle w.last)) ∙ length-append (w.first ++ w.is_whole.middle) w.last in
      let place : pend ≡ from + length (w.first ++ w.is_whole.middle) = omega (arith, w.pend_at, wide) in
      let i = inside_part bytes from to (w.first ++ w.is_whole.middle) w.last [] pend to h k split place (omega (arith, w.pend_at, f, t)) in
      (i.0, i.1, place, omega (arith, w.pend_at, f, t))

  pub pends_whole : (bytes : List ℕ) (from to lead : ℕ) (behind : Shown X) (pend : ℕ) (end : Start) → from ≤ to → to ≤ length bytes → HoldsWhole K Out from (span_of bytes from to) lead behind pend end → Pends bytes to pend
  pends_whole bytes from to lead behind pend end h k w = let l = last_is bytes from to lead behind pend end h k w in
      record { order = l.1; pending = subst IsPending (sym l.0) w.is_whole.pending; wide = ap (λ v. pend + length v) l.0 ∙ l.3 }

  -- the form or the stop of the lead and the items
  met : (bytes : List ℕ) (from to lead : ℕ) (old behind new : Shown X) (r : Option CodeHalt) (g : Form Tree) (u more : List ℕ) → from ≤ to → to ≤ length bytes → old ≡ show_as [] [] → span_of bytes from to ≡ u ++ more → IsLeadEnd Out u more → lead ≡ from + length u
      → IsShown K from (span_of bytes from to) behind g → AreLevels g.levels → Meets K bytes old behind new r from (take (lead - from) (drop from bytes))
      → (p : Pushed Tree) × Ends free from u more p × IsPushedAs K from (span_of bytes from to) new r (push_then (λ z. merged free (further z) (further g)) (merged free (further empty_form) p))
  met bytes from to lead old behind new r g u more h k n e l p q levels meets =
      let i = inside_part bytes from to [] u more from lead h k e (let z : from ≡ from + 0 = omega arith in z) p in
      let m = meets from (span_of bytes from to) empty_form g more (part_part bytes from to h k) (subst (λ z. IsShown K from (span_of bytes from to) z empty_form) (sym n) (nothing_shown from (span_of bytes from to))) q
      levels
      ([], more, e ∙ ap (λ z. z ++ more) (sym i.0), (let z : from ≡ from + 0 = omega arith in z)) (subst (λ z. IsToken z more) (sym i.0) (lead_token u more l)) in
      (m.0, subst (λ z. Ends free from z more m.0) i.0 m.1, m.2)

  stop_answers : (at : ℕ) (w : List ℕ) (s : Shown X) (f : Form Tree) (halt : CodeHalt) → IsShown K at w s f → IsStop free at w f (halt_of halt) → Answers K at w (Err (stop_of (next_of s) halt))
  stop_answers at w s f halt h stop = told K at w (finished free (stopped f (halt_of halt))) (Err (stop_of (next_of s) halt)) (finished_ok free at w (stopped f (halt_of halt)) stop tt) (stop_tells K at w s f halt h stop.form.levels)

  -- the lead and the items, up to what is pending
  whole_met : (bytes : List ℕ) (from to lead : ℕ) (old behind new : Shown X) (r : Option CodeHalt) (pend : ℕ) (end : Start) → from ≤ to → to ≤ length bytes → old ≡ show_as [] [] → (w : HoldsWhole K Out from (span_of bytes from to) lead behind pend end)
      → Meets K bytes old behind new r from (take (lead - from) (drop from bytes)) → (o : Pushed Tree) × Ends free from (w.first ++ w.is_whole.middle) w.last o × IsPushedAs K from (span_of bytes from to) new r o
  whole_met bytes from to lead old behind new r pend end h k n w meets =
      let more : List ℕ = w.is_whole.middle ++ w.last in
      let m = met bytes from to lead old behind new r w.form w.first more h k n w.is_whole.split w.is_whole.lead w.lead_at w.is_shown w.is_whole.form.levels meets in
      let q : Pushed Tree = merged free (further empty_form) m.0 in (
        push_then (λ z. merged free (further z) (further w.form)) q,
        ends_right free from w.first w.is_whole.middle w.last q (further w.form) (first_token from w.first more m.0 m.1) w.is_whole.form (apart_front w.first w.is_whole.middle w.last (lead_apart w.first more w.is_whole.lead)),
        m.2,
      )

  -- the items go on to what is pending
  pub whole_goes : (bytes : List ℕ) (from to lead : ℕ) (old behind new : Shown X) (r : Option CodeHalt) (pend : ℕ) (end : Start) (result : Result X NestEnd) → from ≤ to → to ≤ length bytes → old ≡ show_as [] [] → HoldsWhole K Out from (span_of bytes from to) lead behind pend end
      → Meets K bytes old behind new r from (take (lead - from) (drop from bytes)) → r ≡ None → EndsSo K new pend (take (to - pend) (drop pend bytes)) result → Answers K from (span_of bytes from to) result
  whole_goes bytes from to lead old behind new r pend end result h k n w meets none ends =
      let l = last_is bytes from to lead behind pend end h k w in
      let o = whole_met bytes from to lead old behind new r pend end h k n w meets in
      by_form o.0 o.1 (subst (λ z. IsPushedAs K from (span_of bytes from to) new z o.0) none o.2) l.2 (subst (λ z. EndsSo K new pend z result) l.0 ends)
    where
      all : span_of bytes from to ≡ (w.first ++ w.is_whole.middle) ++ w.last
      all = w.is_whole.split ∙ sym (append_assoc w.first w.is_whole.middle w.last)

      apart : are_apart (w.first ++ w.is_whole.middle) w.last ≡ true
      apart = apart_both w.first w.is_whole.middle w.last (lead_apart w.first (w.is_whole.middle ++ w.last) w.is_whole.lead) w.is_whole.apart

      by_form : (o : Pushed Tree) → Ends free from (w.first ++ w.is_whole.middle) w.last o → IsPushedAs K from (span_of bytes from to) new None o → pend ≡ from + length (w.first ++ w.is_whole.middle) → EndsSo K new pend w.last result → Answers K from (span_of bytes from to) result
      by_form (further f) form kept place ends = subst (λ z. Answers K from z result) (sym all) (ends from (w.first ++ w.is_whole.middle) f (subst (λ z. IsShown K from z new f) all kept) form apart place)
      by_form (stopped f y) form kept place ends = absurd kept

  -- what is kept then stands for items
  pub items_whole : (bytes : List ℕ) (from to lead : ℕ) (old behind new : Shown X) (r : Option CodeHalt) (pend : ℕ) (end : Start) → from ≤ to → to ≤ length bytes → old ≡ show_as [] [] → HoldsWhole K Out from (span_of bytes from to) lead behind pend end
      → Meets K bytes old behind new r from (take (lead - from) (drop from bytes)) → r ≡ None → IsOfItems K new
  items_whole bytes from to lead old behind new r pend end h k n w meets none =
      let o = whole_met bytes from to lead old behind new r pend end h k n w meets in
      let q = went_on K from (span_of bytes from to) new o.0 (subst (λ z. IsPushedAs K from (span_of bytes from to) new z o.0) none o.2) in
      (from, span_of bytes from to, q.0, q.2)

  -- the lead stops, or an item behind it
  pub whole_stops : (bytes : List ℕ) (from to lead : ℕ) (old behind new : Shown X) (r : Option CodeHalt) (pend : ℕ) (end : Start) (halt : CodeHalt) → from ≤ to → to ≤ length bytes → old ≡ show_as [] [] → HoldsWhole K Out from (span_of bytes from to) lead behind pend end
      → Meets K bytes old behind new r from (take (lead - from) (drop from bytes)) → r ≡ Some halt → Answers K from (span_of bytes from to) (Err (stop_of (next_of new) halt))
  whole_stops bytes from to lead old behind new r pend end halt h k n w meets some =
      let o = whole_met bytes from to lead old behind new r pend end h k n w meets in
      by_stop o.0 o.1 (subst (λ z. IsPushedAs K from (span_of bytes from to) new z o.0) some o.2) (w.is_whole.split ∙ sym (append_assoc w.first w.is_whole.middle w.last))
    where
      by_stop : (o : Pushed Tree) → Ends free from (w.first ++ w.is_whole.middle) w.last o → IsPushedAs K from (span_of bytes from to) new (Some halt) o → span_of bytes from to ≡ (w.first ++ w.is_whole.middle) ++ w.last → Answers K from (span_of bytes from to) (Err (stop_of (next_of new) halt))
      by_stop (further f) stop kept all = absurd kept
      by_stop (stopped f y) stop kept all = stop_answers from (span_of bytes from to) new f halt kept.0 (subst (IsStop free from (span_of bytes from to) f) (sym kept.1) (subst (λ z. IsStop free from z f y) (sym all) stop))

  -- the span stops
  pub broken_stops : (bytes : List ℕ) (from to lead : ℕ) (old behind new : Shown X) (r : Option CodeHalt) (last halt : CodeHalt) → from ≤ to → to ≤ length bytes → old ≡ show_as [] [] → HoldsBroken K Out from (span_of bytes from to) lead behind last
      → Meets K bytes old behind new r from (take (lead - from) (drop from bytes)) → halt ≡ first_halt r last → Answers K from (span_of bytes from to) (Err (stop_of (next_of new) halt))
  broken_stops bytes from to lead old behind new r last halt h k n w meets first =
      let more : List ℕ = w.is_broken.more in
      let m = met bytes from to lead old behind new r w.form w.first more h k n w.is_broken.split w.is_broken.lead w.lead_at w.is_shown w.is_broken.stop.form.levels meets in
      let q : Pushed Tree = merged free (further empty_form) m.0 in
      let ends : Ends free from (w.first ++ more) [] (push_then (λ z. merged free (further z) (stopped w.form (halt_of last))) q) = ends_right free from w.first more [] q (stopped w.form (halt_of last)) (subst (λ z. Ends free from w.first z q) (sym (append-nil more)) (first_token from w.first more m.0 m.1)) w.is_broken.stop (lead_apart w.first more w.is_broken.lead) in
      subst (λ z. Answers K from (span_of bytes from to) (Err (stop_of (next_of new) z))) (sym first)
      (by_stop r (push_then (λ z. merged free (further z) (further w.form)) q) m.2 (subst (λ z. Ends free from (w.first ++ more) [] z) (stops_behind K w.form (halt_of last) q) ends) w.is_broken.split)
    where
      by_stop : (r : Option CodeHalt) (o : Pushed Tree) → IsPushedAs K from (span_of bytes from to) new r o → Ends free from (w.first ++ w.is_broken.more) [] (push_then (λ z. stopped z (halt_of last)) o) → span_of bytes from to ≡ w.first ++ w.is_broken.more
          → Answers K from (span_of bytes from to) (Err (stop_of (next_of new) (first_halt r last)))
      by_stop None (further f) kept stop all = stop_answers from (span_of bytes from to) new f last kept (subst (λ z. IsStop free from z f (halt_of last)) (append-nil (w.first ++ w.is_broken.more) ∙ sym all) stop)
      by_stop (Some i) (stopped f y) kept stop all = stop_answers from (span_of bytes from to) new f i kept.0 (subst (IsStop free from (span_of bytes from to) f) (sym kept.1) (subst (λ z. IsStop free from z f y) (append-nil (w.first ++ w.is_broken.more) ∙ sym all) stop))
      by_stop _ _ kept stop all = absurd kept

  -- ---- the bytes behind the base

  pub answers_all : (bytes : List ℕ) (from base : ℕ) (r : Result X NestEnd) → from ≡ base → Answers K from (span_of bytes from (length bytes)) r → Answers K base (drop base bytes) r
  answers_all bytes from base r e h = subst (λ n. Answers K n (drop n bytes) r) e (subst (λ z. Answers K from z r) (ap (λ n. take n (drop from bytes)) (sym (length-drop from bytes)) ∙ take-length (drop from bytes)) h)
