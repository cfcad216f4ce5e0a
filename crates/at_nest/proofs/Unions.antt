-- A span from a start state: its lead, a form or a stop, and what is pending; and the merge of two neighbours.
-- For `finish`, `finish_span`, `merge` and `run_block`.
use Rattle.std.proofs.Common.{◌≡◌, ℕ, ◌⊎◌, inl, inr, List, [], ◌∷◌, ◌++◌, Bool, true, false, cond, ◌==◌, not, ◌&&◌, refl, sym, ◌∙◌, ap, subst, arith, append_assoc, append-nil, ◌+◌, length, true≢false}
use Rattle.std.proofs.lemmas.Bool.{eqb-true, and_right}
use Rattle.std.specs.Bool.{⊤}
use Rattle.at_text.specs.Texts.{is_run}
use Rattle.at_lex.specs.declared.tokens.Start.{Start}
use Rattle.at_lex.specs.declared.tokens.Start.TheVariants.{Out, InString, InEscape}
use Rattle.at_lex.specs.Spans.{begins_run, end_of, after_byte, ClosesText, StaysInText, AreRun}
use Rattle.at_nest.specs.Borders.{ends_run, are_apart}
use Rattle.at_nest.specs.Forms.{Meaning}
use Rattle.at_nest.proofs.Walks.{ends_append}
use Rattle.at_nest.proofs.Joins.{formed_out, end_append, at_end, at_end3, apart_front}
use Rattle.at_nest.specs.Levels.{Form, pieces_of, Pushed, further, stopped, SpanStop, push_then, push_all}
use Rattle.at_nest.proofs.Pushes.{IsForm, IsStop, IsPushed}
use Rattle.at_nest.proofs.Merges.{merged, merged_ok, stop_right, push_all_ok, apart_both}
pub use Rattle.at_nest.specs.Variants.{Variant, all_lead, whole, broken, IsAllLead, IsLeadEnd, IsPending, none_pending, run_pending, text_pending, IsWhole, IsBroken, IsVariant}
pub use Rattle.at_nest.specs.Unions.{IsToken, no_token, a_run, a_text, Ends, variant_of}

-- ---- leads

pub run_append : (u v : List ℕ) → AreRun u → AreRun v → AreRun (u ++ v)
run_append [] v h k = k
run_append (b ∷ u) v (e, h) k = (e, run_append u v h k)

pub run_out : (u : List ℕ) → AreRun u → end_of Out u ≡ Out
run_out [] h = refl
run_out (b ∷ u) (e, h) = ap (λ s. end_of s u) (out_run b e) ∙ run_out u h
  where
    out_run : (b : ℕ) → is_run b ≡ true → after_byte Out b ≡ Out
    out_run b e = grind (arith, e)

-- a string that goes on, and where it goes on or ends
stays_stays : (s : Start) (u v : List ℕ) → StaysInText s u → StaysInText (end_of s u) v → StaysInText s (u ++ v)
stays_stays Out u v h k = absurd h
stays_stays InString (b ∷ u) v h k = stays_stays (after_byte InString b) u v h k
stays_stays InEscape (b ∷ u) v h k = stays_stays InString u v h k
stays_stays _ [] v h k = k

stays_closes : (s : Start) (u v : List ℕ) → StaysInText s u → ClosesText (end_of s u) v → ClosesText s (u ++ v)
stays_closes Out u v h k = absurd h
stays_closes InString (b ∷ u) v h k = stays_closes (after_byte InString b) u v h k
stays_closes InEscape (b ∷ u) v h k = stays_closes InString u v h k
stays_closes _ [] v h k = k

pub closes_out : (s : Start) (u : List ℕ) → ClosesText s u → end_of s u ≡ Out
closes_out Out [] h = refl
closes_out InString (b ∷ u) h = closes_out (after_byte InString b) u h
closes_out InEscape (b ∷ u) h = closes_out InString u h
closes_out _ _ h = absurd h

-- a string that goes on doesn't end outside text
pub stays_in : (s : Start) (u : List ℕ) → StaysInText s u → end_of s u ≡ Out → ⊥
stays_in Out u h e = absurd h
stays_in InString (b ∷ u) h e = stays_in (after_byte InString b) u h e
stays_in InEscape (b ∷ u) h e = stays_in InString u h e
stays_in _ [] h e = cc

text_lead : (s : Start) (x : List ℕ) → (s ≡ Out → ⊥) → IsAllLead s x → StaysInText s x
text_lead Out x n h = absurd (n refl)
text_lead _ x n h = h

text_end : (s : Start) (x more : List ℕ) → (s ≡ Out → ⊥) → IsLeadEnd s x more → ClosesText s x
text_end Out x more n h = absurd (n refl)
text_end _ x more n h = h

-- text states are the same for what stays and closes
pub lead_goes_on : (s : Start) (w x : List ℕ) → IsAllLead s w → IsAllLead (end_of s w) x → IsAllLead s (w ++ x)
lead_goes_on Out w x h k = run_append w x h (subst (λ t. IsAllLead t x) (run_out w h) k)
lead_goes_on s w x h k = stays_stays s w x h (text_lead (end_of s w) x (stays_in s w h) k)

pub lead_ends_on : (s : Start) (w u more : List ℕ) → IsAllLead s w → IsLeadEnd (end_of s w) u more → IsLeadEnd s (w ++ u) more
lead_ends_on Out w u more h k = let (r, e, b, o, c) = subst (λ t. IsLeadEnd t u more) (run_out w h) k in (run_append w u h r, e, b, o, c)
lead_ends_on s w u more h k = stays_closes s w u h (text_end (end_of s w) u more (stays_in s w h) k)

pub lead_more : (s : Start) (u more y : List ℕ) → IsLeadEnd s u more → IsLeadEnd s u (more ++ y)
lead_more Out u more y (h, k, b, o, e) = (h, ap (λ z. begins_run (z ++ y)) e ∙ (ap begins_run (sym e) ∙ k), b, o ++ y, ap (λ z. z ++ y) e)
lead_more _ u more y h = h

pub lead_out : (s : Start) (u more : List ℕ) → IsLeadEnd s u more → end_of s u ≡ Out
lead_out Out u more (h, k, b, o, e) = run_out u h
lead_out s u more h = closes_out s u h

-- ---- the lead of the union

pub all_lead_left : {X : Type 0} (m : Meaning X) (s : Start) (at : ℕ) (w x u : List ℕ) (f : Form X) (v : List ℕ) → IsAllLead s w → IsWhole m (end_of s w) (at + length w) x u f v → IsWhole m s at (w ++ x) (w ++ u) f v
all_lead_left m s at w x u f v h k = record {
  middle = k.middle;
  split = ap (λ z. w ++ z) k.split ∙ sym (append_assoc w u (k.middle ++ v));
  lead = lead_ends_on s w u (k.middle ++ v) h k.lead;
  form = subst (λ n. IsForm m n k.middle f) (at_end at w u) k.form;
  pending = k.pending;
  apart = k.apart;
  ended = k.ended;
}

pub all_lead_broken : {X : Type 0} (m : Meaning X) (s : Start) (at : ℕ) (w x u : List ℕ) (f : Form X) (i : SpanStop) → IsAllLead s w → IsBroken m (end_of s w) (at + length w) x u f i → IsBroken m s at (w ++ x) (w ++ u) f i
all_lead_broken m s at w x u f i h k = record {
  more = k.more;
  split = ap (λ z. w ++ z) k.split ∙ sym (append_assoc w u k.more);
  lead = lead_ends_on s w u k.more h k.lead;
  stop = subst (λ n. IsStop m n k.more f i) (at_end at w u) k.stop;
}

pub broken_left : {X : Type 0} (m : Meaning X) (s : Start) (at : ℕ) (w x u : List ℕ) (f : Form X) (i : SpanStop) → IsBroken m s at w u f i → IsBroken m s at (w ++ x) u f i
broken_left m s at w x u f i h = record {
  more = h.more ++ x;
  split = ap (λ z. z ++ x) h.split ∙ append_assoc u h.more x;
  lead = lead_more s u h.more x h.lead;
  stop = stop_right m (at + length u) h.more x f i h.stop;
}

-- ---- what is pending on the left, and a lead on the right

pub apart_pending : (middle v x : List ℕ) → are_apart middle v ≡ true → (v ≡ [] → ends_run middle ≡ false) → are_apart middle (v ++ x) ≡ true
apart_pending middle [] x h k = ap (λ b. not (b && begins_run x)) (k refl)
apart_pending middle (b ∷ v) x h k = h

pub run_begins_or : (x : List ℕ) → AreRun x → (x ≡ []) ⊎ (begins_run x ≡ true)
run_begins_or [] h = inl refl
run_begins_or (b ∷ x) (e, h) = inr e

begins_more : (v x : List ℕ) → begins_run v ≡ true → begins_run (v ++ x) ≡ true
begins_more [] x b = absurd (true≢false (sym b))
begins_more (c ∷ v) x b = b

pub pending_on : (v x : List ℕ) → IsPending v → IsAllLead (end_of Out v) x → IsPending (v ++ x)
pending_on v x (none_pending e) h = let r : AreRun x = subst (λ z. IsAllLead (end_of Out z) x) e h in elim (run_begins_or x r) [
  | inl n ↦ none_pending (ap (λ z. z ++ x) e ∙ n)
  | inr b ↦ run_pending (subst (λ z. AreRun (z ++ x)) (sym e) r) (ap (λ z. begins_run (z ++ x)) e ∙ b)
]
pending_on v x (run_pending r b) h = run_pending (run_append v x r (subst (λ t. IsAllLead t x) (run_out v r) h)) (begins_more v x b)
pending_on v x (text_pending u e k) h = text_pending (u ++ x) (ap (λ z. z ++ x) e) (stays_stays InString u x k (text_lead (end_of InString u) x (stays_in InString u k) (subst (λ z. IsAllLead (end_of Out z) x) e h)))

pub token_of : (v x more : List ℕ) → IsPending v → IsLeadEnd (end_of Out v) x more → IsToken (v ++ x) more
token_of v x more (none_pending e) h = let (r, k, b, o, f) = subst (λ z. IsLeadEnd (end_of Out z) x more) e h in elim (run_begins_or x r) [
  | inl n ↦ no_token (ap (λ z. z ++ x) e ∙ n) b o f
  | inr c ↦ a_run (subst (λ z. AreRun (z ++ x)) (sym e) r) (ap (λ z. begins_run (z ++ x)) e ∙ c) k b o f
]
token_of v x more (run_pending r c) h = let (q, k, b, o, f) = subst (λ t. IsLeadEnd t x more) (run_out v r) h in a_run (run_append v x r q) (begins_more v x c) k b o f
token_of v x more (text_pending u e k) h = a_text (u ++ x) (ap (λ z. z ++ x) e) (stays_closes InString u x k (text_end (end_of InString u) x more (stays_in InString u k) (subst (λ z. IsLeadEnd (end_of Out z) x more) e h)))

-- ---- the merge of two variants

ends_pushed : {X : Type 0} (m : Meaning X) (at : ℕ) (x more : List ℕ) (p : Pushed X) → IsPushed m at x p → Ends m at x more p
ends_pushed m at x more (further k) h = h
ends_pushed m at x more (stopped k i) h = stop_right m at x more k i h

last_quote : (b : ℕ) → ClosesText (after_byte InString b) [] → is_run b ≡ false
last_quote b h = by_tests (b == 0x5C) (b == 0x22) refl h
  where
    by_tests : (p q : Bool) → (b == 0x22) ≡ q → ClosesText (cond p InEscape (cond q Out InString)) [] → is_run b ≡ false
    by_tests false true e h = ap is_run (eqb-true b 0x22 e)
    by_tests _ _ e h = absurd h

-- a string's last byte is in no run
pub closes_last : (s : Start) (u : List ℕ) → (s ≡ Out → ⊥) → ClosesText s u → ends_run u ≡ false
closes_last Out u n h = absurd (n refl)
closes_last InString (b ∷ []) n h = last_quote b h
closes_last InString (b ∷ (c ∷ u)) n h = closes_last (after_byte InString b) (c ∷ u) (λ e. subst (λ t. ClosesText t (c ∷ u)) e h) h
closes_last InEscape (b ∷ []) n h = absurd h
closes_last InEscape (b ∷ (c ∷ u)) n h = closes_last InString (c ∷ u) (λ e. subst (λ t. ClosesText t (c ∷ u)) e h) h
closes_last _ [] n h = refl

pub string_last : (u : List ℕ) → ClosesText InString u → ends_run (0x22 ∷ u) ≡ false
string_last [] h = absurd h
string_last (b ∷ u) h = closes_last InString (b ∷ u) (λ e. subst (λ t. ClosesText t (b ∷ u)) e h) h

pub token_apart : (t more : List ℕ) → IsToken t more → are_apart t more ≡ true
token_apart t more (no_token e b o f) = ap (λ z. are_apart z more) e
token_apart t more (a_run r b k c o e) = ap not (and_right (ends_run t) (begins_run more) k)
token_apart t more (a_text u e k) = ap (λ z. not (z && begins_run more)) (ap ends_run e ∙ string_last u k)

-- where nothing is behind the token, it is a string
token_last : (x t more : List ℕ) → IsToken t more → more ≡ [] → ends_run (x ++ t) ≡ false
token_last x t more (no_token e b o f) n = absurd (cc)
token_last x t more (a_run r b k c o e) n = absurd (cc)
token_last x t more (a_text u e k) n = ap (λ z. ends_run (x ++ z)) e ∙ (ends_append x 0x22 u ∙ string_last u k)

pub stop_ends : {X : Type 0} (m : Meaning X) (at : ℕ) (x t more : List ℕ) (h : SpanStop) (o : Pushed X) → IsPushed m at (x ++ (t ++ more)) (push_then (λ z. stopped z h) o) → Ends m at (x ++ t) more (push_then (λ z. stopped z h) o)
stop_ends m at x t more h (further f) k = subst (λ z. IsStop m at z f h) (sym (append_assoc x t more)) k
stop_ends m at x t more h (stopped f i) k = subst (λ z. IsStop m at z f i) (sym (append_assoc x t more)) k

pub ends_token : {X : Type 0} (m : Meaning X) (at : ℕ) (x t more : List ℕ) (f : Form X) (p : Pushed X) → IsForm m at x f → Ends m (at + length x) t more p → are_apart x (t ++ more) ≡ true → Ends m at (x ++ t) more (merged m (further f) p)
ends_token m at x t more f (further k) h g a = ends_pushed m at (x ++ t) more (push_all m (pieces_of k) f) (push_all_ok m (pieces_of k) at x t f h g.formed (apart_front x t more a))
ends_token m at x t more f (stopped k i) h g a = stop_ends m at x t more i (push_all m (pieces_of k) f) (merged_ok m at x (t ++ more) (further f) (stopped k i) h g (formed_out m at x (pieces_of f) h.formed) a)

-- a form or a stop, as a variant
pub record Rests (s : Start) (w u x y : List ℕ) : Type 0 where
  pub split : w ≡ u ++ (x ++ y)
  pub lead : IsLeadEnd s u (x ++ y)
  pub pending : IsPending y
  pub apart : are_apart x y ≡ true
  pub ended : y ≡ [] → ends_run x ≡ false

pub ends_variant : {X : Type 0} (m : Meaning X) (s : Start) (at : ℕ) (w u x y : List ℕ) (p : Pushed X) → Ends m (at + length u) x y p → Rests s w u x y → IsVariant m s at w (variant_of u y p)
ends_variant m s at w u x y (further k) h r = record { middle = x; split = r.split; lead = r.lead; form = h; pending = r.pending; apart = r.apart; ended = r.ended }
ends_variant m s at w u x y (stopped k i) h r = record { more = x ++ y; split = r.split; lead = r.lead; stop = h }

-- behind the left side and the token, the right side
pub ends_right : {X : Type 0} (m : Meaning X) (at : ℕ) (x y z : List ℕ) (q : Pushed X) (right : Pushed X) → Ends m at x (y ++ z) q → IsPushed m (at + length x) y right → are_apart x y ≡ true → Ends m at (x ++ y) z (push_then (λ k. merged m (further k) right) q)
ends_right m at x y z (further k) right h r a = ends_pushed m at (x ++ y) z (merged m (further k) right) (merged_ok m at x y (further k) right h r (formed_out m at x (pieces_of k) h.formed) a)
ends_right m at x y z (stopped k i) right h r a = subst (λ v. IsStop m at v k i) (sym (append_assoc x y z)) h

pub union_split : (w1 w2 u x v y z : List ℕ) → w1 ≡ u ++ (x ++ v) → w2 ≡ y ++ z → w1 ++ w2 ≡ u ++ ((x ++ (v ++ y)) ++ z)
union_split w1 w2 u x v y z e f = ap (λ a. a ++ w2) e ∙ (append_assoc u (x ++ v) w2 ∙ ap (λ a. u ++ a) (append_assoc x v w2 ∙ (ap (λ a. x ++ (v ++ a)) f ∙ (ap (λ a. x ++ a) (sym (append_assoc v y z)) ∙ sym (append_assoc x (v ++ y) z)))))

pub token_place : (at : ℕ) (w u x v : List ℕ) → w ≡ u ++ (x ++ v) → at + length w ≡ at + length u + length x + length v
token_place at w u x v e = ap (λ z. at + length z) e ∙ at_end3 at u x v

-- the state in which the right side begins
pub whole_end : {X : Type 0} (m : Meaning X) (s : Start) (at : ℕ) (w u : List ℕ) (f : Form X) (v : List ℕ) → IsWhole m s at w u f v → end_of s w ≡ end_of Out v
whole_end m s at w u f v h = ap (end_of s) h.split ∙ (end_append s u (h.middle ++ v) ∙ (ap (λ t. end_of t (h.middle ++ v)) (lead_out s u (h.middle ++ v) h.lead)
    ∙ (end_append Out h.middle v ∙ ap (λ t. end_of t v) (formed_out m (at + length u) h.middle (pieces_of f) h.form.formed))))

pub joined_apart : (a v x more : List ℕ) → are_apart a v ≡ true → (v ≡ [] → ends_run a ≡ false) → are_apart (v ++ x) more ≡ true → are_apart (a ++ (v ++ x)) more ≡ true
joined_apart a v x more h k l = apart_both a (v ++ x) more (ap (are_apart a) (append_assoc v x more) ∙ apart_pending a v (x ++ more) h k) l

pub right_place : (at : ℕ) (w u a v x : List ℕ) → w ≡ u ++ (a ++ v) → at + length w + length x ≡ at + length u + length (a ++ (v ++ x))
right_place at w u a v x e = ap (λ n. n + length x) (token_place at w u a v e) ∙ sym (at_end3 (at + length u) a v x)

pub lead_bytes : (a v x c y : List ℕ) → (a ++ v) ++ (x ++ (c ++ y)) ≡ ((a ++ (v ++ x)) ++ c) ++ y
lead_bytes a v x c y = append_assoc a v (x ++ (c ++ y)) ∙ (ap (λ z. a ++ z) (sym (append_assoc v x (c ++ y))) ∙ (sym (append_assoc a (v ++ x) (c ++ y)) ∙ sym (append_assoc (a ++ (v ++ x)) c y)))

pub ended_by : (a t c y : List ℕ) → IsToken t (c ++ y) → ends_run c ≡ false → y ≡ [] → ends_run ((a ++ t) ++ c) ≡ false
ended_by a t [] y k h n = ap ends_run (append-nil (a ++ t)) ∙ token_last a t y k n
ended_by a t (d ∷ c) y k h n = ends_append (a ++ t) d c ∙ h

pub left_nil : (v x : List ℕ) → v ++ x ≡ [] → v ≡ []
left_nil [] x n = refl
left_nil (b ∷ v) x n = cc

abbrev pub IsStopped : {X : Type 0} → Pushed X → Type 0
IsStopped (further k) = ⊥
IsStopped (stopped k i) = ⊤

then_stops : {X : Type 0} (i : SpanStop) (o : Pushed X) → IsStopped (push_then (λ z. stopped z i) o)
then_stops i (further k) = tt
then_stops i (stopped k j) = tt

pub right_stops : {X : Type 0} (m : Meaning X) (g : Form X) (i : SpanStop) (q : Pushed X) → IsStopped (push_then (λ k. merged m (further k) (stopped g i)) q)
right_stops m g i (further k) = then_stops i (push_all m (pieces_of g) k)
right_stops m g i (stopped k j) = tt

pub ends_broken : {X : Type 0} (m : Meaning X) (s : Start) (at : ℕ) (w u x : List ℕ) (p : Pushed X) → IsStopped p → Ends m (at + length u) x [] p → w ≡ u ++ x → IsLeadEnd s u x → IsVariant m s at w (variant_of u [] p)
ends_broken m s at w u x (further k) n h e l = absurd n
ends_broken m s at w u x (stopped k i) n h e l = record { more = x; split = e; lead = l; stop = subst (λ z. IsStop m (at + length u) z k i) (append-nil x) h }
