-- Forms stay reduced; and a stop of a span is dead from the span's start state on.
-- For `finish`, `finish_span`, `merge` and `run_block`.
use Rattle.std.proofs.Common.{◌≡◌, ℕ, List, [], ◌∷◌, ◌++◌, Option, Some, None, Bool, true, false, not, refl, sym, ◌∙◌, ap, subst, append_assoc}
use Rattle.std.proofs.lemmas.Bool.{and_right}
use Rattle.at_text.specs.Prefix.{Viable}
use Rattle.at_lex.specs.declared.tokens.Start.{Start}
use Rattle.at_lex.specs.declared.tokens.Start.TheVariants.{Out, InString, InEscape}
use Rattle.at_lex.specs.declared.tokens.Bracket.{Bracket}
use Rattle.at_nest.specs.Syntax.{JsonText}
use Rattle.at_lex.specs.Spans.{begins_run, end_of, ClosesText}
use Rattle.at_nest.specs.Borders.{ends_run, are_apart}
use Rattle.at_nest.specs.Forms.{Meaning, Mark, Piece, opens, closes, mark, entry, IsDead}
use Rattle.at_nest.specs.Walks.{mark_kind}
use Rattle.at_nest.proofs.Walks.{ends_append}
use Rattle.at_nest.proofs.Joins.{end_append, at_end}
use Rattle.at_nest.proofs.Items.{apart_by}
use Rattle.at_nest.specs.Levels.{Mode, Level, Form, move, closes_at, built, pieces_of, Pushed, further, stopped, SpanStop, with_mark, push_mark, close_level, push_close, push, push_then, push_all}
use Rattle.at_nest.proofs.Merges.{merged}
use Rattle.at_nest.proofs.Finished.{AreClosed, IsReduced}
use Rattle.at_nest.proofs.Unions.{IsBroken, IsLeadEnd, lead_out, closes_last}
use Rattle.at_nest.proofs.Lexical.{not_out_string, not_out_escape}

closed_with : {X : Type 0} (ps qs : List (Piece X)) → AreClosed ps → AreClosed qs → AreClosed (ps ++ qs)
closed_with [] qs h k = k
closed_with (opens b i ∷ ps) qs h k = absurd h
closed_with (closes b i ∷ ps) qs h k = closed_with ps qs h k
closed_with (mark x ∷ ps) qs h k = closed_with ps qs h k

with_mark_reduced : {X : Type 0} (outer : List (Piece X)) (ls : List (Level X)) (l : Level X) (x : Mark X) (o : Option Mode) → AreClosed outer → IsReduced (with_mark outer ls l x o)
with_mark_reduced outer ls l x None h = tt
with_mark_reduced outer ls l x (Some n) h = h

push_mark_reduced : {X : Type 0} (outer : List (Piece X)) (ls : List (Level X)) (x : Mark X) → AreClosed outer → IsReduced (push_mark outer ls x)
push_mark_reduced outer [] x h = closed_with outer (mark x ∷ []) h tt
push_mark_reduced outer (l ∷ ls) x h = with_mark_reduced outer ls l x (move l.mode (mark_kind x)) h

close_level_reduced : {X : Type 0} (m : Meaning X) (outer : List (Piece X)) (ls : List (Level X)) (l : Level X) (i : ℕ) (c : Bool) → AreClosed outer → IsReduced (close_level m outer ls l i c)
close_level_reduced m outer ls l i true h = push_mark_reduced outer ls (entry l.from (built m l.bracket l.from l.inside)) h
close_level_reduced m outer ls l i false h = tt

push_close_reduced : {X : Type 0} (m : Meaning X) (outer : List (Piece X)) (ls : List (Level X)) (b : Bracket) (i : ℕ) → AreClosed outer → IsReduced (push_close m outer ls b i)
push_close_reduced m outer [] b i h = closed_with outer (closes b i ∷ []) h tt
push_close_reduced m outer (l ∷ ls) b i h = close_level_reduced m outer ls l i (closes_at l.mode b) h

pub push_reduced : {X : Type 0} (m : Meaning X) (f : Form X) (p : Piece X) → AreClosed f.outer → IsReduced (push m f p)
push_reduced m f (opens b i) h = h
push_reduced m f (closes b i) h = push_close_reduced m f.outer f.levels b i h
push_reduced m f (mark x) h = push_mark_reduced f.outer f.levels x h

then_reduced : {X : Type 0} (more : Form X → Pushed X) (o : Pushed X) → IsReduced o → ((f : Form X) → AreClosed f.outer → IsReduced (more f)) → IsReduced (push_then more o)
then_reduced more (further f) h k = k f h
then_reduced more (stopped f i) h k = tt

pub push_all_reduced : {X : Type 0} (m : Meaning X) (ps : List (Piece X)) (f : Form X) → AreClosed f.outer → IsReduced (push_all m ps f)
push_all_reduced m [] f h = h
push_all_reduced m (p ∷ ps) f h = then_reduced (push_all m ps) (push m f p) (push_reduced m f p h) (λ g k. push_all_reduced m ps g k)

pub merged_reduced : {X : Type 0} (m : Meaning X) (l r : Pushed X) → IsReduced l → IsReduced (merged m l r)
merged_reduced m (stopped f i) r h = tt
merged_reduced m (further f) (further g) h = push_all_reduced m (pieces_of g) f h
merged_reduced m (further f) (stopped g i) h = then_reduced (λ k. stopped k i) (push_all m (pieces_of g) f) (push_all_reduced m (pieces_of g) f h) (λ k c. tt)

-- ---- a stop of a span, from its start state

lead_last : (s : Start) (x u : List ℕ) → (s ≡ Out → ⊥) → ClosesText s u → ends_run (x ++ u) ≡ false
lead_last s x [] n h = absurd (no_close s n h)
  where
    no_close : (s : Start) → (s ≡ Out → ⊥) → ClosesText s [] → ⊥
    no_close Out n h = n refl
    no_close _ n h = h
lead_last s x (b ∷ u) n h = ends_append x b u ∙ closes_last s (b ∷ u) n h

lead_apart : (s : Start) (x u more : List ℕ) → IsLeadEnd s u more → are_apart (x ++ u) more ≡ true
lead_apart Out x u more (h, k, b, o, e) = ap not (and_right (ends_run (x ++ u)) (begins_run more) k)
lead_apart InString x u more h = apart_by (x ++ u) more (lead_last InString x u (λ e. not_out_string (sym e)) h)
lead_apart InEscape x u more h = apart_by (x ++ u) more (lead_last InEscape x u (λ e. not_out_escape (sym e)) h)

-- no bytes before the span that lead into its start state make the stop's byte viable
pub broken_dead : {X : Type 0} (m : Meaning X) (s : Start) (at : ℕ) (w u : List ℕ) (f : Form X) (i : SpanStop) → IsBroken m s at w u f i → IsDead s at w i.place
broken_dead m s at w u f i h = record {
  before = u ++ h.stop.dead.before;
  byte = h.stop.dead.byte;
  others = h.stop.dead.others;
  split = h.split ∙ (ap (λ z. u ++ z) h.stop.dead.split ∙ sym (append_assoc u h.stop.dead.before (h.stop.dead.byte ∷ h.stop.dead.others)));
  place = h.stop.dead.place ∙ at_end at u h.stop.dead.before;
  dead = λ x out viable. h.stop.dead.dead (x ++ u) (end_append Out x u ∙ (ap (λ z. end_of z u) out ∙ lead_out s u h.more h.lead)) (lead_apart s x u h.more h.lead)
      (subst (Viable (JsonText 0)) (ap (λ z. x ++ z) (append_assoc u h.stop.dead.before (h.stop.dead.byte ∷ [])) ∙ sym (append_assoc x u (h.stop.dead.before ++ (h.stop.dead.byte ∷ [])))) viable);
}
