-- Neighbouring spans that begin and end between tokens: what stands for each gives, merged, what stands for both.
-- For `finish`, `finish_span`, `merge` and `run_block`.
use Rattle.std.proofs.Common.{◌≡◌, ℕ, List, [], ◌∷◌, ◌++◌, true, not, ◌&&◌, refl, sym, ◌∙◌, ap, subst, append_assoc, append-nil, ◌+◌, length}
use Rattle.at_text.specs.Prefix.{Viable}
use Rattle.at_lex.specs.declared.tokens.Start.TheVariants.{Out}
use Rattle.at_lex.specs.Spans.{AreSpaces, begins_run, end_of}
use Rattle.at_nest.specs.Syntax.{JsonText}
use Rattle.at_nest.specs.Borders.{ends_run, are_apart}
use Rattle.at_nest.specs.Forms.{Meaning, Piece, IsPiece, Formed}
use Rattle.at_nest.proofs.PieceSteps.{piece_first}
use Rattle.at_nest.proofs.Walks.{ends_append}
use Rattle.at_nest.proofs.Joins.{formed_append, end_append, at_end, at_end3, apart_front, apart_nothing}
use Rattle.at_nest.specs.Levels.{Form, pieces_of, Pushed, further, stopped, SpanStop, push, push_then, push_all}
use Rattle.at_nest.proofs.Pushes.{IsForm, IsStop, IsPushed, IsDeadHere, push_ok}
pub use Rattle.at_nest.specs.Unions.{merged}

-- ---- stops keep

pub dead_right : (at : ℕ) (w y : List ℕ) (i : ℕ) → IsDeadHere at w i → IsDeadHere at (w ++ y) i
dead_right at w y i h = record {
  before = h.before;
  byte = h.byte;
  others = h.others ++ y;
  split = ap (λ z. z ++ y) h.split ∙ append_assoc h.before (h.byte ∷ h.others) y;
  place = h.place;
  dead = λ x out xapart. h.dead x out (apart_front x w y xapart);
}

pub apart_both : (x w y : List ℕ) → are_apart x (w ++ y) ≡ true → are_apart w y ≡ true → are_apart (x ++ w) y ≡ true
apart_both x [] y h k = ap (λ z. are_apart z y) (append-nil x) ∙ h
apart_both x (c ∷ w) y h k = ap (λ b. not (b && begins_run y)) (ends_append x c w) ∙ k

-- no bytes before the right span make it viable, so no bytes before both do
pub dead_left : (at : ℕ) (w y : List ℕ) (i : ℕ) → end_of Out w ≡ Out → are_apart w y ≡ true → IsDeadHere (at + length w) y i → IsDeadHere at (w ++ y) i
dead_left at w y i e ap1 h = record {
  before = w ++ h.before;
  byte = h.byte;
  others = h.others;
  split = ap (λ z. w ++ z) h.split ∙ sym (append_assoc w h.before (h.byte ∷ h.others));
  place = h.place ∙ at_end at w h.before;
  dead = λ x out xapart viable. h.dead (x ++ w) (end_append Out x w ∙ (ap (λ z. end_of z w) out ∙ e)) (apart_both x w y xapart ap1)
      (subst (Viable (JsonText 0)) (ap (λ z. x ++ z) (append_assoc w h.before (h.byte ∷ [])) ∙ sym (append_assoc x w (h.before ++ (h.byte ∷ [])))) viable);
}

-- bytes with a first one are apart alike, whatever is behind
apart_longer : (v a g o y : List ℕ) (b : ℕ) → are_apart v (a ++ (g ++ (b ∷ o))) ≡ true → are_apart v (a ++ (g ++ (b ∷ (o ++ y)))) ≡ true
apart_longer v [] [] o y b h = h
apart_longer v [] (c ∷ g) o y b h = h
apart_longer v (c ∷ a) g o y b h = h

pub stop_right : {X : Type 0} (m : Meaning X) (at : ℕ) (w y : List ℕ) (f : Form X) (i : SpanStop) → IsStop m at w f i → IsStop m at (w ++ y) f i
stop_right m at w y f i h = record {
  front = h.front;
  spaces = h.spaces;
  begun = h.begun;
  byte = h.byte;
  others = h.others ++ y;
  split = ap (λ z. z ++ y) h.split ∙ (append_assoc h.front (h.spaces ++ (h.begun ++ (h.byte ∷ h.others))) y ∙ ap (λ z. h.front ++ z) (append_assoc h.spaces (h.begun ++ (h.byte ∷ h.others)) y
      ∙ ap (λ z. h.spaces ++ z) (append_assoc h.begun (h.byte ∷ h.others) y)));
  form = h.form;
  are_spaces = h.are_spaces;
  item = h.item;
  place = h.place;
  is_begun = h.is_begun;
  apart = apart_longer h.front h.spaces h.begun h.others y h.byte h.apart;
  dead = dead_right at w y i.place h.dead;
}

pushed_then : {X : Type 0} (m : Meaning X) (at : ℕ) (w y : List ℕ) (o : Pushed X) (more : Form X → Pushed X) → IsPushed m at w o → ((g : Form X) → IsForm m at w g → IsPushed m at (w ++ y) (more g))
    → IsPushed m at (w ++ y) (push_then more o)
pushed_then m at w y (further f) more h k = k f h
pushed_then m at w y (stopped f i) more h k = stop_right m at w y f i h

pub apart_last : (w a v r : List ℕ) (c : ℕ) (u : List ℕ) → v ≡ c ∷ u → are_apart v r ≡ true → are_apart (w ++ (a ++ v)) r ≡ true
apart_last w a v r c u e h = let f : ends_run (w ++ (a ++ v)) ≡ ends_run v = ap ends_run (sym (append_assoc w a v) ∙ ap (λ z. (w ++ a) ++ z) e) ∙ (ends_append (w ++ a) c u ∙ ap ends_run (sym e)) in
    ap (λ b. not (b && begins_run r)) f ∙ h

regroup : (w x a v r : List ℕ) → x ≡ a ++ (v ++ r) → (w ++ (a ++ v)) ++ r ≡ w ++ x
regroup w x a v r e = append_assoc w (a ++ v) r ∙ ap (λ z. w ++ z) (append_assoc a v r ∙ sym e)

apart_piece : (w x a v r : List ℕ) → x ≡ a ++ (v ++ r) → are_apart w x ≡ true → are_apart w (a ++ v) ≡ true
apart_piece w x a v r e h = apart_front w (a ++ v) r (ap (are_apart w) (append_assoc a v r ∙ sym e) ∙ h)

one_piece : {X : Type 0} (m : Meaning X) (at : ℕ) (a v : List ℕ) (p : Piece X) → AreSpaces a → IsPiece m (at + length a) v p → Formed m at (a ++ v) (p ∷ [])
one_piece m at a v p ha hp = (a, v, [], ap (λ z. a ++ z) (sym (append-nil v)), ha, hp, apart_nothing v, tt)

-- the pieces of a form, pushed behind another
pub push_all_ok : {X : Type 0} (m : Meaning X) (ps : List (Piece X)) (at : ℕ) (w x : List ℕ) (f : Form X) → IsForm m at w f → Formed m (at + length w) x ps → are_apart w x ≡ true → IsPushed m at (w ++ x) (push_all m ps f)
push_all_ok m [] at w x f h g ap1 = record { formed = subst (Formed m at (w ++ x)) (append-nil (pieces_of f)) (formed_append m at w x (pieces_of f) [] h.formed g ap1); levels = h.levels }
push_all_ok m (p ∷ ps) at w x f h (a, v, r, d, ha, hp, hap, hf) ap1 =
    let (c, u, e) = piece_first m (at + length w + length a) v p hp in
    let here : IsPushed m at (w ++ (a ++ v)) (push m f p) = push_ok m at (w ++ (a ++ v)) f p (formed_append m at w (a ++ v) (pieces_of f) (p ∷ []) h.formed (one_piece m (at + length w) a v p ha hp) (apart_piece w x a v r d ap1)) h.levels in
    subst (λ z. IsPushed m at z (push_then (push_all m ps) (push m f p))) (regroup w x a v r d)
    (pushed_then m at (w ++ (a ++ v)) r (push m f p) (push_all m ps) here
    (λ g k. push_all_ok m ps at (w ++ (a ++ v)) r g k (subst (λ n. Formed m n r ps) (sym (at_end3 at w a v)) hf) (apart_last w a v r c u e hap)))

-- ---- the merge

pub merged_ok : {X : Type 0} (m : Meaning X) (at : ℕ) (w x : List ℕ) (left right : Pushed X) → IsPushed m at w left → IsPushed m (at + length w) x right → end_of Out w ≡ Out → are_apart w x ≡ true → IsPushed m at (w ++ x) (merged m left right)
merged_ok m at w x (stopped f i) right h k out ap1 = stop_right m at w x f i h
merged_ok m at w x (further f) (further g) h k out ap1 = push_all_ok m (pieces_of g) at w x f h k.formed ap1
merged_ok m at w x (further f) (stopped g i) h k out ap1 =
    let behind : List ℕ = k.spaces ++ (k.begun ++ (k.byte ∷ k.others)) in
    let all : w ++ x ≡ (w ++ k.front) ++ behind = ap (λ z. w ++ z) k.split ∙ sym (append_assoc w k.front behind) in
    let ap2 : are_apart w (k.front ++ behind) ≡ true = ap (are_apart w) (sym k.split) ∙ ap1 in
    subst (λ z. IsPushed m at z (push_then (λ q. stopped q i) (push_all m (pieces_of g) f))) (sym all)
    (pushed_then m at (w ++ k.front) behind (push_all m (pieces_of g) f) (λ q. stopped q i)
    (push_all_ok m (pieces_of g) at w k.front f h k.form.formed (apart_front w k.front behind ap2))
    (λ q hq. record {
      front = w ++ k.front;
      spaces = k.spaces;
      begun = k.begun;
      byte = k.byte;
      others = k.others;
      split = refl;
      form = hq;
      are_spaces = k.are_spaces;
      item = k.item ∙ ap (λ n. n + length k.spaces) (at_end at w k.front);
      place = k.place;
      is_begun = k.is_begun;
      apart = apart_both w k.front behind ap2 k.apart;
      dead = subst (λ z. IsDeadHere at z i.place) all (dead_left at w x i.place out ap1 k.dead);
    }))
