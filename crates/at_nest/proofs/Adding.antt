-- An item of the span behind, put behind what is kept; and all of them.
-- For `finish`, `finish_span`, `merge` and `run_block`.
use Rattle.std.proofs.Common.{◌≡◌, ℕ, Option, List, [], ◌∷◌, ◌++◌, inl, inr, refl, sym, subst}
use Rattle.at_text.specs.declared.texts.Span.{Span}
use Rattle.at_lex.specs.Strings.{Character}
use Rattle.at_nest.specs.declared.pieces.Piece.{Piece as CodePiece}
use Rattle.at_nest.specs.declared.pieces.Piece.TheVariants.{Comma, Colon, Text}
use Rattle.at_nest.specs.declared.pieces.SpanStop.{SpanStop as CodeHalt}
use Rattle.at_nest.specs.Tree.{Tree, text}
use Rattle.at_nest.specs.Forms.{Meaning, Piece, mark, comma, colon, quoted}
use Rattle.at_nest.specs.Levels.{Level, Form, Pushed, further, stopped, push, push_mark, push_all, push_then}
use Rattle.at_nest.specs.Shown.{Held, Shown, AreOwn, show_as, comma_added, colon_added}
use Rattle.at_nest.specs.KeptItems.{free, Content, one, OwnAtom, EachHeld, EachPiece, AreRow, IsHeldPiece, IsShown, IsPushedAs, IsTextAt, IsPartOf, IsOfItems, CanAdd, Adds}
use Rattle.at_nest.proofs.Held.{held_own}
use Rattle.at_nest.proofs.Showing.{comma_pushes, colon_pushes}

-- what is kept without the innermost level stands for items too
pub without_innermost : {X : Type 0} (IsKept : X → Content → Type 0) (s : Shown X) (outer : List (CodePiece X)) (h : Held X) (hs : List (Held X)) → IsOfItems IsKept s → s.levels ≡ h ∷ hs → s.outer ≡ outer → IsOfItems IsKept (show_as outer hs)
without_innermost IsKept s outer h hs (base, w, f, k) e e2 = first f.levels (subst (λ z. EachHeld IsKept z f.levels) e k.1)
  where
    first : (ls : List (Level Tree)) → EachHeld IsKept (h ∷ hs) ls → IsOfItems IsKept (show_as outer hs)
    first [] u = absurd u
    first (l ∷ ls) u = (base, w, record { outer = f.outer; levels = ls }, (subst (λ z. EachPiece IsKept base w z f.outer) e2 k.0, u.1))

-- the innermost level's atoms are the algebra's own
pub innermost_own : {X : Type 0} (IsOwn : X → Type 0) (IsFold : X → Tree → Type 0) (IsRun : X → List Tree → Type 0) (s : Shown X) (h : Held X) (hs : List (Held X)) → IsOfItems (OwnAtom IsOwn IsFold IsRun) s → s.levels ≡ h ∷ hs → AreOwn IsOwn h
innermost_own IsOwn IsFold IsRun s h hs (base, w, f, k) e = first f.levels (subst (λ z. EachHeld (OwnAtom IsOwn IsFold IsRun) z f.levels) e k.1)
  where
    first : (ls : List (Level Tree)) → EachHeld (OwnAtom IsOwn IsFold IsRun) (h ∷ hs) ls → AreOwn IsOwn h
    first [] u = absurd u
    first (l ∷ ls) u = held_own IsOwn IsFold IsRun h l u.0

-- one item, pushed alone
pub push_one : {X : Type 0} (IsKept : X → Content → Type 0) (base : ℕ) (w : List ℕ) (new : Shown X) (r : Option CodeHalt) (o : Pushed Tree) → IsPushedAs IsKept base w new r o → IsPushedAs IsKept base w new r (push_then (push_all free []) o)
push_one IsKept base w new r (further f) h = h
push_one IsKept base w new r (stopped f i) h = h

module _ {X : Type 0} (IsKept : X → Content → Type 0) where
  adds_one : (bytes : List ℕ) (old : Shown X) (c : CodePiece X) (new : Shown X) (r : Option CodeHalt)
      → ((base : ℕ) (w : List ℕ) (f : Form Tree) (p : Piece Tree) → IsPartOf bytes base w → IsShown IsKept base w old f → IsHeldPiece IsKept base w c p → IsPushedAs IsKept base w new r (push free f p))
      → ((base : ℕ) (w : List ℕ) (ps : List (Piece Tree)) → AreRow IsKept base w c ps → ⊥) → Adds IsKept bytes old c new r
  adds_one bytes old c new r pushes none base w f ps part h (inl (p, e, k)) = subst (λ z. IsPushedAs IsKept base w new r (push_all free z f)) (sym e) (push_one IsKept base w new r (push free f p) (pushes base w f p part h k))
  adds_one bytes old c new r pushes none base w f ps part h (inr k) = absurd (none base w ps k)

  pub adds_comma : (bytes : List ℕ) (old : Shown X) (c : CodePiece X) (new : Shown X) (r : Option CodeHalt) (i : ℕ) → c ≡ Comma i → (new, r) ≡ comma_added i old.outer old.levels → Adds IsKept bytes old c new r
  adds_comma bytes old c new r i e d = adds_one bytes old c new r (λ base w f p part h k. by_piece base w f h p (subst (λ z. IsHeldPiece IsKept base w z p) e k)) (λ base w ps k. subst (λ z. AreRow IsKept base w z ps) e k)
    where
      by_piece : (base : ℕ) (w : List ℕ) (f : Form Tree) → IsShown IsKept base w old f → (p : Piece Tree) → IsHeldPiece IsKept base w (Comma i) p → IsPushedAs IsKept base w new r (push free f p)
      by_piece base w f h (mark (comma j)) u = subst (λ n. IsPushedAs IsKept base w new r (push_mark f.outer f.levels (comma n))) u
          (subst (λ a. IsPushedAs IsKept base w a.0 a.1 (push_mark f.outer f.levels (comma i))) (sym d) (comma_pushes IsKept base w old.outer old.levels f.outer f.levels i h.0 h.1))
      by_piece base w f h _ u = absurd u

  pub adds_colon : (bytes : List ℕ) (old : Shown X) (c : CodePiece X) (new : Shown X) (r : Option CodeHalt) (i : ℕ) → c ≡ Colon i → (new, r) ≡ colon_added i old.outer old.levels → Adds IsKept bytes old c new r
  adds_colon bytes old c new r i e d = adds_one bytes old c new r (λ base w f p part h k. by_piece base w f h p (subst (λ z. IsHeldPiece IsKept base w z p) e k)) (λ base w ps k. subst (λ z. AreRow IsKept base w z ps) e k)
    where
      by_piece : (base : ℕ) (w : List ℕ) (f : Form Tree) → IsShown IsKept base w old f → (p : Piece Tree) → IsHeldPiece IsKept base w (Colon i) p → IsPushedAs IsKept base w new r (push free f p)
      by_piece base w f h (mark (colon j)) u = subst (λ n. IsPushedAs IsKept base w new r (push_mark f.outer f.levels (colon n))) u
          (subst (λ a. IsPushedAs IsKept base w a.0 a.1 (push_mark f.outer f.levels (colon i))) (sym d) (colon_pushes IsKept base w old.outer old.levels f.outer f.levels i h.0 h.1))
      by_piece base w f h _ u = absurd u

  -- a string
  pub adds_text : (bytes : List ℕ) (old new : Shown X) (r : Option CodeHalt) (span : Span) (x : X)
      → ((base : ℕ) (w : List ℕ) (f : Form Tree) (cs : List Character) → IsPartOf bytes base w → IsShown IsKept base w old f → IsTextAt base w span cs → IsKept x (one (text span.from cs)) → IsPushedAs IsKept base w new r (push free f (mark (quoted span.from cs))))
      → Adds IsKept bytes old (Text span x) new r
  adds_text bytes old new r span x pushes = adds_one bytes old (Text span x) new r by_piece (λ base w ps k. k)
    where
      by_piece : (base : ℕ) (w : List ℕ) (f : Form Tree) (p : Piece Tree) → IsPartOf bytes base w → IsShown IsKept base w old f → IsHeldPiece IsKept base w (Text span x) p → IsPushedAs IsKept base w new r (push free f p)
      by_piece base w f (mark (quoted j cs)) part h k = subst (λ n. IsPushedAs IsKept base w new r (push free f (mark (quoted n cs)))) k.0 (pushes base w f cs part h k.1 (subst (λ n. IsKept x (one (text n cs))) (sym k.0) k.2))
      by_piece base w f _ part h k = absurd k

  -- the string that is to be put
  pub record HasText (bytes : List ℕ) (span : Span) : Type 0 where
    pub base : ℕ
    pub w : List ℕ
    pub cs : List Character
    pub part : IsPartOf bytes base w
    pub at : IsTextAt base w span cs

  pub has_text : (bytes : List ℕ) (old : Shown X) (span : Span) (x : X) → CanAdd IsKept bytes old (Text span x) → HasText bytes span
  has_text bytes old span x (base, w, f, ps, part, h, inl (p, e, k)) = by_piece p k
    where
      by_piece : (p : Piece Tree) → IsHeldPiece IsKept base w (Text span x) p → HasText bytes span
      by_piece (mark (quoted j cs)) u = record { base = base; w = w; cs = cs; part = part; at = u.1 }
      by_piece _ u = absurd u
  has_text bytes old span x (base, w, f, ps, part, h, inr k) = absurd k

  -- what can be put can be put behind items
  pub some_items : (bytes : List ℕ) (old : Shown X) (c : CodePiece X) → CanAdd IsKept bytes old c → IsOfItems IsKept old
  some_items bytes old c (base, w, f, ps, part, h, k) = (base, w, f, h)

-- ---- pieces in a row

then_append : {X : Type 0} (m : Meaning X) (ps qs : List (Piece X)) (o : Pushed X) → ((g : Form X) → push_all m (ps ++ qs) g ≡ push_then (push_all m qs) (push_all m ps g)) → push_then (push_all m (ps ++ qs)) o ≡ push_then (push_all m qs) (push_then (push_all m ps) o)
then_append m ps qs (further g) h = h g
then_append m ps qs (stopped g i) h = refl

pub push_all_append : {X : Type 0} (m : Meaning X) (ps qs : List (Piece X)) (f : Form X) → push_all m (ps ++ qs) f ≡ push_then (push_all m qs) (push_all m ps f)
push_all_append m [] qs f = refl
push_all_append m (p ∷ ps) qs f = then_append m ps qs (push m f p) (λ g. push_all_append m ps qs g)
