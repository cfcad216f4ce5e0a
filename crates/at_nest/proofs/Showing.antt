-- What an item does to all that is kept of a span, and to the form that it stands for.
-- For `finish`, `finish_span`, `merge` and `run_block`.
use Rattle.std.proofs.Common.{◌≡◌, ℕ, ◌-◌, true, false, Option, Some, None, List, [], ◌∷◌, ◌++◌, inl, refl, sym, ◌∙◌, ap, subst, arith, append_assoc, append-nil, length, length-append, take, drop}
use Rattle.std.proofs.Math.Seq.{take-append_seam, drop-append_seam}
use Rattle.at_text.specs.declared.texts.Span.{Span}
use Rattle.at_lex.specs.Strings.{Character, string_text}
use Rattle.at_lex.specs.declared.tokens.Bracket.{Bracket}
use Rattle.at_nest.specs.declared.levels.Open.{Open}
use Rattle.at_nest.specs.declared.pieces.Piece.{Piece as CodePiece}
use Rattle.at_nest.specs.declared.pieces.Piece.TheVariants.{Comma, Colon, Text, Value}
use Rattle.at_nest.specs.declared.pieces.SpanStop.{SpanStop as CodeHalt}
use Rattle.at_nest.specs.Tree.{Tree, text}
use Rattle.at_nest.specs.Forms.{Mark, Piece, opens, closes, mark, comma, colon, quoted, entry}
use Rattle.at_nest.specs.Walks.{mark_kind, mark_at}
use Rattle.at_nest.specs.Levels.{Mode, Level, Form, built, move, with_mark, push_mark, push_close, close_level, push, push_all, push_then, Pushed, further, stopped}
use Rattle.at_nest.specs.Shown.{Held, Shown, Added, helds_of, open_levels, show_as, put_back, kept_outside, comma_added, colon_added, comma_next, colon_next, value_next, closes_with, from_of, opened_as, stop_at}
use Rattle.at_nest.specs.KeptItems.{free, Content, one, IsHeld, GainsIn, PushesValue, EachHeld, EachPiece, ArePieces, IsHeldPiece, IsShown, IsPushedAs, IsTextAt, IsPartOf}
use Rattle.at_nest.proofs.Held.{IsMoved, comma_moves, colon_moves, value_moves, closes_same, held_from, opened_is}

pub open_last : {X : Type 0} (os : List (Open X)) (o : Open X) → open_levels (os ++ o ∷ []) ≡ helds_of o ++ open_levels os
open_last [] o = sym (append-nil (helds_of o))
open_last (k ∷ os) o = ap (λ z. z ++ helds_of k) (open_last os o) ∙ append_assoc (helds_of o) (open_levels os) (helds_of k)

-- open levels of a list of which a second one is put behind
pub open_append : {X : Type 0} (xs ys : List (Open X)) → open_levels (xs ++ ys) ≡ open_levels ys ++ open_levels xs
open_append [] ys = sym (append-nil (open_levels ys))
open_append (x ∷ xs) ys = ap (λ z. z ++ helds_of x) (open_append xs ys) ∙ append_assoc (open_levels ys) (open_levels xs) (helds_of x)

module _ {X : Type 0} (IsKept : X → Content → Type 0) (base : ℕ) (w : List ℕ) where
  -- one thing more that is kept, and the items that it stands for
  pub pieces_append : (cs : List (CodePiece X)) (ps : List (Piece Tree)) (c : CodePiece X) (us : List (Piece Tree)) → EachPiece IsKept base w cs ps → ArePieces IsKept base w c us → EachPiece IsKept base w (cs ++ c ∷ []) (ps ++ us)
  pieces_append [] ps c us h k = (us, [], ap (λ z. z ++ us) h ∙ sym (append-nil us), k, refl)
  pieces_append (d ∷ cs) ps c us (vs, ws, e, h, hs) k = (vs, ws ++ us, ap (λ z. z ++ us) e ∙ append_assoc vs ws us, h, pieces_append cs ws c us hs k)

  pub piece_append : (cs : List (CodePiece X)) (ps : List (Piece Tree)) (c : CodePiece X) (p : Piece Tree) → EachPiece IsKept base w cs ps → IsHeldPiece IsKept base w c p → EachPiece IsKept base w (cs ++ c ∷ []) (ps ++ p ∷ [])
  piece_append cs ps c p h k = pieces_append cs ps c (p ∷ []) h (inl (p, refl, k))

  -- the items for which the last of what is kept stands
  pub pieces_cut : (cs : List (CodePiece X)) (c : CodePiece X) (ps : List (Piece Tree)) → EachPiece IsKept base w (cs ++ c ∷ []) ps → (us : List (Piece Tree)) × (vs : List (Piece Tree)) × (ps ≡ us ++ vs) × EachPiece IsKept base w cs us × ArePieces IsKept base w c vs
  pieces_cut [] c ps (us, vs, e, h, n) = ([], us, e ∙ (ap (λ z. us ++ z) n ∙ append-nil us), refl, h)
  pieces_cut (d ∷ cs) c ps (us, vs, e, h, hs) = let r = pieces_cut cs c vs hs in (us ++ r.0, r.1, e ∙ (ap (λ z. us ++ z) r.2 ∙ sym (append_assoc us r.0 r.1)), (us, r.0, refl, h, r.3), r.4)

  -- a mark, put into the innermost level
  put_pushes : (outer : List (CodePiece X)) (fo : List (Piece Tree)) (hs : List (Held X)) (ls : List (Level Tree)) (h : Held X) (l : Level Tree) (x : Mark Tree) (o : Option (Held X)) (n : Option Mode) → EachPiece IsKept base w outer fo
      → EachHeld IsKept hs ls → IsHeld IsKept h l → IsMoved IsKept o n l x → IsPushedAs IsKept base w (put_back outer hs (mark_at x) h o).0 (put_back outer hs (mark_at x) h o).1 (with_mark fo ls l x n)
  put_pushes outer fo hs ls h l x (Some k) (Some n) ho hl hh m = (ho, (m, hl))
  put_pushes outer fo hs ls h l x None None ho hl hh m = ((ho, (hh, hl)), refl)
  put_pushes outer fo hs ls h l x _ _ ho hl hh m = absurd m

  pub comma_pushes : (outer : List (CodePiece X)) (hs : List (Held X)) (fo : List (Piece Tree)) (ls : List (Level Tree)) (i : ℕ) → EachPiece IsKept base w outer fo → EachHeld IsKept hs ls
      → IsPushedAs IsKept base w (comma_added i outer hs).0 (comma_added i outer hs).1 (push_mark fo ls (comma i))
  comma_pushes outer [] fo [] i ho hl = (piece_append outer fo (Comma i) (mark (comma i)) ho refl, tt)
  comma_pushes outer (h ∷ hs) fo (l ∷ ls) i ho hl = put_pushes outer fo hs ls h l (comma i) (comma_next h) (move l.mode (mark_kind {X = Tree} (comma i))) ho hl.1 hl.0 (comma_moves IsKept h l i hl.0)
  comma_pushes outer _ fo _ i ho hl = absurd hl

  pub colon_pushes : (outer : List (CodePiece X)) (hs : List (Held X)) (fo : List (Piece Tree)) (ls : List (Level Tree)) (i : ℕ) → EachPiece IsKept base w outer fo → EachHeld IsKept hs ls
      → IsPushedAs IsKept base w (colon_added i outer hs).0 (colon_added i outer hs).1 (push_mark fo ls (colon i))
  colon_pushes outer [] fo [] i ho hl = (piece_append outer fo (Colon i) (mark (colon i)) ho refl, tt)
  colon_pushes outer (h ∷ hs) fo (l ∷ ls) i ho hl = put_pushes outer fo hs ls h l (colon i) (colon_next h) (move l.mode (mark_kind {X = Tree} (colon i))) ho hl.1 hl.0 (colon_moves IsKept h l i hl.0)
  colon_pushes outer _ fo _ i ho hl = absurd hl

  -- one item pushed alone
  pub only_one : (new : Shown X) (r : Option CodeHalt) (o : Pushed Tree) → IsPushedAs IsKept base w new r (push_then (push_all free []) o) → IsPushedAs IsKept base w new r o
  only_one new r (further g) h = h
  only_one new r (stopped g i) h = h

  -- items put behind what stands before the first open level, where none is open
  pub outside_pushes : (old new : Shown X) (r : Option CodeHalt) (outer : List (CodePiece X)) (f : Form Tree) (ps : List (Piece Tree)) → old.levels ≡ [] → EachHeld IsKept old.levels f.levels → ◌≡◌ {A = Added X} (new, r) (show_as outer [], None)
      → push_all free ps (record { outer = f.outer; levels = [] }) ≡ further (record { outer = f.outer ++ ps; levels = [] }) → EachPiece IsKept base w outer (f.outer ++ ps) → IsPushedAs IsKept base w new r (push_all free ps f)
  outside_pushes old new r outer f ps e h d pushed k = subst (λ a. IsPushedAs IsKept base w a.0 a.1 (push_all free ps f)) (sym d) (here f.levels (subst (λ z. EachHeld IsKept z f.levels) e h))
    where
      here : (ls : List (Level Tree)) → EachHeld IsKept [] ls → IsPushedAs IsKept base w (show_as outer []) None (push_all free ps (record { outer = f.outer; levels = ls }))
      here [] u = subst (IsPushedAs IsKept base w (show_as outer []) None) (sym pushed) (k, tt)
      here (l ∷ ls) u = absurd u

  -- a mark before the first open level
  mark_outside : (old : Shown X) (outer : List (CodePiece X)) (new : Shown X) (r : Option CodeHalt) (c : CodePiece X) (x : Mark Tree) (f : Form Tree) → old.levels ≡ [] → old.outer ≡ outer → (new, r) ≡ kept_outside outer c → IsShown IsKept base w old f → IsHeldPiece IsKept base w c (mark x)
      → IsPushedAs IsKept base w new r (push free f (mark x))
  mark_outside old outer new r c x f e e2 d h k = only_one new r (push free f (mark x)) (outside_pushes old new r (outer ++ c ∷ []) f (mark x ∷ []) e h.1 d refl (piece_append outer f.outer c (mark x) (subst (λ z. EachPiece IsKept base w z f.outer) e2 h.0) k))

  -- a mark put into the innermost level
  mark_put : (old : Shown X) (outer : List (CodePiece X)) (hs : List (Held X)) (new : Shown X) (r : Option CodeHalt) (h : Held X) (x : Mark Tree) (o : Option (Held X)) (f : Form Tree) → old.levels ≡ h ∷ hs → old.outer ≡ outer → (new, r) ≡ put_back outer hs (mark_at x) h o
      → IsShown IsKept base w old f → ((l : Level Tree) → IsHeld IsKept h l → IsMoved IsKept o (move l.mode (mark_kind x)) l x) → IsPushedAs IsKept base w new r (push free f (mark x))
  mark_put old outer hs new r h x o f e e2 d k moves = subst (λ a. IsPushedAs IsKept base w a.0 a.1 (push free f (mark x))) (sym d) (here f.levels (subst (λ z. EachHeld IsKept z f.levels) e k.1))
    where
      here : (ls : List (Level Tree)) → EachHeld IsKept (h ∷ hs) ls → IsPushedAs IsKept base w (put_back outer hs (mark_at x) h o).0 (put_back outer hs (mark_at x) h o).1 (push_mark f.outer ls x)
      here [] u = absurd u
      here (l ∷ ls) u = put_pushes outer f.outer hs ls h l x o (move l.mode (mark_kind x)) (subst (λ z. EachPiece IsKept base w z f.outer) e2 k.0) u.1 u.0 (moves l u.0)

  -- a value that is no string, before the first open level
  pub value_outside : (old : Shown X) (outer : List (CodePiece X)) (new : Shown X) (r : Option CodeHalt) (i : ℕ) (x : X) (t : Tree) (f : Form Tree) → old.levels ≡ [] → old.outer ≡ outer → (new, r) ≡ kept_outside outer (Value i x) → IsShown IsKept base w old f → IsKept x (one t)
      → IsPushedAs IsKept base w new r (push free f (mark (entry i t)))
  value_outside old outer new r i x t f e e2 d h k = mark_outside old outer new r (Value i x) (entry i t) f e e2 d h (refl, k)

  -- a value put into the innermost level
  pub value_put : (old : Shown X) (outer : List (CodePiece X)) (hs : List (Held X)) (new : Shown X) (r : Option CodeHalt) (h : Held X) (i : ℕ) (x : X) (ys : List X) (t : Tree) (f : Form Tree) → old.levels ≡ h ∷ hs → old.outer ≡ outer → (new, r) ≡ put_back outer hs i h (value_next h x ys)
      → GainsIn IsKept h x ys → IsShown IsKept base w old f → IsKept x (one t) → IsPushedAs IsKept base w new r (push free f (mark (entry i t)))
  value_put old outer hs new r h i x ys t f e e2 d more k own = mark_put old outer hs new r h (entry i t) (value_next h x ys) f e e2 d k (λ l u. value_moves IsKept h l i x ys t u own more)

  -- a string before the first open level
  pub text_outside : (old : Shown X) (outer : List (CodePiece X)) (new : Shown X) (r : Option CodeHalt) (span : Span) (cs : List Character) (x : X) (f : Form Tree) → old.levels ≡ [] → old.outer ≡ outer → (new, r) ≡ kept_outside outer (Text span x) → IsShown IsKept base w old f → IsTextAt base w span cs
      → IsKept x (one (text span.from cs)) → IsPushedAs IsKept base w new r (push free f (mark (quoted span.from cs)))
  text_outside old outer new r span cs x f e e2 d h t k = mark_outside old outer new r (Text span x) (quoted span.from cs) f e e2 d h (refl, t, k)

  -- a string put into the innermost level
  pub text_put : (old : Shown X) (outer : List (CodePiece X)) (hs : List (Held X)) (new : Shown X) (r : Option CodeHalt) (h : Held X) (i : ℕ) (o : Option (Held X)) (cs : List Character) (f : Form Tree) → old.levels ≡ h ∷ hs → old.outer ≡ outer → (new, r) ≡ put_back outer hs i h o
      → IsShown IsKept base w old f → ((l : Level Tree) → IsHeld IsKept h l → IsMoved IsKept o (move l.mode (mark_kind {X = Tree} (quoted i cs))) l (quoted i cs)) → IsPushedAs IsKept base w new r (push free f (mark (quoted i cs)))
  text_put old outer hs new r h i o cs f e e2 d k moves = mark_put old outer hs new r h (quoted i cs) o f e e2 d k moves

  -- a closing bracket before the first open level
  -- one that may not stand where it does
  pub close_refused : (old : Shown X) (outer : List (CodePiece X)) (hs : List (Held X)) (new : Shown X) (r : Option CodeHalt) (h : Held X) (b : Bracket) (i : ℕ) (f : Form Tree) → old.levels ≡ h ∷ hs → old.outer ≡ outer → closes_with h b ≡ false → (new, r) ≡ put_back outer hs i h None
      → IsShown IsKept base w old f → IsPushedAs IsKept base w new r (push free f (closes b i))
  close_refused old outer hs new r h b i f e e2 n d k = subst (λ a. IsPushedAs IsKept base w a.0 a.1 (push free f (closes b i))) (sym d) (here f.levels (subst (λ z. EachHeld IsKept z f.levels) e k.1))
    where
      here : (ls : List (Level Tree)) → EachHeld IsKept (h ∷ hs) ls → IsPushedAs IsKept base w (show_as outer (h ∷ hs)) (Some (stop_at i)) (push_close free f.outer ls b i)
      here [] u = absurd u
      here (l ∷ ls) u = subst (λ z. IsPushedAs IsKept base w (show_as outer (h ∷ hs)) (Some (stop_at i)) (close_level free f.outer ls l i z)) (sym n ∙ closes_same IsKept h l b u.0) ((subst (λ z. EachPiece IsKept base w z f.outer) e2 k.0, u), refl)

  -- one that closes the innermost level, which has become an atom
  pub close_closes : (old : Shown X) (outer : List (CodePiece X)) (hs : List (Held X)) (new : Shown X) (r : Option CodeHalt) (h : Held X) (b : Bracket) (i : ℕ) (x : X) (f : Form Tree) → old.levels ≡ h ∷ hs → old.outer ≡ outer → closes_with h b ≡ true
      → PushesValue IsKept (show_as outer hs) new r (from_of h) x → IsShown IsKept base w old f → ((l : Level Tree) → IsHeld IsKept h l → IsKept x (one (built free l.bracket l.from l.inside))) → IsPushedAs IsKept base w new r (push free f (closes b i))
  close_closes old outer hs new r h b i x f e e2 n pushes k folds = here f.levels (subst (λ z. EachHeld IsKept z f.levels) e k.1)
    where
      here : (ls : List (Level Tree)) → EachHeld IsKept (h ∷ hs) ls → IsPushedAs IsKept base w new r (push_close free f.outer ls b i)
      here [] u = absurd u
      here (l ∷ ls) u = subst (λ z. IsPushedAs IsKept base w new r (close_level free f.outer ls l i z)) (sym n ∙ closes_same IsKept h l b u.0)
          (subst (λ j. IsPushedAs IsKept base w new r (push_mark f.outer ls (entry j (built free l.bracket l.from l.inside)))) (sym (held_from IsKept h l u.0))
          (pushes base w (record { outer = f.outer; levels = ls }) (built free l.bracket l.from l.inside) (subst (λ z. EachPiece IsKept base w z f.outer) e2 k.0, u.1) (folds l u.0)))

  -- an opening bracket
  pub open_pushes : (old new : Shown X) (b : Bracket) (i : ℕ) (f : Form Tree) → new ≡ show_as old.outer (opened_as b i ∷ old.levels) → IsShown IsKept base w old f → IsPushedAs IsKept base w new None (push free f (opens b i))
  open_pushes old new b i f e h = subst (λ z. IsPushedAs IsKept base w z None (push free f (opens b i))) (sym e) (h.0, (opened_is IsKept b i, h.1))

-- the bytes of a string that a span of all bytes has
pub text_bytes : (bytes : List ℕ) (base : ℕ) (w : List ℕ) (span : Span) (cs : List Character) → IsPartOf bytes base w → IsTextAt base w span cs → take (span.to - span.from) (drop span.from bytes) ≡ string_text cs
text_bytes bytes base w span cs (y, z, e, b) (ok, a, q, d, i, j) =
    let whole : bytes ≡ (y ++ a) ++ (string_text cs ++ (q ++ z)) = e ∙ (ap (λ v. y ++ (v ++ z)) d ∙ (ap (λ v. y ++ v) (append_assoc a (string_text cs ++ q) z ∙ ap (λ v. a ++ v) (append_assoc (string_text cs) q z)) ∙ sym (append_assoc y a (string_text cs ++ (q ++ z))))) in
    let at : span.from ≡ length (y ++ a) = omega (arith, i, b, length-append y a) in
    let size : span.to - span.from ≡ length (string_text cs) = omega (arith, j) in
    ap (λ n. take n (drop span.from bytes)) size ∙ (ap (λ v. take (length (string_text cs)) v) (ap (λ n. drop n bytes) at ∙ (ap (drop (length (y ++ a))) whole ∙ drop-append_seam (y ++ a) (string_text cs ++ (q ++ z)))) ∙ take-append_seam (string_text cs) (q ++ z))
