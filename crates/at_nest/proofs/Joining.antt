-- All items of the span behind, put behind what is kept.
-- For `finish`, `finish_span`, `merge` and `run_block`.
use Rattle.std.proofs.Common.{◌≡◌, ℕ, Option, Some, None, List, [], ◌∷◌, ◌++◌, true, false, true≢false, is_some, refl, sym, ◌∙◌, ap, subst, append_assoc, append-nil, arith, length}
use Rattle.std.proofs.lemmas.Option.{same_Some, option_and_then_some}
use Rattle.std.specs.Vec.Iter.{into_iter_items, into_iter_steps}
use Rattle.std.specs.declared.vec.IntoIter.{IntoIter}
use Rattle.std.specs.Iterator.{Yields}
use Rattle.at_nest.specs.declared.pieces.Piece.{Piece as CodePiece}
use Rattle.at_nest.specs.declared.pieces.SpanStop.{SpanStop as CodeHalt}
use Rattle.at_lex.specs.declared.tokens.Bracket.{Bracket}
use Rattle.at_nest.specs.Tree.{Tree}
use Rattle.at_nest.specs.Forms.{Mark, Piece, opens}
use Rattle.at_nest.specs.Walks.{mark_kind}
use Rattle.at_nest.specs.Levels.{Mode, Level, Form, marks, opened, pieces_of, Pushed, further, stopped, move, moves, first_mode, push_all, push_then, with_mark}
use Rattle.at_nest.specs.Stops.{AreLevels}
use Rattle.at_nest.specs.Shown.{Held, Shown, show_as}
use Rattle.at_nest.specs.KeptItems.{Content, free, EachHeld, EachPiece, ArePieces, IsShown, IsPushedAs, IsPartOf, CanAdd, Adds, CanJoin, Joins}
use Rattle.at_nest.proofs.Adding.{push_all_append}

-- what the iterator of a vector has given is a front of its items
pub taken_front : {X A : Type 0} (s : IntoIter X A) (xs : List X) (t : IntoIter X A) → Yields into_iter_steps s xs t → into_iter_items s ≡ xs ++ into_iter_items t
taken_front s [] t y = ap into_iter_items y
taken_front s (x ∷ xs) t y = y.1.0 ∙ ap (λ ys. x ∷ ys) (taken_front y.0 xs t y.2)

-- ---- open levels, pushed as they are

pub push_marks : (xs ys : List (Mark Tree)) (b : Bracket) (i : ℕ) (md n : Mode) (fo : List (Piece Tree)) (ls : List (Level Tree)) → moves md xs ≡ Some n
    → push_all free (marks xs) (record { outer = fo; levels = record { bracket = b; from = i; inside = ys; mode = md } ∷ ls }) ≡ further (record { outer = fo; levels = record { bracket = b; from = i; inside = ys ++ xs; mode = n } ∷ ls })
push_marks [] ys b i md n fo ls e = ap (λ z. further (record { outer = fo; levels = record { bracket = b; from = i; inside = ys; mode = z } ∷ ls })) (same_Some md n e)
    ∙ ap (λ z. further (record { outer = fo; levels = record { bracket = b; from = i; inside = z; mode = n } ∷ ls })) (sym (append-nil ys))
push_marks (x ∷ xs) ys b i md n fo ls e = option_and_then_some (λ z. moves z xs) (move md (mark_kind x)) n e
    (λ q f h. ap (λ o. push_then (push_all free (marks xs)) (with_mark fo ls (record { bracket = b; from = i; inside = ys; mode = md }) x o)) f
    ∙ (push_marks xs (ys ++ x ∷ []) b i q n fo ls h ∙ ap (λ z. further (record { outer = fo; levels = record { bracket = b; from = i; inside = z; mode = n } ∷ ls })) (append_assoc ys (x ∷ []) xs)))

pub push_opened : (ls : List (Level Tree)) (fo : List (Piece Tree)) (fl : List (Level Tree)) → AreLevels ls → push_all free (opened ls) (record { outer = fo; levels = fl }) ≡ further (record { outer = fo; levels = ls ++ fl })
push_opened [] fo fl h = refl
push_opened (l ∷ ls) fo fl h = push_all_append free (opened ls) (opens l.bracket l.from ∷ marks l.inside) (record { outer = fo; levels = fl })
    ∙ (ap (push_then (push_all free (opens l.bracket l.from ∷ marks l.inside))) (push_opened ls fo fl h.1)
    ∙ push_marks l.inside [] l.bracket l.from (first_mode l.bracket) l.mode fo (ls ++ fl) h.0)

module _ {X : Type 0} (IsKept : X → Content → Type 0) where
  held_append : (hs : List (Held X)) (ls : List (Level Tree)) (gs : List (Held X)) (ks : List (Level Tree)) → EachHeld IsKept hs ls → EachHeld IsKept gs ks → EachHeld IsKept (hs ++ gs) (ls ++ ks)
  held_append [] [] gs ks h k = k
  held_append (x ∷ hs) (l ∷ ls) gs ks h k = (h.0, held_append hs ls gs ks h.1 k)
  held_append _ _ gs ks h k = absurd h

  -- the pieces so far were all pushed
  abbrev pub SoFar : List ℕ → Shown X → List (CodePiece X) → Shown X → Type 0
  SoFar bytes old cs new = (base : ℕ) (w : List ℕ) (f : Form Tree) (ps : List (Piece Tree)) → IsPartOf bytes base w → IsShown IsKept base w old f → EachPiece IsKept base w cs ps
      → (k : Form Tree) × (push_all free ps f ≡ further k) × IsShown IsKept base w new k

  -- the pieces of a front, of what stands behind it, and of the rest
  record HasCut (base : ℕ) (w : List ℕ) (ys : List (CodePiece X)) (x : CodePiece X) (zs : List (CodePiece X)) (ps : List (Piece Tree)) : Type 0 where
    front : List (Piece Tree)
    here : List (Piece Tree)
    rest : List (Piece Tree)
    split : ps ≡ front ++ (here ++ rest)
    are_front : EachPiece IsKept base w ys front
    is_here : ArePieces IsKept base w x here
    are_rest : EachPiece IsKept base w zs rest

  cut : (base : ℕ) (w : List ℕ) (ys : List (CodePiece X)) (x : CodePiece X) (zs : List (CodePiece X)) (ps : List (Piece Tree)) → EachPiece IsKept base w (ys ++ (x ∷ zs)) ps → HasCut base w ys x zs ps
  cut base w [] x zs ps (us, vs, e, h, hs) = record { front = []; here = us; rest = vs; split = e; are_front = refl; is_here = h; are_rest = hs }
  cut base w (y ∷ ys) x zs ps (us, vs, e, h, hs) = let r : HasCut base w ys x zs vs = cut base w ys x zs vs hs in
      record { front = us ++ r.front; here = r.here; rest = r.rest; split = e ∙ (ap (λ z. us ++ z) r.split ∙ sym (append_assoc us r.front (r.here ++ r.rest))); are_front = (us, r.front, refl, h, r.are_front); is_here = r.is_here; are_rest = r.are_rest }

  pub can_add : (bytes : List ℕ) (old behind new : Shown X) (ys : List (CodePiece X)) (x : CodePiece X) (zs : List (CodePiece X)) → CanJoin IsKept bytes old behind → behind.outer ≡ ys ++ (x ∷ zs) → SoFar bytes old ys new → CanAdd IsKept bytes new x
  can_add bytes old behind new ys x zs (base, w, f, g, part, hf, hg) e so =
      let c : HasCut base w ys x zs g.outer = cut base w ys x zs g.outer (subst (λ z. EachPiece IsKept base w z g.outer) e hg.0) in
      let k = so base w f c.front part hf c.are_front in (base, w, k.0, c.here, part, k.2, c.is_here)

  -- a step on: nothing stops
  pub went_on : (base : ℕ) (w : List ℕ) (new : Shown X) (o : Pushed Tree) → IsPushedAs IsKept base w new None o → (k : Form Tree) × (o ≡ further k) × IsShown IsKept base w new k
  went_on base w new (further k) h = (k, refl, h)
  went_on base w new (stopped k i) h = absurd h

  pub did_stop : (base : ℕ) (w : List ℕ) (new : Shown X) (r : CodeHalt) (o : Pushed Tree) (more : Form Tree → Pushed Tree) → IsPushedAs IsKept base w new (Some r) o → IsPushedAs IsKept base w new (Some r) (push_then more o)
  did_stop base w new r (further k) more h = absurd h
  did_stop base w new r (stopped k i) more h = h

  pub so_far_on : (bytes : List ℕ) (old new new2 : Shown X) (ys : List (CodePiece X)) (x : CodePiece X) → SoFar bytes old ys new → Adds IsKept bytes new x new2 None → SoFar bytes old (ys ++ x ∷ []) new2
  so_far_on bytes old new new2 ys x so adds base w f ps part hf hps =
      let c : HasCut base w ys x [] ps = cut base w ys x [] ps hps in
      let k = so base w f c.front part hf c.are_front in
      let n = went_on base w new2 (push_all free c.here k.0) (adds base w k.0 c.here part k.2 c.is_here) in
      (n.0, by_rest f ps c.front c.here c.rest c.split c.are_rest k.0 k.1 n.0 n.1, n.2)
    where
      by_rest : (f : Form Tree) (ps front here rest : List (Piece Tree)) → ps ≡ front ++ (here ++ rest) → rest ≡ [] → (k : Form Tree) → push_all free front f ≡ further k
          → (n : Form Tree) → push_all free here k ≡ further n → push_all free ps f ≡ further n
      by_rest f ps front here rest e u k ek n en = ap (λ z. push_all free z f) (e ∙ ap (λ z. front ++ z) (ap (λ z. here ++ z) u ∙ append-nil here)) ∙ (push_all_append free front here f ∙ (ap (push_then (push_all free here)) ek ∙ en))

  pub joins_stop : (bytes : List ℕ) (old behind new new2 : Shown X) (ys : List (CodePiece X)) (x : CodePiece X) (zs : List (CodePiece X)) (r : CodeHalt) → behind.outer ≡ ys ++ (x ∷ zs) → SoFar bytes old ys new → Adds IsKept bytes new x new2 (Some r)
      → Joins IsKept bytes old behind new2 (Some r)
  joins_stop bytes old behind new new2 ys x zs r e so adds base w f g part hf hg levels =
      let c : HasCut base w ys x zs g.outer = cut base w ys x zs g.outer (subst (λ z. EachPiece IsKept base w z g.outer) e hg.0) in
      let k = so base w f c.front part hf c.are_front in
      let all : pieces_of g ≡ c.front ++ (c.here ++ (c.rest ++ opened g.levels)) = ap (λ z. z ++ opened g.levels) c.split ∙ (append_assoc c.front (c.here ++ c.rest) (opened g.levels) ∙ ap (λ z. c.front ++ z) (append_assoc c.here c.rest (opened g.levels))) in
      let walk : push_all free (pieces_of g) f ≡ push_then (push_all free (c.rest ++ opened g.levels)) (push_all free c.here k.0) =
      ap (λ z. push_all free z f) all ∙ (push_all_append free c.front (c.here ++ (c.rest ++ opened g.levels)) f ∙ (ap (push_then (push_all free (c.here ++ (c.rest ++ opened g.levels)))) k.1 ∙ push_all_append free c.here (c.rest ++ opened g.levels) k.0)) in
      subst (IsPushedAs IsKept base w new2 (Some r)) (sym walk) (did_stop base w new2 r (push_all free c.here k.0) (push_all free (c.rest ++ opened g.levels)) (adds base w k.0 c.here part k.2 c.is_here))

  pub joins_halt : (bytes : List ℕ) (old behind new new2 : Shown X) (ys : List (CodePiece X)) (x : CodePiece X) (zs : List (CodePiece X)) (r : Option CodeHalt) → is_some r ≡ true → behind.outer ≡ ys ++ (x ∷ zs) → SoFar bytes old ys new → Adds IsKept bytes new x new2 r
      → Joins IsKept bytes old behind new2 r
  joins_halt bytes old behind new new2 ys x zs None n e so adds = absurd (true≢false (sym n))
  joins_halt bytes old behind new new2 ys x zs (Some r) n e so adds = joins_stop bytes old behind new new2 ys x zs r e so adds

  pub so_far_next : (bytes : List ℕ) (old new new2 : Shown X) (ys : List (CodePiece X)) (x : CodePiece X) (r : Option CodeHalt) → is_some r ≡ false → SoFar bytes old ys new → Adds IsKept bytes new x new2 r → SoFar bytes old (ys ++ x ∷ []) new2
  so_far_next bytes old new new2 ys x None n so adds = so_far_on bytes old new new2 ys x so adds
  so_far_next bytes old new new2 ys x (Some r) n so adds = absurd (true≢false n)

  pub joins_all : (bytes : List ℕ) (old behind : Shown X) (new : Shown X) (new2 : Shown X) → SoFar bytes old behind.outer new → new2 ≡ show_as new.outer (behind.levels ++ new.levels) → Joins IsKept bytes old behind new2 None
  joins_all bytes old behind new new2 so e base w f g part hf hg levels =
      let k = so base w f g.outer part hf hg.0 in
      let walk : push_all free (pieces_of g) f ≡ further (record { outer = k.0.outer; levels = g.levels ++ k.0.levels }) =
      push_all_append free g.outer (opened g.levels) f ∙ (ap (push_then (push_all free (opened g.levels))) k.1 ∙ push_opened g.levels k.0.outer k.0.levels levels) in
      subst (IsPushedAs IsKept base w new2 None) (sym walk) (subst (λ z. IsShown IsKept base w z (record { outer = k.0.outer; levels = g.levels ++ k.0.levels })) (sym e) (k.2.0, held_append behind.levels g.levels new.levels k.0.levels hg.1 k.2.1))

-- an iterator that has no more gives no more
pub none_left : {X A : Type 0} (it : IntoIter X A) → it.rest.len ≡ 0 → into_iter_items it ≡ []
none_left it e = empty (into_iter_items it) (sym it.rest.ok.0 ∙ e)
  where
    empty : {X : Type 0} (xs : List X) → length xs ≡ 0 → xs ≡ []
    empty [] e = refl
    empty (x ∷ xs) e = absurd (omega (arith, e))
