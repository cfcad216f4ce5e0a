-- What stands for items is the algebra's own, and lists of named values are cut and put together.
use Rattle.std.proofs.Common.{◌≡◌, ℕ, List, [], ◌∷◌, ◌++◌, refl, sym, ◌∙◌, ap, subst, All, add-one, take-suc, get_or, take, length, ◌+◌, ◌<◌, inl, inr}
use Rattle.std.proofs.lemmas.List.Elements.{All-nil, All-cons}
use Rattle.at_nest.specs.declared.pieces.Piece.{Piece as CodePiece}
use Rattle.at_nest.specs.declared.pieces.Piece.TheVariants.{Comma, Colon, Text, Value, Row as RowPiece, Members as MembersPiece, Closers as ClosersPiece}
use Rattle.at_nest.specs.declared.pieces.Row.{Row}
use Rattle.at_nest.specs.declared.pieces.NamedValue.{NamedValue}
use Rattle.at_nest.specs.MemberMarks.{MemberMarks}
use Rattle.at_nest.specs.Tree.{Tree}
use Rattle.at_nest.specs.Forms.{Piece, opens, mark, comma, colon, quoted, entry}
use Rattle.at_nest.specs.Shown.{Shown, OwnPiece}
use Rattle.at_nest.specs.KeptItems.{Content, OwnAtom, IsHeldPiece, EachPiece, ArePieces, EachNamed, row_trees, IsOfItems, CanAdd}
use Rattle.at_nest.proofs.Held.{each_own}
use Rattle.at_nest.proofs.Showing.{pieces_cut}

module _ {X : Type 0} (IsKept : X → Content → Type 0) where
  pub named_cut : (base : ℕ) (w : List ℕ) (xs : List (NamedValue X)) (x : NamedValue X) (es : List MemberMarks) → EachNamed IsKept base w (xs ++ x ∷ []) es
      → (us : List MemberMarks) × (e : MemberMarks) × ((es ≡ us ++ e ∷ []) × EachNamed IsKept base w xs us × EachNamed IsKept base w (x ∷ []) (e ∷ []))
  named_cut base w [] x [] h = absurd h
  named_cut base w [] x (e ∷ []) h = ([], e, (refl, tt, h))
  named_cut base w [] x (e ∷ (g ∷ es)) h = absurd h.3
  named_cut base w (y ∷ xs) x [] h = absurd h
  named_cut base w (y ∷ xs) x (e ∷ es) h = let r = named_cut base w xs x es h.3 in (e ∷ r.0, r.1, (ap (λ v. e ∷ v) r.2.0, (h.0, h.1, h.2, r.2.1), r.2.2))

  pub named_append : (base : ℕ) (w : List ℕ) (xs : List (NamedValue X)) (x : NamedValue X) (us : List MemberMarks) (e : MemberMarks) → EachNamed IsKept base w xs us → EachNamed IsKept base w (x ∷ []) (e ∷ []) → EachNamed IsKept base w (xs ++ x ∷ []) (us ++ e ∷ [])
  named_append base w [] x [] e h k = k
  named_append base w (y ∷ xs) x (u ∷ us) e h k = (h.0, h.1, h.2, named_append base w xs x us e h.3 k)
  named_append base w _ x _ e h k = absurd h

-- what stands for items is the algebra's own
module _ {X : Type 0} (IsOwn : X → Type 0) (IsFold : X → Tree → Type 0) (IsRun : X → List Tree → Type 0) where
  pub piece_own : (base : ℕ) (w : List ℕ) (c : CodePiece X) (p : Piece Tree) → IsHeldPiece (OwnAtom IsOwn IsFold IsRun) base w c p → OwnPiece IsOwn c
  piece_own base w (Comma i) p h = tt
  piece_own base w (Colon i) p h = tt
  piece_own base w (Text span x) (mark (quoted j cs)) h = h.2.0
  piece_own base w (Value i x) (mark (entry j t)) h = h.1.0
  piece_own base w (Text span x) (mark (comma j)) h = absurd h
  piece_own base w (Text span x) (mark (colon j)) h = absurd h
  piece_own base w (Text span x) (mark (entry j t)) h = absurd h
  piece_own base w (Value i x) (mark (comma j)) h = absurd h
  piece_own base w (Value i x) (mark (colon j)) h = absurd h
  piece_own base w (Value i x) (mark (quoted j cs)) h = absurd h
  piece_own base w (RowPiece r) (opens b j) h = absurd h
  piece_own base w (ClosersPiece r) p h = tt
  piece_own base w _ _ h = absurd h

  each_named_own : (base : ℕ) (w : List ℕ) (ms : List (NamedValue X)) (es : List MemberMarks) → EachNamed (OwnAtom IsOwn IsFold IsRun) base w ms es → All (λ m. IsOwn m.value) ms
  each_named_own base w [] [] h = All-nil (λ m. IsOwn m.value)
  each_named_own base w (m ∷ ms) (e ∷ es) h = All-cons (λ m. IsOwn m.value) m ms h.2.0 (each_named_own base w ms es h.3)
  each_named_own base w _ _ h = absurd h

  are_own : (base : ℕ) (w : List ℕ) (c : CodePiece X) (ps : List (Piece Tree)) → ArePieces (OwnAtom IsOwn IsFold IsRun) base w c ps → OwnPiece IsOwn c
  are_own base w c ps (inl (p, e, h)) = piece_own base w c p h
  are_own base w (RowPiece r) ps (inr h) = each_own IsOwn IsFold IsRun r.items.items (h.tree ∷ row_trees h.others) h.items
  are_own base w (MembersPiece r) ps (inr h) = each_named_own base w r.items.items (h.first ∷ h.others) h.items
  are_own base w (ClosersPiece r) ps (inr h) = tt
  are_own base w _ ps (inr h) = absurd h

  -- the atoms of a row that is the last of what is kept
  pub row_own : (s : Shown X) (front : List (CodePiece X)) (r : Row X) → IsOfItems (OwnAtom IsOwn IsFold IsRun) s → s.outer ≡ front ++ RowPiece r ∷ [] → All IsOwn r.items.items
  row_own s front r (base, w, f, h) e = let c = pieces_cut (OwnAtom IsOwn IsFold IsRun) base w front (RowPiece r) f.outer (subst (λ z. EachPiece (OwnAtom IsOwn IsFold IsRun) base w z f.outer) e h.0) in are_own base w (RowPiece r) c.1 c.4

  pub can_add_own : (bytes : List ℕ) (old : Shown X) (c : CodePiece X) → CanAdd (OwnAtom IsOwn IsFold IsRun) bytes old c → OwnPiece IsOwn c
  can_add_own bytes old c (base, w, f, ps, part, h, k) = are_own base w c ps k

-- one element more of a front
pub take_next : {X : Type 0} (xs : List X) (i : ℕ) (x : X) → i < length xs → x ≡ get_or xs i x → take (i + 1) xs ≡ take i xs ++ x ∷ []
take_next xs i x h e = (rw (add-one i, take-suc xs i x h) refl) ∙ ap (λ z. take i xs ++ z ∷ []) (sym e)
