-- A row of values, each behind a comma: how it grows before the first open level, and what it does to the level behind which it is put.
-- For `finish`, `finish_span`, `merge` and `run_block`.
use Rattle.std.proofs.Common.{◌≡◌, ℕ, Option, Some, None, List, [], ◌∷◌, ◌++◌, inl, inr, refl, sym, ◌∙◌, ap, subst, append_assoc, append-nil, true, true≢false}
use Rattle.std.proofs.lemmas.Option.{none-some, same_Some}
use Rattle.at_nest.specs.declared.levels.ArrayState.{ArrayState}
use Rattle.at_nest.specs.declared.levels.ArrayState.TheVariants as array
use Rattle.at_nest.specs.declared.levels.ObjectState.TheVariants as object
use Rattle.at_nest.specs.declared.levels.Level.{Level as CodeLevel}
use Rattle.at_nest.specs.declared.levels.Step.TheVariants.{On, Refused}
use Rattle.at_nest.specs.declared.pieces.Piece.{Piece as CodePiece}
use Rattle.at_nest.specs.declared.pieces.Piece.TheVariants.{Comma, Row as RowPiece}
use Rattle.at_nest.specs.declared.pieces.Row.{Row}
use Rattle.at_nest.specs.declared.pieces.SpanStop.{SpanStop as CodeHalt}
use Rattle.at_nest.specs.Tree.{Tree}
use Rattle.at_nest.specs.Forms.{Mark, Piece, mark, comma, entry}
use Rattle.at_nest.specs.Walks.{value_kind}
use Rattle.at_nest.specs.Levels.{at_after, at_name, Level, Form, values_in, marks, move, moves, further, with_mark, push, push_all, push_then}
use Rattle.at_nest.specs.Shown.{Held, held_of, AreOwn, IsStep, array_level, object_level, Shown, show_as, kept_outside, put_back, comma_next, value_next, stop_at}
use Rattle.at_nest.specs.KeptItems.{Content, free, array_mode, row_marks, row_trees, Each, Gains, GainsAll, IsHeld, EachHeld, IsRow, ArePieces, EachPiece, IsShown, IsOfItems, IsPushedAs, PushesValue, PushesItems, PushesBehind, PushesRow, LongerRow, IsRowNext}
use Rattle.at_nest.specs.Refusals.{last_of, is_comma as comma_piece, is_comma_last}
use Rattle.at_nest.proofs.Nests.{last_behind}
use Rattle.at_nest.proofs.Held.{values_append, each_cut}
use Rattle.at_nest.proofs.Pushes.{marks_append}
use Rattle.at_nest.proofs.Joining.{push_marks, went_on, did_stop}
use Rattle.at_nest.proofs.Showing.{pieces_append, pieces_cut, comma_pushes, outside_pushes, only_one}

-- ---- the marks of a row

row_marks_append : (es gs : List (ℕ × ℕ × Tree)) → row_marks (es ++ gs) ≡ row_marks es ++ row_marks gs
row_marks_append [] gs = refl
row_marks_append (e ∷ es) gs = ap (λ z. comma e.0 ∷ entry e.1 e.2 ∷ z) (row_marks_append es gs)

row_trees_append : (es gs : List (ℕ × ℕ × Tree)) → row_trees (es ++ gs) ≡ row_trees es ++ row_trees gs
row_trees_append [] gs = refl
row_trees_append (e ∷ es) gs = ap (λ z. e.2 ∷ z) (row_trees_append es gs)

row_values : (es : List (ℕ × ℕ × Tree)) → values_in free (row_marks es) ≡ row_trees es
row_values [] = refl
row_values (e ∷ es) = ap (λ z. e.2 ∷ z) (row_values es)

row_moves : (es : List (ℕ × ℕ × Tree)) → moves at_after (row_marks es) ≡ Some at_after
row_moves [] = refl
row_moves (e ∷ es) = row_moves es

-- marks before the first open level
pub push_outside : (xs : List (Mark Tree)) (fo : List (Piece Tree)) → push_all free (marks xs) (record { outer = fo; levels = [] }) ≡ further (record { outer = fo ++ marks xs; levels = [] })
push_outside [] fo = ap (λ z. further (record { outer = z; levels = [] })) (sym (append-nil fo))
push_outside (x ∷ xs) fo = push_outside xs (fo ++ mark x ∷ []) ∙ ap (λ z. further (record { outer = z; levels = [] })) (append_assoc fo (mark x ∷ []) (marks xs))

pub marks_outside : (ps : List (Piece Tree)) (xs : List (Mark Tree)) (fo : List (Piece Tree)) → ps ≡ marks xs → push_all free ps (record { outer = fo; levels = [] }) ≡ further (record { outer = fo ++ ps; levels = [] })
marks_outside ps xs fo e = rw e (push_outside xs fo)

module _ {X : Type 0} (IsKept : X → Content → Type 0) where
  is_row : (r : Row X) (base : ℕ) (w : List ℕ) (ps : List (Piece Tree)) → ArePieces IsKept base w (RowPiece r) ps → IsRow IsKept r ps
  is_row r base w ps (inl (p, e, h)) = absurd h
  is_row r base w ps (inr h) = h

  pub is_comma : (c : ℕ) (base : ℕ) (w : List ℕ) (ps : List (Piece Tree)) → ArePieces IsKept base w (Comma c) ps → ps ≡ mark (comma c) ∷ []
  is_comma c base w ps (inl (mark (comma j), e, h)) = e ∙ ap (λ n. mark (comma n) ∷ []) (sym h)
  is_comma c base w ps (inl (_, e, h)) = absurd h
  is_comma c base w ps (inr h) = absurd h

  -- what is kept before the last of what stands before the first open level
  pub without_last : (s : Shown X) (front : List (CodePiece X)) (c : CodePiece X) → IsOfItems IsKept s → s.outer ≡ front ++ c ∷ [] → IsOfItems IsKept (show_as front s.levels)
  without_last s front c (base, w, f, h) e = let r = pieces_cut IsKept base w front c f.outer (subst (λ z. EachPiece IsKept base w z f.outer) e h.0) in (base, w, record { outer = r.0; levels = f.levels }, (r.3, h.1))

  -- the same is kept
  pub items_same : (s t : Shown X) → t.outer ≡ s.outer → t.levels ≡ s.levels → IsOfItems IsKept s → IsOfItems IsKept t
  items_same s t e e2 (base, w, f, h) = (base, w, f, (subst (λ z. EachPiece IsKept base w z f.outer) (sym e) h.0, subst (λ z. EachHeld IsKept z f.levels) (sym e2) h.1))

  pub value_same : (old s new : Shown X) (r : Option CodeHalt) (i : ℕ) (x : X) → s.outer ≡ old.outer → s.levels ≡ old.levels → PushesValue IsKept s new r i x → PushesValue IsKept old new r i x
  value_same old s new r i x e e2 pushes base w f t h k = pushes base w f t (subst (λ z. EachPiece IsKept base w z f.outer) (sym e) h.0, subst (λ z. EachHeld IsKept z f.levels) (sym e2) h.1) k

  -- ---- before the first open level

  pub row_begun : (old new : Shown X) (r : Option CodeHalt) (row : Row X) (x : X) → old.levels ≡ [] → Gains IsKept [] x row.items.items → (new, r) ≡ kept_outside old.outer (RowPiece row) → PushesBehind IsKept old new r row.comma row.first x
  row_begun old new r row x e more d base w f t others h k = let xs : List (Mark Tree) = row_marks ((row.comma, row.first, t) ∷ others) in
      outside_pushes IsKept base w old new r (old.outer ++ RowPiece row ∷ []) f (marks xs) e h.1 d (push_outside xs f.outer)
      (pieces_append IsKept base w old.outer f.outer (RowPiece row) (marks xs) h.0 (inr (record { tree = t; others = others; split = refl; items = more [] (t ∷ row_trees others) refl k })))

  longer_split : (before row : Row X) (tree : Tree) (others gs : List (ℕ × ℕ × Tree)) (vs : List (Piece Tree)) → row.comma ≡ before.comma → row.first ≡ before.first → vs ≡ marks (row_marks ((before.comma, before.first, tree) ∷ others))
      → vs ++ marks (row_marks gs) ≡ marks (row_marks ((row.comma, row.first, tree) ∷ (others ++ gs)))
  longer_split before row tree others gs vs ec ei e = ap (λ z. z ++ marks (row_marks gs)) e ∙ (sym (marks_append (row_marks ((before.comma, before.first, tree) ∷ others)) (row_marks gs))
      ∙ (ap marks (sym (row_marks_append ((before.comma, before.first, tree) ∷ others) gs))
      ∙ (ap (λ n. marks (row_marks ((n, before.first, tree) ∷ (others ++ gs)))) (sym ec) ∙ ap (λ n. marks (row_marks ((row.comma, n, tree) ∷ (others ++ gs)))) (sym ei))))

  pub row_longer : (old new : Shown X) (r : Option CodeHalt) (front : List (CodePiece X)) (before row : Row X) (c i : ℕ) (x : X) → old.levels ≡ [] → old.outer ≡ front ++ RowPiece before ∷ [] → LongerRow IsKept before row x → (new, r) ≡ kept_outside front (RowPiece row) → PushesBehind IsKept old new r c i x
  row_longer old new r front before row c i x e e2 (ec, ei, more) d base w f t others h k = outside_pushes IsKept base w old new r (front ++ RowPiece row ∷ []) f (marks (row_marks gs)) e h.1 d (push_outside (row_marks gs) f.outer) kept
    where
      gs : List (ℕ × ℕ × Tree)
      gs = (c, i, t) ∷ others

      kept : EachPiece IsKept base w (front ++ RowPiece row ∷ []) (f.outer ++ marks (row_marks gs))
      kept = let s = pieces_cut IsKept base w front (RowPiece before) f.outer (subst (λ z. EachPiece IsKept base w z f.outer) e2 h.0) in
          let q : IsRow IsKept before s.1 = is_row before base w s.1 s.4 in
          subst (EachPiece IsKept base w (front ++ RowPiece row ∷ [])) (sym (ap (λ z. z ++ marks (row_marks gs)) s.2 ∙ append_assoc s.0 s.1 (marks (row_marks gs))))
          (pieces_append IsKept base w front s.0 (RowPiece row) (s.1 ++ marks (row_marks gs)) s.3 (inr (record {
            tree = q.tree;
            others = q.others ++ gs;
            split = longer_split before row q.tree q.others gs s.1 ec ei q.split;
            items = subst (λ z. Each IsKept row.items.items (q.tree ∷ z)) (sym (row_trees_append q.others gs)) (more (q.tree ∷ row_trees q.others) (t ∷ row_trees others) q.items k);
          })))

  -- values, where a comma was the last
  pub items_behind : (old new : Shown X) (r : Option CodeHalt) (front : List (CodePiece X)) (c i : ℕ) (x : X) → old.levels ≡ [] → old.outer ≡ front ++ Comma c ∷ [] → PushesBehind IsKept (show_as front old.levels) new r c i x → PushesItems IsKept old new r i x
  items_behind old new r front c i x e e2 pushes base w f t others h k = here f.levels (subst (λ z. EachHeld IsKept z f.levels) e h.1)
    where
      ms : List (Mark Tree)
      ms = entry i t ∷ row_marks others

      here : (ls : List (Level Tree)) → EachHeld IsKept [] ls → IsPushedAs IsKept base w new r (push_all free (marks ms) (record { outer = f.outer; levels = ls }))
      here [] u = let s = pieces_cut IsKept base w front (Comma c) f.outer (subst (λ z. EachPiece IsKept base w z f.outer) e2 h.0) in
          let outer : f.outer ≡ s.0 ++ mark (comma c) ∷ [] = s.2 ∙ ap (λ z. s.0 ++ z) (is_comma c base w s.1 s.4) in
          let all : s.0 ++ (mark (comma c) ∷ marks ms) ≡ f.outer ++ marks ms = sym (append_assoc s.0 (mark (comma c) ∷ []) (marks ms)) ∙ ap (λ z. z ++ marks ms) (sym outer) in
          subst (IsPushedAs IsKept base w new r) (push_outside (comma c ∷ ms) s.0 ∙ (ap (λ z. further (record { outer = z; levels = [] })) all ∙ sym (push_outside ms f.outer)))
          (pushes base w (record { outer = s.0; levels = [] }) t others (s.3, subst (λ z. EachHeld IsKept z []) (sym e) tt) k)
      here (l ∷ ls) u = absurd u

  -- a value
  pub value_behind : (old new : Shown X) (r : Option CodeHalt) (front : List (CodePiece X)) (c i : ℕ) (x : X) → old.levels ≡ [] → old.outer ≡ front ++ Comma c ∷ [] → PushesBehind IsKept (show_as front old.levels) new r c i x → PushesValue IsKept old new r i x
  value_behind old new r front c i x e e2 pushes base w f t h k = only_one IsKept base w new r (push free f (mark (entry i t))) (items_behind old new r front c i x e e2 pushes base w f t [] h (inl (t, refl, k)))

  pub row_outside : (old new : Shown X) (r : Option CodeHalt) (row : Row X) (outer : List (CodePiece X)) → old.levels ≡ [] → old.outer ≡ outer → (new, r) ≡ kept_outside outer (RowPiece row) → PushesRow IsKept old new r row
  row_outside old new r row outer e e2 d base w f ps h k = outside_pushes IsKept base w old new r (outer ++ RowPiece row ∷ []) f ps e h.1 d (marks_outside ps (row_marks ((row.comma, row.first, k.tree) ∷ k.others)) f.outer k.split)
      (pieces_append IsKept base w outer f.outer (RowPiece row) ps (subst (λ z. EachPiece IsKept base w z f.outer) e2 h.0) (inr k))

  -- ---- in a level

  -- an array goes on with all values
  items_in_array : (base : ℕ) (w : List ℕ) (outer : List (CodePiece X)) (hs : List (Held X)) (fo : List (Piece Tree)) (ls : List (Level Tree)) (j : ℕ) (s : ArrayState) (xs ys : List X) (l : Level Tree) (i : ℕ) (t : Tree) (es : List (ℕ × ℕ × Tree))
      → EachPiece IsKept base w outer fo → EachHeld IsKept hs ls → IsHeld IsKept (array_level j s xs) l → moves (array_mode s) (entry i t ∷ row_marks es) ≡ Some at_after → Each IsKept ys (values_in free l.inside ++ (t ∷ row_trees es))
      → IsPushedAs IsKept base w (show_as outer (array_level j array.Value ys ∷ hs)) None (push_all free (marks (entry i t ∷ row_marks es)) (record { outer = fo; levels = l ∷ ls }))
  items_in_array base w outer hs fo ls j s xs ys l i t es ho hl k m items =
      let ms : List (Mark Tree) = entry i t ∷ row_marks es in
      let on : moves l.mode ms ≡ Some at_after = ap (λ z. moves z ms) k.2 ∙ m in
      let values : values_in free (l.inside ++ ms) ≡ values_in free l.inside ++ (t ∷ row_trees es) = values_append l.inside ms ∙ ap (λ z. values_in free l.inside ++ (t ∷ z)) (row_values es) in
      subst (IsPushedAs IsKept base w (show_as outer (array_level j array.Value ys ∷ hs)) None) (sym (push_marks ms l.inside l.bracket l.from l.mode at_after fo ls on))
      (ho, ((k.0, k.1, refl, subst (Each IsKept ys) (sym values) items), hl))

  -- an array goes on with all of a row
  row_in_array : (base : ℕ) (w : List ℕ) (outer : List (CodePiece X)) (hs : List (Held X)) (fo : List (Piece Tree)) (ls : List (Level Tree)) (j : ℕ) (xs : List X) (l : Level Tree) (row : Row X) (t : Tree) (es : List (ℕ × ℕ × Tree)) (o : Option (Held X))
      → EachPiece IsKept base w outer fo → EachHeld IsKept hs ls → IsHeld IsKept (array_level j array.Comma xs) l → Each IsKept row.items.items (t ∷ row_trees es) → IsRowNext IsKept (array_level j array.Comma xs) row.items.items o
      → IsPushedAs IsKept base w (put_back outer hs row.first (array_level j array.Comma xs) o).0 (put_back outer hs row.first (array_level j array.Comma xs) o).1 (push_all free (marks (entry row.first t ∷ row_marks es)) (record { outer = fo; levels = l ∷ ls }))
  row_in_array base w outer hs fo ls j xs l row t es None ho hl k items n = absurd n
  row_in_array base w outer hs fo ls j xs l row t es (Some h) ho hl k items (ys, eh, more) =
      subst (λ z. IsPushedAs IsKept base w (show_as outer (z ∷ hs)) None (push_all free (marks (entry row.first t ∷ row_marks es)) (record { outer = fo; levels = l ∷ ls }))) (sym eh)
      (items_in_array base w outer hs fo ls j array.Comma xs ys l row.first t es ho hl k (row_moves es) (more (values_in free l.inside) (t ∷ row_trees es) k.3 items))

  -- values put into an array, or refused by one that wants a comma
  items_pushed : (base : ℕ) (w : List ℕ) (outer : List (CodePiece X)) (hs : List (Held X)) (fo : List (Piece Tree)) (ls : List (Level Tree)) (j : ℕ) (s : ArrayState) (xs ys : List X) (l : Level Tree) (i : ℕ) (x : X) (t : Tree) (es : List (ℕ × ℕ × Tree))
      → EachPiece IsKept base w outer fo → EachHeld IsKept hs ls → IsHeld IsKept (array_level j s xs) l → Each IsKept ys (values_in free l.inside ++ (t ∷ row_trees es))
      → IsPushedAs IsKept base w (put_back outer hs i (array_level j s xs) (value_next (array_level j s xs) x ys)).0 (put_back outer hs i (array_level j s xs) (value_next (array_level j s xs) x ys)).1 (push_all free (marks (entry i t ∷ row_marks es)) (record { outer = fo; levels = l ∷ ls }))
  items_pushed base w outer hs fo ls j array.Empty xs ys l i x t es ho hl k items = items_in_array base w outer hs fo ls j array.Empty xs ys l i t es ho hl k (row_moves es) items
  items_pushed base w outer hs fo ls j array.Comma xs ys l i x t es ho hl k items = items_in_array base w outer hs fo ls j array.Comma xs ys l i t es ho hl k (row_moves es) items
  items_pushed base w outer hs fo ls j array.Value xs ys l i x t es ho hl k items =
      subst (λ md. IsPushedAs IsKept base w (show_as outer (array_level j array.Value xs ∷ hs)) (Some (stop_at i)) (push_then (push_all free (marks (row_marks es))) (with_mark fo ls l (entry i t) (move md value_kind)))) (sym k.2) ((ho, (k, hl)), refl)

  pub items_put : (old : Shown X) (outer : List (CodePiece X)) (hs : List (Held X)) (new : Shown X) (r : Option CodeHalt) (j : ℕ) (s : ArrayState) (xs : List X) (i : ℕ) (x : X) (ys : List X) → old.levels ≡ array_level j s xs ∷ hs → old.outer ≡ outer
      → (new, r) ≡ put_back outer hs i (array_level j s xs) (value_next (array_level j s xs) x ys) → Gains IsKept xs x ys → PushesItems IsKept old new r i x
  items_put old outer hs new r j s xs i x ys e e2 d more base w f t others h k = subst (λ a. IsPushedAs IsKept base w a.0 a.1 (push_all free (marks (entry i t ∷ row_marks others)) f)) (sym d) (here f.levels (subst (λ z. EachHeld IsKept z f.levels) e h.1))
    where
      here : (ls : List (Level Tree)) → EachHeld IsKept (array_level j s xs ∷ hs) ls
          → IsPushedAs IsKept base w (put_back outer hs i (array_level j s xs) (value_next (array_level j s xs) x ys)).0 (put_back outer hs i (array_level j s xs) (value_next (array_level j s xs) x ys)).1 (push_all free (marks (entry i t ∷ row_marks others)) (record { outer = f.outer; levels = ls }))
      here [] u = absurd u
      here (l ∷ ls) u = items_pushed base w outer hs f.outer ls j s xs ys l i x t others (subst (λ z. EachPiece IsKept base w z f.outer) e2 h.0) u.1 u.0 (more (values_in free l.inside) (t ∷ row_trees others) u.0.3 k)

  -- an object takes none of its values
  row_in_object : (base : ℕ) (w : List ℕ) (outer : List (CodePiece X)) (hs : List (Held X)) (fo : List (Piece Tree)) (ls : List (Level Tree)) (h : Held X) (l : Level Tree) (row : Row X) (t : Tree) (es : List (ℕ × ℕ × Tree))
      → EachPiece IsKept base w outer fo → EachHeld IsKept hs ls → IsHeld IsKept h l → l.mode ≡ at_name
      → IsPushedAs IsKept base w (show_as outer (h ∷ hs)) (Some (stop_at row.first)) (push_all free (marks (entry row.first t ∷ row_marks es)) (record { outer = fo; levels = l ∷ ls }))
  row_in_object base w outer hs fo ls h l row t es ho hl k e =
      subst (λ md. IsPushedAs IsKept base w (show_as outer (h ∷ hs)) (Some (stop_at row.first)) (push_then (push_all free (marks (row_marks es))) (with_mark fo ls l (entry row.first t) (move md value_kind)))) (sym e) ((ho, (k, hl)), refl)

  -- behind its first comma
  row_behind : (base : ℕ) (w : List ℕ) (outer : List (CodePiece X)) (hs : List (Held X)) (fo : List (Piece Tree)) (ls : List (Level Tree)) (h h2 : Held X) (l : Level Tree) (row : Row X) (t : Tree) (es : List (ℕ × ℕ × Tree)) (o : Option (Held X))
      → EachPiece IsKept base w outer fo → EachHeld IsKept hs ls → IsHeld IsKept h2 l → comma_next h ≡ Some h2 → Each IsKept row.items.items (t ∷ row_trees es) → IsRowNext IsKept h2 row.items.items o
      → IsPushedAs IsKept base w (put_back outer hs row.first h2 o).0 (put_back outer hs row.first h2 o).1 (push_all free (marks (entry row.first t ∷ row_marks es)) (record { outer = fo; levels = l ∷ ls }))
  row_behind base w outer hs fo ls (array_level j array.Value xs) h2 l row t es o ho hl k e items n =
      let same : array_level j array.Comma xs ≡ h2 = same_Some _ h2 e in
      subst (λ z. IsPushedAs IsKept base w (put_back outer hs row.first z o).0 (put_back outer hs row.first z o).1 (push_all free (marks (entry row.first t ∷ row_marks es)) (record { outer = fo; levels = l ∷ ls }))) same
      (row_in_array base w outer hs fo ls j xs l row t es o ho hl (subst (λ z. IsHeld IsKept z l) (sym same) k) items (subst (λ z. IsRowNext IsKept z row.items.items o) (sym same) n))
  row_behind base w outer hs fo ls (object_level j object.Value ms) h2 l row t es o ho hl k e items n =
      let same : object_level j object.Comma ms ≡ h2 = same_Some _ h2 e in
      by_next o (subst (λ z. IsRowNext IsKept z row.items.items o) (sym same) n) (subst (λ z. IsHeld IsKept z l) (sym same) k)
    where
      by_next : (o : Option (Held X)) → IsRowNext IsKept (object_level j object.Comma ms) row.items.items o → IsHeld IsKept (object_level j object.Comma ms) l
          → IsPushedAs IsKept base w (put_back outer hs row.first h2 o).0 (put_back outer hs row.first h2 o).1 (push_all free (marks (entry row.first t ∷ row_marks es)) (record { outer = fo; levels = l ∷ ls }))
      by_next None u q = row_in_object base w outer hs fo ls h2 l row t es ho hl k q.2
      by_next (Some g) u q = absurd u
  row_behind base w outer hs fo ls _ h2 l row t es o ho hl k e items n = absurd (none-some h2 e)

  -- a comma put into the innermost level, as the first of several items
  comma_pushed : (base : ℕ) (w : List ℕ) (old : Shown X) (outer : List (CodePiece X)) (hs : List (Held X)) (h : Held X) (o : Option (Held X)) (c : ℕ) (f : Form Tree) → old.levels ≡ h ∷ hs → old.outer ≡ outer → comma_next h ≡ o → IsShown IsKept base w old f
      → IsPushedAs IsKept base w (put_back outer hs c h o).0 (put_back outer hs c h o).1 (push free f (mark (comma c)))
  comma_pushed base w old outer hs h o c f e e2 n k = subst (λ o. IsPushedAs IsKept base w (put_back outer hs c h o).0 (put_back outer hs c h o).1 (push free f (mark (comma c)))) n
      (comma_pushes IsKept base w outer (h ∷ hs) f.outer f.levels c (subst (λ z. EachPiece IsKept base w z f.outer) e2 k.0) (subst (λ z. EachHeld IsKept z f.levels) e k.1))

  pub comma_put : (base : ℕ) (w : List ℕ) (old new : Shown X) (r : Option CodeHalt) (outer : List (CodePiece X)) (hs : List (Held X)) (h h2 : Held X) (c : ℕ) (f : Form Tree) (rest : List (Piece Tree)) → old.levels ≡ h ∷ hs → old.outer ≡ outer → comma_next h ≡ Some h2 → IsShown IsKept base w old f
      → ((fo : List (Piece Tree)) (l : Level Tree) (ls : List (Level Tree)) → EachPiece IsKept base w outer fo → IsHeld IsKept h2 l → EachHeld IsKept hs ls → IsPushedAs IsKept base w new r (push_all free rest (record { outer = fo; levels = l ∷ ls })))
      → IsPushedAs IsKept base w new r (push_all free (mark (comma c) ∷ rest) f)
  comma_put base w old new r outer hs h h2 c f rest e e2 n k more = let p = went_on IsKept base w (show_as outer (h2 ∷ hs)) (push free f (mark (comma c))) (comma_pushed base w old outer hs h (Some h2) c f e e2 n k) in
      subst (λ o. IsPushedAs IsKept base w new r (push_then (push_all free rest) o)) (sym p.1) (on p.0.outer p.0.levels p.2.0 p.2.1)
    where
      on : (fo : List (Piece Tree)) (ls : List (Level Tree)) → EachPiece IsKept base w outer fo → EachHeld IsKept (h2 ∷ hs) ls → IsPushedAs IsKept base w new r (push_all free rest (record { outer = fo; levels = ls }))
      on fo [] ho u = absurd u
      on fo (l ∷ ls) ho u = more fo l ls ho u.0 u.1

  -- a level that takes no comma
  pub comma_refused : (base : ℕ) (w : List ℕ) (old new : Shown X) (r : Option CodeHalt) (outer : List (CodePiece X)) (hs : List (Held X)) (h : Held X) (c : ℕ) (f : Form Tree) (rest : List (Piece Tree)) → old.levels ≡ h ∷ hs → old.outer ≡ outer → comma_next h ≡ None
      → (new, r) ≡ put_back outer hs c h None → IsShown IsKept base w old f → IsPushedAs IsKept base w new r (push_all free (mark (comma c) ∷ rest) f)
  comma_refused base w old new r outer hs h c f rest e e2 n d k = subst (λ a. IsPushedAs IsKept base w a.0 a.1 (push_all free (mark (comma c) ∷ rest) f)) (sym d)
      (did_stop IsKept base w (show_as outer (h ∷ hs)) (stop_at c) (push free f (mark (comma c))) (push_all free rest) (comma_pushed base w old outer hs h None c f e e2 n k))

  pub row_put : (old new : Shown X) (r : Option CodeHalt) (outer : List (CodePiece X)) (hs : List (Held X)) (h h2 : Held X) (o : Option (Held X)) (row : Row X) → old.levels ≡ h ∷ hs → old.outer ≡ outer → comma_next h ≡ Some h2 → IsRowNext IsKept h2 row.items.items o → (new, r) ≡ put_back outer hs row.first h2 o
      → PushesRow IsKept old new r row
  row_put old new r outer hs h h2 o row e e2 c n d base w f ps k q = subst (λ z. IsPushedAs IsKept base w new r (push_all free z f)) (sym q.split)
      (comma_put base w old new r outer hs h h2 row.comma f (marks (entry row.first q.tree ∷ row_marks q.others)) e e2 c k
      (λ fo l ls ho u v. subst (λ a. IsPushedAs IsKept base w a.0 a.1 (push_all free (marks (entry row.first q.tree ∷ row_marks q.others)) (record { outer = fo; levels = l ∷ ls }))) (sym d) (row_behind base w outer hs fo ls h h2 l row q.tree q.others o ho v u c q.items n)))

  pub row_refused : (old new : Shown X) (r : Option CodeHalt) (outer : List (CodePiece X)) (hs : List (Held X)) (h : Held X) (row : Row X) → old.levels ≡ h ∷ hs → old.outer ≡ outer → comma_next h ≡ None → (new, r) ≡ put_back outer hs row.comma h None → PushesRow IsKept old new r row
  row_refused old new r outer hs h row e e2 c d base w f ps k q = subst (λ z. IsPushedAs IsKept base w new r (push_all free z f)) (sym q.split) (comma_refused base w old new r outer hs h row.comma f (marks (entry row.first q.tree ∷ row_marks q.others)) e e2 c d k)

pub no_comma_last : {X : Type 0} (xs front : List (CodePiece X)) (p : CodePiece X) → xs ≡ front ++ p ∷ [] → is_comma_last (last_of xs) ≡ true → ((c : ℕ) → p ≡ Comma c → ⊥) → ⊥
no_comma_last {X = X} xs front p e h none = by_piece p (sym (ap is_comma_last (ap last_of e ∙ last_behind front p)) ∙ h) none
  where
    by_piece : (p : CodePiece X) → comma_piece p ≡ true → ((c : ℕ) → p ≡ Comma c → ⊥) → ⊥
    by_piece (Comma i) h none = none i refl
    by_piece _ h none = true≢false (sym h)

-- ---- a level behind a comma

pub step_on : {X : Type 0} (old : Held X) (o : Option (Held X)) (l : CodeLevel X) → IsStep old o (On l) → o ≡ Some (held_of l)
step_on old (Some h) l k = ap Some (sym k)
step_on old None l k = absurd k

pub step_refused : {X : Type 0} (old : Held X) (o : Option (Held X)) (l : CodeLevel X) → IsStep old o (Refused l) → (o ≡ None) × (held_of l ≡ old)
step_refused old None l k = (refl, k)
step_refused old (Some h) l k = absurd k

pub comma_own : {X : Type 0} (IsOwn : X → Type 0) (h h2 : Held X) → AreOwn IsOwn h → comma_next h ≡ Some h2 → AreOwn IsOwn h2
comma_own IsOwn (array_level j array.Value xs) h2 own e = subst (AreOwn IsOwn) (same_Some _ h2 e) own
comma_own IsOwn (object_level j object.Value ms) h2 own e = subst (AreOwn IsOwn) (same_Some _ h2 e) own
comma_own IsOwn _ h2 own e = absurd (none-some h2 e)

-- ---- an array's atoms, and further ones behind them

pub gains_on : {X : Type 0} (IsKept : X → Content → Type 0) (xs zs ys ys2 : List X) (x : X) → GainsAll IsKept xs zs ys → Gains IsKept ys x ys2 → GainsAll IsKept xs (zs ++ x ∷ []) ys2
gains_on IsKept xs zs ys ys2 x all more ts us h k = let c = each_cut IsKept zs x us k in subst (Each IsKept ys2) (append_assoc ts c.0 c.1 ∙ ap (λ z. ts ++ z) (sym c.2.0)) (more (ts ++ c.0) c.1 (all ts c.0 h c.2.1) c.2.2)
