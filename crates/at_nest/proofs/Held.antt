-- What an item does to what is kept, and to the items that it stands for: the two go on standing for each other.
-- For `finish`, `finish_span`, `merge` and `run_block`.
use Rattle.std.proofs.Common.{◌≡◌, ℕ, true, false, Option, Some, None, List, [], ◌∷◌, ◌++◌, refl, sym, ◌∙◌, ap, subst, inl, inr, All, append-nil, append_assoc, true≢false}
use Rattle.std.proofs.lemmas.List.Elements.{All-nil, All-cons, All-head, All-tail}
use Rattle.std.specs.Bool.{⊤}
use Rattle.at_lex.specs.Strings.{Character, units_of}
use Rattle.at_lex.specs.declared.tokens.Bracket.{Bracket}
use Rattle.at_lex.specs.declared.tokens.Bracket.TheVariants.{Brace, Square}
use Rattle.at_nest.specs.declared.algebra.Member.{Member}
use Rattle.at_nest.specs.declared.levels.ArrayState.{ArrayState}
use Rattle.at_nest.specs.declared.levels.ArrayState.TheVariants as array
use Rattle.at_nest.specs.declared.levels.ObjectState.{ObjectState}
use Rattle.at_nest.specs.declared.levels.ObjectState.TheVariants as object
use Rattle.at_nest.specs.declared.levels.MemberName.{MemberName}
use Rattle.at_nest.specs.declared.levels.Level.{Level as CodeLevel}
use Rattle.at_nest.specs.declared.levels.Step.TheVariants.{On, Refused}
use Rattle.at_nest.specs.Tree.{Tree, text, array as array_tree, object as object_tree, Members}
use Rattle.at_nest.specs.Folds.{trees, Covers, AreItemFolds, AreMemberFolds}
use Rattle.at_nest.specs.Forms.{Mark, comma, colon, quoted, entry}
use Rattle.at_nest.specs.Walks.{mark_kind, comma_kind, colon_kind, text_kind, value_kind}
use Rattle.at_nest.specs.Levels.{Mode, at_items, at_value, at_after, at_members, at_name, at_colon, at_member, at_further, Level, values_in, pairs_in, built, move, closes_at, first_mode}
use Rattle.at_nest.specs.MemberMarks.{ValueMark, string_value, other_value, mark_of, tree_of}
use Rattle.at_nest.specs.Shown.{Held, array_level, object_level, AreOwn, from_of, held_of, IsStep, comma_next, colon_next, value_next, name_next, takes_name, closes_with, opened_as}
use Rattle.at_nest.specs.KeptItems.{tree_members, free, Content, one, OwnAtom, Holds, Each, Gains, GainsIn, EachMember, IsNamed, IsHeld, pending_in}

-- ---- a level that is closed

holds_covers : {X : Type 0} (IsOwn : X → Type 0) (IsFold : X → Tree → Type 0) (IsRun : X → List Tree → Type 0) (x : X) (ts : List Tree) → Holds (OwnAtom IsOwn IsFold IsRun) x ts → IsOwn x × Covers IsFold IsRun x ts
holds_covers IsOwn IsFold IsRun x ts (inl (t, e, k)) = (k.0, inl (t, e, k.1))
holds_covers IsOwn IsFold IsRun x ts (inr k) = (k.0, inr k.1)

pub covers_holds : {X : Type 0} (IsOwn : X → Type 0) (IsFold : X → Tree → Type 0) (IsRun : X → List Tree → Type 0) (x : X) (ts : List Tree) → IsOwn x → Covers IsFold IsRun x ts → Holds (OwnAtom IsOwn IsFold IsRun) x ts
covers_holds IsOwn IsFold IsRun x ts own (inl (t, e, k)) = inl (t, e, (own, k))
covers_holds IsOwn IsFold IsRun x ts own (inr k) = inr (own, k)

each_folds : {X : Type 0} (IsOwn : X → Type 0) (IsFold : X → Tree → Type 0) (IsRun : X → List Tree → Type 0) (xs : List X) (ts : List Tree) → Each (OwnAtom IsOwn IsFold IsRun) xs ts → AreItemFolds IsFold IsRun xs ts
each_folds IsOwn IsFold IsRun [] ts h = h
each_folds IsOwn IsFold IsRun (x ∷ xs) ts (us, vs, e, k, h) = (us, vs, e, (holds_covers IsOwn IsFold IsRun x us k).1, each_folds IsOwn IsFold IsRun xs vs h)

folds_each : {X : Type 0} (IsOwn : X → Type 0) (IsFold : X → Tree → Type 0) (IsRun : X → List Tree → Type 0) (xs : List X) (ts : List Tree) → All IsOwn xs → AreItemFolds IsFold IsRun xs ts → Each (OwnAtom IsOwn IsFold IsRun) xs ts
folds_each IsOwn IsFold IsRun [] ts own h = h
folds_each IsOwn IsFold IsRun (x ∷ xs) ts own (us, vs, e, k, h) = (us, vs, e, covers_holds IsOwn IsFold IsRun x us (All-head IsOwn x xs own) k, folds_each IsOwn IsFold IsRun xs vs (All-tail IsOwn x xs own) h)

-- an atom more
pub folds_append : {X : Type 0} (IsFold : X → Tree → Type 0) (IsRun : X → List Tree → Type 0) (xs : List X) (ts : List Tree) (x : X) (us : List Tree) → AreItemFolds IsFold IsRun xs ts → Covers IsFold IsRun x us → AreItemFolds IsFold IsRun (xs ++ x ∷ []) (ts ++ us)
folds_append IsFold IsRun [] ts x us e k = (us, [], ap (λ z. z ++ us) e ∙ sym (append-nil us), k, refl)
folds_append IsFold IsRun (y ∷ xs) ts x us (vs, ws, e, h, hs) k = (vs, ws ++ us, ap (λ z. z ++ us) e ∙ append_assoc vs ws us, h, folds_append IsFold IsRun xs ws x us hs k)

-- what an algebra's own step makes of an array's atoms
pub gains : {X : Type 0} (IsOwn : X → Type 0) (IsFold : X → Tree → Type 0) (IsRun : X → List Tree → Type 0) (xs : List X) (x : X) (ys : List X) → All IsOwn ys
    → ((ts us : List Tree) → AreItemFolds IsFold IsRun xs ts → Covers IsFold IsRun x us → AreItemFolds IsFold IsRun ys (ts ++ us)) → Gains (OwnAtom IsOwn IsFold IsRun) xs x ys
gains IsOwn IsFold IsRun xs x ys own more ts us h k = folds_each IsOwn IsFold IsRun ys (ts ++ us) own (more ts us (each_folds IsOwn IsFold IsRun xs ts h) (holds_covers IsOwn IsFold IsRun x us k).1)

each_member_folds : {X : Type 0} (IsOwn : X → Type 0) (IsFold : X → Tree → Type 0) (IsRun : X → List Tree → Type 0) (xs : List (Member X)) (ps : List (List Character × ℕ × Tree)) → EachMember (OwnAtom IsOwn IsFold IsRun) xs ps → AreMemberFolds IsFold xs (tree_members ps)
each_member_folds IsOwn IsFold IsRun [] [] h = tt
each_member_folds IsOwn IsFold IsRun (x ∷ xs) (p ∷ ps) h = (h.0, h.1, h.2.1, each_member_folds IsOwn IsFold IsRun xs ps h.3)
each_member_folds IsOwn IsFold IsRun _ _ h = absurd h

pub each_own : {X : Type 0} (IsOwn : X → Type 0) (IsFold : X → Tree → Type 0) (IsRun : X → List Tree → Type 0) (xs : List X) (ts : List Tree) → Each (OwnAtom IsOwn IsFold IsRun) xs ts → All IsOwn xs
each_own IsOwn IsFold IsRun [] ts h = All-nil IsOwn
each_own IsOwn IsFold IsRun (x ∷ xs) ts (us, vs, e, k, h) = All-cons IsOwn x xs (holds_covers IsOwn IsFold IsRun x us k).0 (each_own IsOwn IsFold IsRun xs vs h)

each_member_own : {X : Type 0} (IsOwn : X → Type 0) (IsFold : X → Tree → Type 0) (IsRun : X → List Tree → Type 0) (xs : List (Member X)) (ps : List (List Character × ℕ × Tree)) → EachMember (OwnAtom IsOwn IsFold IsRun) xs ps → All (λ m. IsOwn m.value) xs
each_member_own IsOwn IsFold IsRun [] [] h = All-nil (λ m. IsOwn m.value)
each_member_own IsOwn IsFold IsRun (x ∷ xs) (p ∷ ps) h = All-cons (λ m. IsOwn m.value) x xs h.2.0 (each_member_own IsOwn IsFold IsRun xs ps h.3)
each_member_own IsOwn IsFold IsRun _ _ h = absurd h

pub held_own : {X : Type 0} (IsOwn : X → Type 0) (IsFold : X → Tree → Type 0) (IsRun : X → List Tree → Type 0) (h : Held X) (l : Level Tree) → IsHeld (OwnAtom IsOwn IsFold IsRun) h l → AreOwn IsOwn h
held_own IsOwn IsFold IsRun (array_level i s xs) l k = each_own IsOwn IsFold IsRun xs (values_in free l.inside) k.3
held_own IsOwn IsFold IsRun (object_level i s ms) l k = each_member_own IsOwn IsFold IsRun ms (pairs_in free None l.inside) k.3

pub array_built : {X : Type 0} (IsOwn : X → Type 0) (IsFold : X → Tree → Type 0) (IsRun : X → List Tree → Type 0) (i : ℕ) (s : ArrayState) (xs : List X) (x : X) (l : Level Tree) → ((ts : List Tree) → AreItemFolds IsFold IsRun xs ts → IsFold x (array_tree i (trees ts)))
    → IsHeld (OwnAtom IsOwn IsFold IsRun) (array_level i s xs) l → IsFold x (built free l.bracket l.from l.inside)
array_built IsOwn IsFold IsRun i s xs x l f h = rw (h.0, h.1) (f (values_in free l.inside) (each_folds IsOwn IsFold IsRun xs (values_in free l.inside) h.3))

pub object_built : {X : Type 0} (IsOwn : X → Type 0) (IsFold : X → Tree → Type 0) (IsRun : X → List Tree → Type 0) (i : ℕ) (s : ObjectState) (ms : List (Member X)) (x : X) (l : Level Tree) → ((ts : Members) → AreMemberFolds IsFold ms ts → IsFold x (object_tree i ts))
    → IsHeld (OwnAtom IsOwn IsFold IsRun) (object_level i s ms) l → IsFold x (built free l.bracket l.from l.inside)
object_built IsOwn IsFold IsRun i s ms x l f h = rw (h.0, h.1) (f (tree_members (pairs_in free None l.inside)) (each_member_folds IsOwn IsFold IsRun ms (pairs_in free None l.inside) h.3))

-- ---- one mark more

pub values_append : (xs ys : List (Mark Tree)) → values_in free (xs ++ ys) ≡ values_in free xs ++ values_in free ys
values_append [] ys = refl
values_append (quoted i cs ∷ xs) ys = ap (λ z. text i cs ∷ z) (values_append xs ys)
values_append (entry i x ∷ xs) ys = ap (λ z. x ∷ z) (values_append xs ys)
values_append (_ ∷ xs) ys = values_append xs ys

pub pairs_append : (o : Option (List Character × ℕ)) (xs ys : List (Mark Tree)) → pairs_in free o (xs ++ ys) ≡ pairs_in free o xs ++ pairs_in free (pending_in o xs) ys
pairs_append o [] ys = refl
pairs_append None (quoted i cs ∷ xs) ys = pairs_append (Some (cs, i)) xs ys
pairs_append (Some p) (quoted i cs ∷ xs) ys = ap (λ z. (p.0, p.1, text i cs) ∷ z) (pairs_append None xs ys)
pairs_append (Some p) (entry i x ∷ xs) ys = ap (λ z. (p.0, p.1, x) ∷ z) (pairs_append None xs ys)
pairs_append o (_ ∷ xs) ys = pairs_append o xs ys

pub pending_append : (o : Option (List Character × ℕ)) (xs ys : List (Mark Tree)) → pending_in o (xs ++ ys) ≡ pending_in (pending_in o xs) ys
pending_append o [] ys = refl
pending_append None (quoted i cs ∷ xs) ys = pending_append (Some (cs, i)) xs ys
pending_append (Some p) (quoted i cs ∷ xs) ys = pending_append None xs ys
pending_append (Some p) (entry i x ∷ xs) ys = pending_append None xs ys
pending_append o (_ ∷ xs) ys = pending_append o xs ys

-- ---- a value as a mark

value_alone : (v : ValueMark) → values_in free (mark_of v ∷ []) ≡ tree_of v ∷ []
value_alone (string_value i cs) = refl
value_alone (other_value i t) = refl

pub value_pairs : (v : ValueMark) (p : List Character × ℕ) (xs : List (Mark Tree)) → pairs_in free (Some p) (mark_of v ∷ xs) ≡ (p.0, p.1, tree_of v) ∷ pairs_in free None xs
value_pairs (string_value i cs) p xs = refl
value_pairs (other_value i t) p xs = refl

pub value_pending : (v : ValueMark) (p : List Character × ℕ) (xs : List (Mark Tree)) → pending_in (Some p) (mark_of v ∷ xs) ≡ pending_in None xs
value_pending (string_value i cs) p xs = refl
value_pending (other_value i t) p xs = refl

abbrev pub with_one : Level Tree → Mark Tree → Mode → Level Tree
with_one l x n = record { bracket = l.bracket; from = l.from; inside = l.inside ++ (x ∷ []); mode = n }

module _ {X : Type 0} (IsKept : X → Content → Type 0) where
  -- an atom more
  pub each_append : (xs : List X) (ts : List Tree) (x : X) (us : List Tree) → Each IsKept xs ts → Holds IsKept x us → Each IsKept (xs ++ x ∷ []) (ts ++ us)
  each_append [] ts x us e k = (us, [], ap (λ z. z ++ us) e ∙ sym (append-nil us), k, refl)
  each_append (y ∷ xs) ts x us (vs, ws, e, h, hs) k = (vs, ws ++ us, ap (λ z. z ++ us) e ∙ append_assoc vs ws us, h, each_append xs ws x us hs k)

  pub each_cut : (xs : List X) (x : X) (ts : List Tree) → Each IsKept (xs ++ x ∷ []) ts → (us : List Tree) × (vs : List Tree) × ((ts ≡ us ++ vs) × Each IsKept xs us × Holds IsKept x vs)
  each_cut [] x ts (us, vs, e, h, n) = ([], us, (e ∙ (ap (λ z. us ++ z) n ∙ append-nil us), refl, h))
  each_cut (y ∷ xs) x ts (us, vs, e, h, hs) = let r = each_cut xs x vs hs in (us ++ r.0, r.1, (e ∙ (ap (λ z. us ++ z) r.2.0 ∙ sym (append_assoc us r.0 r.1)), (us, r.0, refl, h, r.2.1), r.2.2))

  pub each_member_append : (xs : List (Member X)) (ps : List (List Character × ℕ × Tree)) (x : Member X) (p : List Character × ℕ × Tree) → EachMember IsKept xs ps → x.name ≡ units_of p.0 → x.name_at ≡ p.1 → IsKept x.value (one p.2)
      → EachMember IsKept (xs ++ x ∷ []) (ps ++ p ∷ [])
  each_member_append [] [] x p h e f k = (e, f, k, tt)
  each_member_append (y ∷ xs) (q ∷ ps) x p h e f k = (h.0, h.1, h.2, each_member_append xs ps x p h.3 e f k)
  each_member_append _ _ x p h e f k = absurd h

  -- what a mark makes of what is kept, and of the level: both go on, or neither
  abbrev pub IsMoved : Option (Held X) → Option Mode → Level Tree → Mark Tree → Type 0
  IsMoved (Some h) (Some n) l x = IsHeld IsKept h (with_one l x n)
  IsMoved None None l x = ⊤
  IsMoved _ _ l x = ⊥

  moved_by : (o : Option (Held X)) (l : Level Tree) (x : Mark Tree) (md : Mode) → l.mode ≡ md → IsMoved o (move md (mark_kind x)) l x → IsMoved o (move l.mode (mark_kind x)) l x
  moved_by o l x md e h = subst (λ n. IsMoved o (move n (mark_kind x)) l x) (sym e) h

  -- an array's values and an object's members and name, behind a mark that is no value
  same_values : (xs : List X) (l : Level Tree) (i : ℕ) → Each IsKept xs (values_in free l.inside) → Each IsKept xs (values_in free (l.inside ++ comma i ∷ []))
  same_values xs l i h = subst (Each IsKept xs) (sym (values_append l.inside (comma i ∷ []) ∙ append-nil (values_in free l.inside))) h

  same_members : (ms : List (Member X)) (l : Level Tree) (x : Mark Tree) → ((o : Option (List Character × ℕ)) → pairs_in free o (x ∷ []) ≡ []) → EachMember IsKept ms (pairs_in free None l.inside) → EachMember IsKept ms (pairs_in free None (l.inside ++ x ∷ []))
  same_members ms l x e h = subst (EachMember IsKept ms) (sym (pairs_append None l.inside (x ∷ []) ∙ (ap (λ z. pairs_in free None l.inside ++ z) (e (pending_in None l.inside)) ∙ append-nil (pairs_in free None l.inside)))) h

  same_name : (s : ObjectState) (l : Level Tree) (x : Mark Tree) → ((o : Option (List Character × ℕ)) → pending_in o (x ∷ []) ≡ o) → IsNamed IsKept s (pending_in None l.inside) → IsNamed IsKept s (pending_in None (l.inside ++ x ∷ []))
  same_name s l x e h = subst (IsNamed IsKept s) (sym (pending_append None l.inside (x ∷ []) ∙ e (pending_in None l.inside))) h

  -- where a name may stand, none waits for its value
  pub none_of : (s : ObjectState) (o : Option (List Character × ℕ)) → takes_name {X = X} (object_level 0 s []) ≡ true → IsNamed IsKept s o → o ≡ None
  none_of s None n h = refl
  none_of object.Empty (Some p) n h = absurd h
  none_of object.Comma (Some p) n h = absurd h
  none_of _ (Some p) n h = absurd (true≢false (sym n))

  pub comma_moves : (h : Held X) (l : Level Tree) (i : ℕ) → IsHeld IsKept h l → IsMoved (comma_next h) (move l.mode comma_kind) l (comma i)
  comma_moves (array_level j array.Value xs) l i k = moved_by (Some (array_level j array.Comma xs)) l (comma i) at_after k.2 (k.0, k.1, refl, same_values xs l i k.3)
  comma_moves (object_level j object.Value ms) l i k = moved_by (Some (object_level j object.Comma ms)) l (comma i) at_further k.2
      (k.0, k.1, refl, same_members ms l (comma i) (λ o. refl) k.3, same_name object.Comma l (comma i) (λ o. refl) (as_comma (pending_in None l.inside) k.4))
    where
      as_comma : (o : Option (List Character × ℕ)) → IsNamed IsKept object.Value o → IsNamed IsKept object.Comma o
      as_comma None h = tt
      as_comma (Some p) h = absurd h
  comma_moves _ l i k = moved_by None l (comma i) _ k.2 tt

  pub colon_moves : (h : Held X) (l : Level Tree) (i : ℕ) → IsHeld IsKept h l → IsMoved (colon_next h) (move l.mode colon_kind) l (colon i)
  colon_moves (object_level j (object.Named n) ms) l i k = moved_by (Some (object_level j (object.Colon n) ms)) l (colon i) at_colon k.2
      (k.0, k.1, refl, same_members ms l (colon i) (λ o. refl) k.3, same_name (object.Colon n) l (colon i) (λ o. refl) (as_colon (pending_in None l.inside) k.4))
    where
      as_colon : (o : Option (List Character × ℕ)) → IsNamed IsKept (object.Named n) o → IsNamed IsKept (object.Colon n) o
      as_colon None h = absurd h
      as_colon (Some p) h = h
  colon_moves (array_level j array.Empty xs) l i k = moved_by None l (colon i) at_items k.2 tt
  colon_moves _ l i k = moved_by None l (colon i) _ k.2 tt

  -- a value, which is a mark of one value
  more_values : (xs ys : List X) (l : Level Tree) (x : X) (v : ValueMark) → Each IsKept xs (values_in free l.inside) → IsKept x (one (tree_of v)) → Gains IsKept xs x ys → Each IsKept ys (values_in free (l.inside ++ mark_of v ∷ []))
  more_values xs ys l x v h k more = rw (values_append, value_alone v) (more (values_in free l.inside) (tree_of v ∷ []) h (inl (tree_of v, refl, k)))

  array_value : (j : ℕ) (s : ArrayState) (xs ys : List X) (l : Level Tree) (x : X) (v : ValueMark) → IsHeld IsKept (array_level j s xs) l → IsKept x (one (tree_of v)) → Gains IsKept xs x ys → IsHeld IsKept (array_level j array.Value ys) (with_one l (mark_of v) at_after)
  array_value j s xs ys l x v k p more = (k.0, k.1, refl, more_values xs ys l x v k.3 p more)

  object_value : (j : ℕ) (n : MemberName) (ms : List (Member X)) (l : Level Tree) (x : X) (v : ValueMark) → IsHeld IsKept (object_level j (object.Colon n) ms) l → IsKept x (one (tree_of v))
      → IsHeld IsKept (object_level j object.Value (ms ++ record { name = n.units; name_at = n.at; value = x } ∷ [])) (with_one l (mark_of v) at_further)
  object_value j n ms l x v k p = let b = by_name (pending_in None l.inside) refl k.4 in (k.0, k.1, refl, b.0, b.1)
    where
      by_name : (o : Option (List Character × ℕ)) → pending_in None l.inside ≡ o → IsNamed IsKept (object.Colon n) o
          → EachMember IsKept (ms ++ record { name = n.units; name_at = n.at; value = x } ∷ []) (pairs_in free None (l.inside ++ mark_of v ∷ [])) × IsNamed IsKept object.Value (pending_in None (l.inside ++ mark_of v ∷ []))
      by_name None e h = absurd h
      by_name (Some q) e h = (
        rw (pairs_append, e, value_pairs v q []) (each_member_append ms (pairs_in free None l.inside) (record { name = n.units; name_at = n.at; value = x }) (q.0, q.1, tree_of v) k.3 h.0 h.1 p),
        rw (pending_append, e, value_pending v q []) tt,
      )

  -- it is no name where a name may stand
  abbrev IsNoName : ValueMark → Held X → Type 0
  IsNoName (string_value i cs) h = takes_name h ≡ false
  IsNoName (other_value i t) h = ⊤

  marked_moves : (v : ValueMark) (h : Held X) (l : Level Tree) (x : X) (ys : List X) → IsNoName v h → IsHeld IsKept h l → IsKept x (one (tree_of v)) → GainsIn IsKept h x ys → IsMoved (value_next h x ys) (move l.mode (mark_kind (mark_of v))) l (mark_of v)
  marked_moves (string_value i cs) (object_level j object.Empty ms) l x ys n k p more = absurd (true≢false n)
  marked_moves (string_value i cs) (object_level j object.Comma ms) l x ys n k p more = absurd (true≢false n)
  marked_moves v (array_level j array.Empty xs) l x ys n k p more = moved_by (Some (array_level j array.Value ys)) l (mark_of v) at_items k.2 (array_value j array.Empty xs ys l x v k p more)
  marked_moves v (array_level j array.Comma xs) l x ys n k p more = moved_by (Some (array_level j array.Value ys)) l (mark_of v) at_value k.2 (array_value j array.Comma xs ys l x v k p more)
  marked_moves v (object_level j (object.Colon q) ms) l x ys n k p more =
      moved_by (Some (object_level j object.Value (ms ++ record { name = q.units; name_at = q.at; value = x } ∷ []))) l (mark_of v) at_member k.2 (object_value j q ms l x v k p)
  marked_moves v _ l x ys n k p more = moved_by None l (mark_of v) _ k.2 tt

  pub value_moves : (h : Held X) (l : Level Tree) (i : ℕ) (x : X) (ys : List X) (t : Tree) → IsHeld IsKept h l → IsKept x (one t) → GainsIn IsKept h x ys → IsMoved (value_next h x ys) (move l.mode value_kind) l (entry i t)
  value_moves h l i x ys t k p more = marked_moves (other_value i t) h l x ys tt k p more

  -- a string that is no name
  pub text_moves : (h : Held X) (l : Level Tree) (i : ℕ) (x : X) (ys : List X) (cs : List Character) → takes_name h ≡ false → IsHeld IsKept h l → IsKept x (one (text i cs)) → GainsIn IsKept h x ys → IsMoved (value_next h x ys) (move l.mode text_kind) l (quoted i cs)
  text_moves h l i x ys cs n k p more = marked_moves (string_value i cs) h l x ys n k p more

  -- an array that wants a comma refuses a value, and any other takes it
  pub value_refused : (i : ℕ) (s : ArrayState) (xs : List X) (x : X) (ys : List X) (l : CodeLevel X) → s ≡ array.Value → held_of l ≡ array_level i s xs → IsStep (array_level i s xs) (value_next (array_level i s xs) x ys) (Refused l)
  value_refused i array.Value xs x ys l e h = h
  value_refused i _ xs x ys l e h = absurd (cc)

  pub value_taken : (i : ℕ) (s : ArrayState) (xs : List X) (x : X) (ys : List X) (l : CodeLevel X) → (s ≡ array.Value → ⊥) → held_of l ≡ array_level i array.Value ys → IsStep (array_level i s xs) (value_next (array_level i s xs) x ys) (On l)
  value_taken i array.Value xs x ys l n h = absurd (n refl)
  value_taken i _ xs x ys l n h = h

  -- a name
  named : (j : ℕ) (s : ObjectState) (ms : List (Member X)) (l : Level Tree) (i : ℕ) (q : MemberName) (cs : List Character) → takes_name {X = X} (object_level 0 s []) ≡ true → IsHeld IsKept (object_level j s ms) l → q.units ≡ units_of cs → q.at ≡ i
      → IsHeld IsKept (object_level j (object.Named q) ms) (with_one l (quoted i cs) at_colon)
  named j s ms l i q cs n k e f = let o : pending_in None l.inside ≡ None = none_of s (pending_in None l.inside) n k.4 in
      (k.0, k.1, refl, rw (pairs_append, o, append-nil) k.3, rw (pending_append, o) (e, f))

  pub name_moves : (h : Held X) (l : Level Tree) (i : ℕ) (q : MemberName) (cs : List Character) → takes_name h ≡ true → IsHeld IsKept h l → q.units ≡ units_of cs → q.at ≡ i → IsMoved (name_next h q) (move l.mode text_kind) l (quoted i cs)
  name_moves (object_level j object.Empty ms) l i q cs n k e f = moved_by (Some (object_level j (object.Named q) ms)) l (quoted i cs) at_members k.2 (named j object.Empty ms l i q cs n k e f)
  name_moves (object_level j object.Comma ms) l i q cs n k e f = moved_by (Some (object_level j (object.Named q) ms)) l (quoted i cs) at_name k.2 (named j object.Comma ms l i q cs n k e f)
  name_moves _ l i q cs n k e f = absurd (true≢false (sym n))

  -- the closing bracket
  pub closes_same : (h : Held X) (l : Level Tree) (b : Bracket) → IsHeld IsKept h l → closes_with h b ≡ closes_at l.mode b
  closes_same (array_level j array.Empty xs) l Square k = ap (λ n. closes_at n Square) (sym k.2)
  closes_same (array_level j array.Value xs) l Square k = ap (λ n. closes_at n Square) (sym k.2)
  closes_same (object_level j object.Empty ms) l Square k = ap (λ n. closes_at n Square) (sym k.2)
  closes_same (object_level j object.Value ms) l Square k = ap (λ n. closes_at n Square) (sym k.2)
  closes_same _ l b k = ap (λ n. closes_at n b) (sym k.2)

  pub held_from : (h : Held X) (l : Level Tree) → IsHeld IsKept h l → l.from ≡ from_of h
  held_from (array_level i s xs) l k = k.1
  held_from (object_level i s xs) l k = k.1

  pub opened_is : (b : Bracket) (i : ℕ) → IsHeld IsKept (opened_as b i) (record { bracket = b; from = i; inside = []; mode = first_mode b })
  opened_is Square i = (refl, refl, refl, refl)
  opened_is Brace i = (refl, refl, refl, tt, tt)
