-- Arrays of which some items are a run: what their items are one behind another.
-- For `add`, `array` and `value`.
use Rattle.std.proofs.Common.{◌≡◌, inl, inr, ℕ, ◌==◌, Bool, true, false, ◌||◌, List, [], ◌∷◌, ◌++◌, All, Option, Some, None, is_some, refl, sym, ◌∙◌, ap, subst, append-nil, append_assoc}
use Rattle.std.proofs.Common.{option_map, option_and_then}
use Rattle.std.specs.List.{list_any}
use Rattle.std.specs.declared.boxed.Box.{Box}
use Rattle.std.specs.declared.alloc.Global.{Global}
use Rattle.std.proofs.lemmas.Bool.{true≢false, and_parts}
use Rattle.std.proofs.lemmas.List.Elements.{All-nil, All-cons, All-head, All-tail, All-append}
use Rattle.std.proofs.lemmas.List.Folds.{list_any-append}
use Rattle.std.proofs.lemmas.Option.{none-some}
use Rattle.at_text.specs.Faults.{first_fault, first_of}
use Rattle.at_text.specs.declared.faults.Fault.{Fault}
use Rattle.at_text.proofs.FaultOrder.{first_of-append}
use Rattle.at_nest.specs.Folds.{trees, AreFolds, Covers, AreItemFolds, HasBrackets}
use Rattle.at_nest.specs.Tree.{Tree, array, object, Members}
use Rattle.at_nest.specs.Twins.{twins_of, twins_of_items}
use Rattle.at_nest.proofs.Held.{folds_append}
use Rattle.at_query.specs.Keeping.{Asked, asked_texts}
use Rattle.at_geojson.specs.declared.atoms.atom.GeoAtom.{GeoAtom}
use Rattle.at_geojson.specs.declared.atoms.atom.GeoAtom.TheVariants as atoms
use Rattle.at_geojson.specs.declared.atoms.atom.Items.{Items}
use Rattle.at_query.specs.declared.features.TextPair.{TextPair}
use Rattle.at_geojson.specs.Names.{items_of}
use Rattle.at_geojson.specs.Coordinates.{each}
use Rattle.at_geojson.specs.Roles.{texts_of}
use Rattle.at_geojson.specs.Atoms.{Alike, twin_of, as_run, is_object_tree, object_members, IsRead, IsFold, AreJoined, IsRun, AreOwnItems, IfOwnShape, IfOwnPart, IsOwn}
use Rattle.at_geojson.specs.Gathering.{firsts, rank, sort_of, are_all, is_any_object, item_geometries, item_features, JoinsShapes, JoinsFound}
use Rattle.at_geojson.specs.Arrays.{TakesRun}
use Rattle.at_geojson.proofs.Firsts.{firsts-cons}
use Rattle.at_geojson.proofs.Each.{none_left, none_behind}
use Rattle.at_geojson.proofs.ItemFolds.{last_covers, have_both, have_covers}
use Rattle.at_geojson.proofs.OwnFolds.{shapes_own, parts_own, own_joined}

-- ---- trees

twins_append : (us vs : List Tree) → twins_of_items (trees (us ++ vs)) ≡ twins_of_items (trees us) ++ twins_of_items (trees vs)
twins_append [] vs = refl
twins_append (u ∷ us) vs = ap (λ z. twins_of u ++ z) (twins_append us vs) ∙ sym (append_assoc (twins_of u) (twins_of_items (trees us)) (twins_of_items (trees vs)))

pub first_twins : (us vs : List Tree) → first_of (twins_of_items (trees (us ++ vs))) ≡ first_fault (first_of (twins_of_items (trees us))) (first_of (twins_of_items (trees vs)))
first_twins us vs = ap first_of (twins_append us vs) ∙ first_of-append (twins_of_items (trees us)) (twins_of_items (trees vs))

pub items_of_trees : (ts : List Tree) → items_of (trees ts) ≡ ts
items_of_trees [] = refl
items_of_trees (t ∷ ts) = ap (λ z. t ∷ z) (items_of_trees ts)

some_front : (us vs : List Tree) → list_any is_object_tree us ≡ true → list_any is_object_tree (us ++ vs) ≡ true
some_front us vs e = list_any-append is_object_tree us vs ∙ ap (λ b. b || list_any is_object_tree vs) e

-- ---- an object is no coordinates

pub the_object : (t : Tree) → is_object_tree t ≡ true → (at : ℕ) × (ms : Members) × (t ≡ object at ms)
the_object (object at ms) e = (at, ms, refl)
the_object _ e = absurd (true≢false (sym e))

pub none_each : {Y : Type 0} (f : Tree → Option Y) → ((at : ℕ) (ms : Members) → f (object at ms) ≡ None) → (ts : List Tree) → list_any is_object_tree ts ≡ true → each f ts ≡ None
none_each f n [] e = absurd (true≢false (sym e))
none_each {Y} f n (t ∷ ts) e = go (is_object_tree t) refl (none_each f n ts) where
  rest : (p : Option Y) → each f ts ≡ None → option_and_then (λ z. option_map (λ zs. z ∷ zs) (each f ts)) p ≡ None
  rest None k = refl
  rest (Some y) k = ap (λ q. option_map (λ zs. y ∷ zs) q) k

  go : (b : Bool) → is_object_tree t ≡ b → (list_any is_object_tree ts ≡ true → each f ts ≡ None) → each f (t ∷ ts) ≡ None
  go true k more = let (at, ms, q) = the_object t k in ap (λ p. option_and_then (λ z. option_map (λ zs. z ∷ zs) (each f ts)) p) (ap f q ∙ n at ms)
  go false k more = rest (f t) (more (ap (λ b. b || list_any is_object_tree ts) (sym k) ∙ e))

module _ (asked : Asked) where
  -- ---- equal names

  pub twins_covers : (a : GeoAtom) (ts : List Tree) → Covers (IsFold asked) (IsRun asked) a ts → twin_of a ≡ first_of (twins_of_items (trees ts))
  twins_covers a ts (inl (t, e, f)) = f.twins ∙ (ap first_of (sym (append-nil (twins_of t))) ∙ ap (λ z. first_of (twins_of_items (trees z))) (sym e))
  twins_covers a ts (inr (inl (run, e, j))) = ap twin_of e ∙ sym j.twins
  twins_covers a ts (inr (inr (inl (s, e, j)))) = ap twin_of e ∙ sym j.twins
  twins_covers a ts (inr (inr (inr (t, e, j)))) = ap twin_of e ∙ sym j.twins

  pub twins_runs : (aa : List GeoAtom) (ts : List Tree) → AreItemFolds (IsFold asked) (IsRun asked) aa ts → firsts twin_of aa ≡ first_of (twins_of_items (trees ts))
  twins_runs [] ts e = ap (λ z. first_of (twins_of_items (trees z))) (sym e)
  twins_runs (a ∷ aa) ts (us, vs, e, c, h) = firsts-cons twin_of a aa ∙ (ap (λ o. first_fault o (firsts twin_of aa)) (twins_covers a us c)
      ∙ (ap (first_fault (first_of (twins_of_items (trees us)))) (twins_runs aa vs h) ∙ (sym (first_twins us vs) ∙ ap (λ z. first_of (twins_of_items (trees z))) (sym e))))

  -- ---- atoms of which none has equal names

  pub read_covers : (a : GeoAtom) (ts : List Tree) → Covers (IsFold asked) (IsRun asked) a ts → twin_of a ≡ None → Covers (IsRead asked) (IsRun asked) a ts
  read_covers a ts (inl (t, e, f)) n = inl (t, e, f.read n)
  read_covers a ts (inr r) n = inr r

  pub reads_runs : (aa : List GeoAtom) (ts : List Tree) → AreItemFolds (IsFold asked) (IsRun asked) aa ts → firsts twin_of aa ≡ None → AreItemFolds (IsRead asked) (IsRun asked) aa ts
  reads_runs [] ts h e = h
  reads_runs (a ∷ aa) ts (us, vs, s, c, h) e =
      let o = sym (firsts-cons twin_of a aa) ∙ e in
      (us, vs, s, read_covers a us c (none_left (twin_of a) (firsts twin_of aa) o), reads_runs aa vs h (none_behind (twin_of a) (firsts twin_of aa) o))

  -- where all are of a sort of which no several values are, each stands for one tree
  pub single_items : (k : ℕ) → (0 == k) ≡ false → (2 == k) ≡ false → (3 == k) ≡ false → (aa : List GeoAtom) (ts : List Tree) → AreItemFolds (IsFold asked) (IsRun asked) aa ts → are_all k aa ≡ true → AreFolds (IsFold asked) aa (trees ts)
  single_items k z p l [] ts h e = subst (λ w. AreFolds (IsFold asked) [] (trees w)) (sym h) tt
  single_items k z p l (a ∷ aa) ts (us, vs, s, c, h) e =
      let both = and_parts (rank (sort_of a) == k) (are_all k aa) e in
      subst (λ w. AreFolds (IsFold asked) (a ∷ aa) (trees w)) (sym s) (go c both.0 (single_items k z p l aa vs h both.1)) where
        go : Covers (IsFold asked) (IsRun asked) a us → (rank (sort_of a) == k) ≡ true → AreFolds (IsFold asked) aa (trees vs) → AreFolds (IsFold asked) (a ∷ aa) (trees (us ++ vs))
        go (inl (t, q, f)) n more = subst (λ w. AreFolds (IsFold asked) (a ∷ aa) (trees (w ++ vs))) (sym q) (f, more)
        go (inr (inl (run, q, j))) n more = absurd (true≢false (sym n ∙ (ap (λ w. rank (sort_of w) == k) q ∙ z)))
        go (inr (inr (inl (x, q, j)))) n more = absurd (true≢false (sym n ∙ (ap (λ w. rank (sort_of w) == k) q ∙ l)))
        go (inr (inr (inr (x, q, j)))) n more = absurd (true≢false (sym n ∙ (ap (λ w. rank (sort_of w) == k) q ∙ p)))

  -- ---- the atom of an array in which some object has equal names

  pub twin_runs : (at : ℕ) (aa : List GeoAtom) (ts : List Tree) (fault : Fault) → AreItemFolds (IsFold asked) (IsRun asked) aa ts → firsts twin_of aa ≡ Some fault → IsFold asked (atoms.Twin fault) (array at (trees ts))
  twin_runs at aa ts fault h e = record { twins = sym e ∙ twins_runs aa ts h; read = λ z. absurd (none-some fault (sym z)) }

  -- ---- what is put behind an array's items

  no_twin : (a : GeoAtom) → is_any_object a ≡ true → twin_of a ≡ None
  no_twin (atoms.Twin f) e = absurd (true≢false (sym e))
  no_twin _ e = refl

  texts_there : (kept : List TextPair) (o : Option Members) → Alike (λ kept ms. kept ≡ asked_texts asked.query.tests (texts_of ms)) (Some kept) o → is_some o ≡ true
  texts_there kept (Some ms) h = refl
  texts_there kept None h = absurd h

  pub object_there : (a : GeoAtom) (t : Tree) → is_any_object a ≡ true → IsRead asked a t → is_object_tree t ≡ true
  object_there (atoms.Object x) t n r = texts_there x.roles.value.texts (object_members t) r.object.texts
  object_there (atoms.Void at) t n r = texts_there [] (object_members t) r.object.texts
  object_there (atoms.Run run) t n r = absurd (none-some run.value (sym r.single))
  object_there _ t n r = absurd (true≢false (sym n))

  -- an object has brackets
  pub object_brackets : (a : GeoAtom) (t : Tree) → is_any_object a ≡ true → IsFold asked a t → HasBrackets t
  object_brackets a t n f = let (i, ms, e) = the_object t (object_there a t n (f.read (no_twin a n))) in subst HasBrackets (sym e) tt

  -- a run is no value
  no_value : (run : Box Items Global) (t : Tree) → IsFold asked (atoms.Run run) t → ⊥
  no_value run t f = none-some run.value (sym (f.read refl).single)

  some_covers : (a : GeoAtom) (ts : List Tree) → Covers (IsRead asked) (IsRun asked) a ts → is_any_object a ≡ true → list_any is_object_tree ts ≡ true
  some_covers a ts (inl (t, e, r)) n = ap (list_any is_object_tree) e ∙ ap (λ b. b || false) (object_there a t n r)
  some_covers a ts (inr (inl (run, e, j))) n = j.some
  some_covers a ts (inr (inr (inl (s, e, j)))) n = absurd (true≢false (sym n ∙ ap is_any_object e))
  some_covers a ts (inr (inr (inr (t, e, j)))) n = absurd (true≢false (sym n ∙ ap is_any_object e))

  -- an atom that joins a run, and what it is beside the items of that
  pub joined_covers : (a : GeoAtom) (ts : List Tree) (one : Items) → is_any_object a ≡ true → one.geometries ≡ item_geometries a → one.features ≡ item_features a
      → Covers (IsFold asked) (IsRun asked) a ts → AreJoined asked one ts
  joined_covers a ts one n eg ef c =
      let read = read_covers a ts c (no_twin a n) in
      record { twins = sym (twins_covers a ts c) ∙ no_twin a n; some = some_covers a ts read n; have = have_covers asked a ts one eg ef read }

  pub joined_both : (us vs : List Tree) (old more new : Items) → JoinsShapes old.geometries more.geometries new.geometries → JoinsFound old.features more.features new.features
      → AreJoined asked old us → AreJoined asked more vs → AreJoined asked new (us ++ vs)
  joined_both us vs old more new j k h g = record {
    twins = first_twins us vs ∙ (ap (λ o. first_fault o (first_of (twins_of_items (trees vs)))) h.twins ∙ g.twins);
    some = some_front us vs h.some;
    have = have_both asked us vs old more new j k h.have g.have;
  }

  -- what a run stands for
  pub run_joined : (old : Box Items Global) (vs : List Tree) → Covers (IsFold asked) (IsRun asked) (atoms.Run old) vs → AreJoined asked old.value vs
  run_joined old vs (inl (t, q, f)) = absurd (no_value old t f)
  run_joined old vs (inr (inl (run, q, r))) = subst (λ i. AreJoined asked i vs) (sym (ap (λ (o : Option Items). elim o [ None ↦ old.value | Some i ↦ i ]) (ap as_run q))) r
  run_joined old vs (inr (inr (inl (s, q, r)))) = absurd (true≢false (ap is_any_object q))
  run_joined old vs (inr (inr (inr (t, q, r)))) = absurd (true≢false (ap is_any_object q))

  -- the last item is a run, and takes the atom
  pub adds_to_run : (xs : List GeoAtom) (old new : Box Items Global) (a : GeoAtom) (one : Items) → is_any_object a ≡ true → one.geometries ≡ item_geometries a → one.features ≡ item_features a
      → JoinsShapes old.value.geometries one.geometries new.value.geometries → JoinsFound old.value.features one.features new.value.features
      → (ts us : List Tree) → AreItemFolds (IsFold asked) (IsRun asked) (xs ++ atoms.Run old ∷ []) ts → Covers (IsFold asked) (IsRun asked) a us
      → AreItemFolds (IsFold asked) (IsRun asked) (xs ++ atoms.Run new ∷ []) (ts ++ us)
  adds_to_run xs old new a one n eg ef j k ts us h c =
      let (ps, qs, e, hs, d) = last_covers (IsFold asked) (IsRun asked) xs (atoms.Run old) ts h in
      subst (λ z. AreItemFolds (IsFold asked) (IsRun asked) (xs ++ atoms.Run new ∷ []) z) (sym (ap (λ z. z ++ us) e ∙ append_assoc ps qs us))
      (folds_append (IsFold asked) (IsRun asked) xs ps (atoms.Run new) (qs ++ us) hs (inr (inl (new, refl, joined_both qs us old.value one new.value j k (run_joined old qs d) (joined_covers a us one n eg ef c)))))

  -- a run of the atom alone
  pub adds_run : (xs : List GeoAtom) (new : Box Items Global) (a : GeoAtom) → is_any_object a ≡ true → new.value.geometries ≡ item_geometries a → new.value.features ≡ item_features a
      → (ts us : List Tree) → AreItemFolds (IsFold asked) (IsRun asked) xs ts → Covers (IsFold asked) (IsRun asked) a us
      → AreItemFolds (IsFold asked) (IsRun asked) (xs ++ atoms.Run new ∷ []) (ts ++ us)
  adds_run xs new a n eg ef ts us h c = folds_append (IsFold asked) (IsRun asked) xs ts (atoms.Run new) us h (inr (inl (new, refl, joined_covers a us new.value n eg ef c)))

  -- the last item begins a run
  pub begins_run : (xs : List GeoAtom) (new : Box Items Global) (a : GeoAtom) → is_any_object a ≡ true → new.value.geometries ≡ item_geometries a → new.value.features ≡ item_features a
      → (ts : List Tree) → AreItemFolds (IsFold asked) (IsRun asked) (xs ++ a ∷ []) ts → AreItemFolds (IsFold asked) (IsRun asked) (xs ++ atoms.Run new ∷ []) ts
  begins_run xs new a n eg ef ts h =
      let (ps, qs, e, hs, c) = last_covers (IsFold asked) (IsRun asked) xs a ts h in
      subst (λ z. AreItemFolds (IsFold asked) (IsRun asked) (xs ++ atoms.Run new ∷ []) z) (sym e) (adds_run xs new a n eg ef ps qs hs c)

  -- the last two are runs, and become one
  settles_runs : (xs : List GeoAtom) (before run new : Box Items Global)
      → JoinsShapes before.value.geometries run.value.geometries new.value.geometries → JoinsFound before.value.features run.value.features new.value.features
      → (ts : List Tree) → AreItemFolds (IsFold asked) (IsRun asked) ((xs ++ atoms.Run before ∷ []) ++ atoms.Run run ∷ []) ts
      → AreItemFolds (IsFold asked) (IsRun asked) (xs ++ atoms.Run new ∷ []) ts
  settles_runs xs before run new j k ts h =
      let (ps, qs, e, hs, c) = last_covers (IsFold asked) (IsRun asked) (xs ++ atoms.Run before ∷ []) (atoms.Run run) ts h in
      subst (λ z. AreItemFolds (IsFold asked) (IsRun asked) (xs ++ atoms.Run new ∷ []) z) (sym e)
      (adds_to_run xs before new (atoms.Run run) run.value refl refl refl j k ps qs hs c)

  -- what stands before the run that is taken off, and that run
  pub settles_taken : (items xs : List GeoAtom) (before run new : Box Items Global) → items ≡ xs ++ atoms.Run before ∷ []
      → JoinsShapes before.value.geometries run.value.geometries new.value.geometries → JoinsFound before.value.features run.value.features new.value.features
      → (ts : List Tree) → AreItemFolds (IsFold asked) (IsRun asked) (items ++ atoms.Run run ∷ []) ts
      → AreItemFolds (IsFold asked) (IsRun asked) (xs ++ atoms.Run new ∷ []) ts
  settles_taken items xs before run new e j k ts h = settles_runs xs before run new j k ts (subst (λ (z : List GeoAtom). AreItemFolds (IsFold asked) (IsRun asked) (z ++ atoms.Run run ∷ []) ts) e h)

  -- the run that is taken off is the algebra's own, and so is what stands before it
  own_parts : (xs : List GeoAtom) (run : Box Items Global) → All (IsOwn asked) (xs ++ atoms.Run run ∷ []) → All (IsOwn asked) xs × AreOwnItems asked run.value
  own_parts [] run h = (All-nil (IsOwn asked), All-head (IsOwn asked) (atoms.Run run) [] h)
  own_parts (x ∷ xs) run h =
      let rest = own_parts xs run (All-tail (IsOwn asked) x (xs ++ atoms.Run run ∷ []) h) in
      (All-cons (IsOwn asked) x xs (All-head (IsOwn asked) x (xs ++ atoms.Run run ∷ []) h) rest.0, rest.1)

  -- what is left and the run that is taken off
  pub taken_off : (items xs : List GeoAtom) (o : Option (Box Items Global)) (run : Box Items Global) → TakesRun items xs o → o ≡ Some run → items ≡ xs ++ atoms.Run run ∷ []
  taken_off items xs o run h e = subst (TakesRun items xs) e h

  pub taken_run_own : (items xs : List GeoAtom) (run : Box Items Global) → items ≡ xs ++ atoms.Run run ∷ [] → All (IsOwn asked) items → All (IsOwn asked) xs × AreOwnItems asked run.value
  taken_run_own items xs run e h = own_parts xs run (subst (All (IsOwn asked)) e h)

  pub joined_own : (old more new : Items) → JoinsShapes old.geometries more.geometries new.geometries → JoinsFound old.features more.features new.features
      → AreOwnItems asked old → AreOwnItems asked more → AreOwnItems asked new
  joined_own old more new j k h g = (shapes_own asked old.geometries more.geometries new.geometries j h.0 g.0, parts_own asked old.features more.features new.features k h.1 g.1)

  -- what is taken of an atom is the algebra's own
  pub taken_own : (a : GeoAtom) (one : Items) → one.geometries ≡ item_geometries a → one.features ≡ item_features a → IsOwn asked a → AreOwnItems asked one
  taken_own a one eg ef h = let own = own_joined asked a h in (subst (λ z. IfOwnShape asked z) (sym eg) own.0, subst (λ z. IfOwnPart asked z) (sym ef) own.1)

  pub own_behind : (xs : List GeoAtom) (a : GeoAtom) → All (IsOwn asked) xs → IsOwn asked a → All (IsOwn asked) (xs ++ a ∷ [])
  own_behind xs a h k = All-append (IsOwn asked) xs (a ∷ []) h (All-cons (IsOwn asked) a [] k (All-nil (IsOwn asked)))
