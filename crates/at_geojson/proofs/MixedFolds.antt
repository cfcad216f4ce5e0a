-- Arrays whose items are not all of one sort, some of which may stand for several values.
-- For `add`, `array` and `value`.
use Rattle.std.proofs.Common.{◌≡◌, ◌≢◌, length, inl, inr, ℕ, suc, ◌≤◌, ◌==◌, min, fold, Bool, true, false, ◌&&◌, List, [], ◌∷◌, ◌++◌, All, Option, Some, None, refl, sym, ◌∙◌, ap, subst, append-nil, append_assoc, option_map, option_and_then, arith}
use Rattle.std.specs.List.{list_all, list_any}
use Rattle.std.proofs.Math.Nat.{min-eq_left}
use Rattle.std.proofs.lemmas.Bool.{true≢false, or_parts}
use Rattle.std.proofs.lemmas.List.Elements.{All-nil, All-cons, All-head, All-tail}
use Rattle.at_text.specs.Faults.{fault_at}
use Rattle.at_text.specs.declared.faults.FaultKind.TheVariants.{Form}
use Rattle.at_nest.specs.Folds.{trees, Covers, AreItemFolds}
use Rattle.at_nest.specs.Tree.{Tree, array, object, Trees, Members}
use Rattle.at_query.specs.Keeping.{Asked, needs_shapes}
use Rattle.at_geojson.specs.declared.atoms.atom.GeoAtom.{GeoAtom}
use Rattle.at_geojson.specs.declared.atoms.atom.GeoAtom.TheVariants as atoms
use Rattle.at_geojson.specs.Names.{items_of}
use Rattle.at_geojson.specs.Coordinates.{each, number_at, position_of, position_of_numbers, positions_of, area_of, if_some_items}
use Rattle.at_geojson.specs.Roles.{items_reading}
use Rattle.at_geojson.specs.Atoms.{twin_of, at_of, no_roles, ListsView, lists_view, TrackView, track_view, as_number, as_position, as_points, as_area, Alike, HasShape, HasPart, items_features, IsPosition, IsPoints, IsNumber, IsArea, AreSeries, AreTracked, IsRead, IsRun, IsFold, HaveItems}
use Rattle.at_wkt.specs.Positions.{Position, Positions}
use Rattle.at_geojson.specs.Gathering.{firsts, rank, sort_of, are_all, sort_of_all, is_object, least_of, item_geometries, item_features, JoinsShapes, JoinsFound}
use Rattle.at_geojson.specs.declared.atoms.atom.OtherAtom.{OtherAtom}
use Rattle.at_geojson.specs.Arrays.{MakesItems, ClosesItems}
use Rattle.at_geojson.specs.Series.{is_list}
use Rattle.at_geojson.specs.Tracks.{is_position}
use Rattle.at_geojson.proofs.SortFacts.{is_number as number_sort, is_position as position_sort, is_points as points_sort, is_area as area_sort, no_other}
use Rattle.at_geojson.proofs.Each.{one_none}
use Rattle.at_geojson.proofs.ArrayFolds.{two_forms, HasNoForm, AreForms, forms_none, IsArrayAtom, array_scalar, plain_object, items_read}
use Rattle.at_geojson.proofs.ItemFolds.{have_both, have_covers}
use Rattle.at_geojson.proofs.RunFolds.{items_of_trees, none_each, twins_runs, reads_runs}
use Rattle.at_geojson.proofs.ListRoles.{none_here, none_front, none_back, no_each, list_no_number, list_no_position, list_no_area, position_no_number, position_no_list, position_no_area}

-- ---- atoms

-- an atom that is Form in both roles
abbrev pub IsForm : GeoAtom → Type 0
IsForm a = ((no_roles (at_of a)).geometries ≡ item_geometries a) × ((no_roles (at_of a)).features ≡ item_features a)

-- one without an object
pub form_of : (a : GeoAtom) → is_object a ≡ false → IsForm a
form_of (atoms.Object x) e = absurd (true≢false e)
form_of (atoms.Run x) e = absurd (true≢false e)
form_of _ e = (refl, refl)

pub forms_of : (aa : List GeoAtom) → list_any is_object aa ≡ false → All IsForm aa
forms_of [] e = All-nil IsForm
forms_of (a ∷ aa) e = let none = or_parts (is_object a) (list_any is_object aa) e in All-cons IsForm a aa (form_of a none.0) (forms_of aa none.1)

-- ---- Form of both of two

shapes_form : (m n : ℕ) → JoinsShapes (no_roles m).geometries (no_roles n).geometries (no_roles (min m n)).geometries
shapes_form m n = (fault_at Form (min m n), refl, sym (two_forms m n))

features_form : (m n : ℕ) → JoinsFound (no_roles m).features (no_roles n).features (no_roles (min m n)).features
features_form m n = (fault_at Form (min m n), refl, sym (two_forms m n))

module _ (asked : Asked) where
  pub forms_both : (us vs : List Tree) (m n : ℕ) → HaveItems asked (no_roles m) (trees us) → HaveItems asked (no_roles n) (trees vs) → HaveItems asked (no_roles (min m n)) (trees (us ++ vs))
  forms_both us vs m n h k = have_both asked us vs (no_roles m) (no_roles n) (no_roles (min m n)) (shapes_form m n) (features_form m n) h k

  pub form_covers : (a : GeoAtom) (us : List Tree) → IsForm a → Covers (IsRead asked) (IsRun asked) a us → HaveItems asked (no_roles (at_of a)) (trees us)
  form_covers a us e c = have_covers asked a us (no_roles (at_of a)) e.0 e.1 c

  forms_more : (us : List Tree) (m : ℕ) (aa : List GeoAtom) (vs : List Tree) → HaveItems asked (no_roles m) (trees us) → AreItemFolds (IsRead asked) (IsRun asked) aa vs → All IsForm aa
      → HaveItems asked (no_roles (fold (λ least a. min least (at_of a)) m aa)) (trees (us ++ vs))
  forms_more us m [] vs h f e = subst (λ z. HaveItems asked (no_roles m) (trees z)) (sym (ap (λ z. us ++ z) f ∙ append-nil us)) h
  forms_more us m (a ∷ aa) vs h (ps, qs, s, c, f) e =
      subst (λ z. HaveItems asked (no_roles (fold (λ least b. min least (at_of b)) (min m (at_of a)) aa)) (trees z)) (append_assoc us ps qs ∙ ap (λ z. us ++ z) (sym s))
      (forms_more (us ++ ps) (min m (at_of a)) aa qs (forms_both us ps m (at_of a) h (form_covers a ps (All-head IsForm a aa e) c)) f (All-tail IsForm a aa e))

  pub forms_all : (a : GeoAtom) (aa : List GeoAtom) (ts : List Tree) → AreItemFolds (IsRead asked) (IsRun asked) (a ∷ aa) ts → All IsForm (a ∷ aa) → HaveItems asked (no_roles (least_of (a ∷ aa))) (trees ts)
  forms_all a aa ts (ps, qs, s, c, f) e =
      let l : min (at_of a) (at_of a) ≡ at_of a = (let k : at_of a ≤ at_of a = omega arith in min-eq_left k) in
      subst (λ n. HaveItems asked (no_roles (fold (λ least b. min least (at_of b)) n aa)) (trees ts)) (sym l)
      (subst (λ z. HaveItems asked (no_roles (fold (λ least b. min least (at_of b)) (at_of a) aa)) (trees z)) (sym s) (forms_more ps (at_of a) aa qs (form_covers a ps (All-head IsForm a aa e) c) f (All-tail IsForm a aa e)))

  -- ---- items that are not all of one sort

  -- f gives nothing of an object, of a list of positions and of a position
  record GivesNone {Y : Type 0} (f : Tree → Option Y) : Type 0 where
    objects : (at : ℕ) (ms : Members) → f (object at ms) ≡ None
    lists : (t : Tree) (p : Positions) → positions_of t ≡ Some p → f t ≡ None
    positions : (t : Tree) (p : Position) → position_of t ≡ Some p → f t ≡ None

  no_series : {Y : Type 0} (f : Tree → Option Y) → ((t : Tree) (p : Positions) → positions_of t ≡ Some p → f t ≡ None) → (at : ℕ) (v : ListsView) (us : List Tree) → AreSeries asked at v us → each f us ≡ None
  no_series f n at v us j = go j.lists j.are j.area where
    go : (ls : List Positions) → each positions_of us ≡ Some ls → IsArea asked v ls → each f us ≡ None
    go [] k h = absurd h
    go (p ∷ ls) k h = no_each f positions_of n us p ls k

  no_track : {Y : Type 0} (f : Tree → Option Y) → ((t : Tree) (p : Position) → position_of t ≡ Some p → f t ≡ None) → (at : ℕ) (v : TrackView) (us : List Tree) → AreTracked asked at v us → each f us ≡ None
  no_track f n at v us j = no_each f position_of n us j.first j.rest j.are

  run_none : {Y : Type 0} (f : Tree → Option Y) → GivesNone f → (a : GeoAtom) (us : List Tree) → IsRun asked a us → each f us ≡ None
  run_none f n a us (inl (run, e, j)) = none_each f n.objects us j.some
  run_none f n a us (inr (inl (s, e, j))) = no_series f n.lists s.at (lists_view s.lists.value) us j
  run_none f n a us (inr (inr (t, e, j))) = no_track f n.positions t.at (track_view t.track.value) us j

  no_number : (a : GeoAtom) (us : List Tree) → Covers (IsRead asked) (IsRun asked) a us → (rank (sort_of a) == 1) ≡ false → each number_at us ≡ None
  no_number a us (inl (t, q, r)) k = ap (each number_at) q ∙ none_here number_at t [] (one_none number_at as_number (IsNumber asked) (as_number a) (number_at t) r.coordinates.number (number_sort a ∙ k))
  no_number a us (inr run) k = run_none number_at (record { objects = λ i ms. refl; lists = list_no_number; positions = position_no_number }) a us run

  no_list : (a : GeoAtom) (us : List Tree) → Covers (IsRead asked) (IsRun asked) a us → is_list a ≡ false → each positions_of us ≡ None
  no_list a us (inl (t, q, r)) k = ap (each positions_of) q ∙ none_here positions_of t [] (one_none positions_of as_points (IsPoints asked) (as_points a) (positions_of t) r.coordinates.points (points_sort a r.single ∙ k))
  no_list a us (inr (inl (run, e, j))) k = none_each positions_of (λ i ms. refl) us j.some
  no_list a us (inr (inr (inl (s, e, j)))) k = absurd (true≢false (ap is_list (sym e) ∙ k))
  no_list a us (inr (inr (inr (t, e, j)))) k = no_track positions_of position_no_list t.at (track_view t.track.value) us j

  no_position : (a : GeoAtom) (us : List Tree) → Covers (IsRead asked) (IsRun asked) a us → is_position a ≡ false → each position_of us ≡ None
  no_position a us (inl (t, q, r)) k = ap (each position_of) q ∙ none_here position_of t [] (one_none position_of as_position (IsPosition asked) (as_position a) (position_of t) r.coordinates.position (position_sort a r.single ∙ k))
  no_position a us (inr (inl (run, e, j))) k = none_each position_of (λ i ms. refl) us j.some
  no_position a us (inr (inr (inl (s, e, j)))) k = no_series position_of list_no_position s.at (lists_view s.lists.value) us j
  no_position a us (inr (inr (inr (t, e, j)))) k = absurd (true≢false (ap is_position (sym e) ∙ k))

  no_area : (a : GeoAtom) (us : List Tree) → Covers (IsRead asked) (IsRun asked) a us → (rank (sort_of a) == 4) ≡ false → each area_of us ≡ None
  no_area a us (inl (t, q, r)) k = ap (each area_of) q ∙ none_here area_of t [] (one_none area_of as_area (IsArea asked) (as_area a) (area_of t) r.coordinates.area (area_sort a ∙ k))
  no_area a us (inr run) k = run_none area_of (record { objects = λ i ms. refl; lists = list_no_area; positions = position_no_area }) a us run

  -- where an atom is not of the kind, f gives nothing of some of its trees
  not_all : {Y : Type 0} (f : Tree → Option Y) (kind : GeoAtom → Bool) → ((a : GeoAtom) (us : List Tree) → Covers (IsRead asked) (IsRun asked) a us → kind a ≡ false → each f us ≡ None)
      → (aa : List GeoAtom) (ts : List Tree) → AreItemFolds (IsRead asked) (IsRun asked) aa ts → list_all kind aa ≡ false → each f ts ≡ None
  not_all f kind n [] ts h e = absurd (true≢false e)
  not_all f kind n (a ∷ aa) ts (us, vs, s, c, h) e = ap (each f) s ∙ go (kind a) refl (not_all f kind n aa vs h) where
    go : (b : Bool) → kind a ≡ b → (list_all kind aa ≡ false → each f vs ≡ None) → each f (us ++ vs) ≡ None
    go true k more = none_back f us vs (more (ap (λ b. b && list_all kind aa) (sym k) ∙ e))
    go false k more = none_front f us vs (n a us c k)

  no_form_of : {Y : Type 0} (f : Tree → Option Y) (ts : List Tree) → each f ts ≡ None → each f (items_of (trees ts)) ≡ None
  no_form_of f ts e = ap (each f) (items_of_trees ts) ∙ e

  mixed_form : (at : ℕ) (aa : List GeoAtom) (ts : List Tree) → AreItemFolds (IsRead asked) (IsRun asked) aa ts → ((k : ℕ) → are_all (suc k) aa ≡ false) → HasNoForm asked at (trees ts)
  mixed_form at aa ts h none = record {
    position = ap (option_and_then position_of_numbers) (no_form_of number_at ts (not_all number_at (λ a. rank (sort_of a) == 1) no_number aa ts h (none 0)));
    points = ap (option_map (λ items. record { at = at; items = items })) (no_form_of position_of ts (not_all position_of is_position no_position aa ts h (none 1)));
    lists = no_form_of positions_of ts (not_all positions_of is_list no_list aa ts h (none 2));
    area = ap (option_and_then if_some_items) (no_form_of positions_of ts (not_all positions_of is_list no_list aa ts h (none 2)));
    areas = no_form_of area_of ts (not_all area_of (λ a. rank (sort_of a) == 4) no_area aa ts h (none 3));
  }

  -- ---- the atom of such an array

  pub forms_read : (r : GeoAtom) (at least : ℕ) (ts : Trees) → IsArrayAtom asked r at least → HaveItems asked (no_roles least) ts → AreForms asked at ts r → IsRead asked r (array at ts)
  forms_read r at least ts k h f = record {
    at = k.at_is;
    single = k.single;
    scalar = array_scalar asked r at least ts k;
    coordinates = record { number = subst (λ o. Alike (IsNumber asked) o None) (sym k.number) tt; position = f.position; points = f.points; lists = f.lists; area = f.area; areas = f.areas };
    items = record {
      geometries = subst (λ o. Alike (λ g us. HasShape (needs_shapes asked.query) g (items_reading asked.digits asked.how us)) o (Some ts)) (sym k.geometries) h.0;
      features = λ _. subst (λ o. Alike (λ p us. HasPart asked.query p (items_features asked us)) o (Some ts)) (sym k.features) h.1;
    };
    object = plain_object asked r at ts k.at_is k.role k.texts;
  }

  other_read : (at : ℕ) (a : GeoAtom) (aa : List GeoAtom) (ts : List Tree) → AreItemFolds (IsRead asked) (IsRun asked) (a ∷ aa) ts → HasNoForm asked at (trees ts) → list_any is_object (a ∷ aa) ≡ false
      → IsRead asked (atoms.Other (record { at = at; least = least_of (a ∷ aa) })) (array at (trees ts))
  other_read at a aa ts h f n = forms_read (atoms.Other (record { at = at; least = least_of (a ∷ aa) })) at (least_of (a ∷ aa)) (trees ts)
      (record { at_is = refl; twin = refl; single = refl; null = refl; empty = refl; kind = refl; text = refl; number = refl; role = refl; texts = refl; geometries = refl; features = refl })
      (forms_all a aa ts h (forms_of (a ∷ aa) n)) (forms_none asked at (trees ts) (atoms.Other (record { at = at; least = least_of (a ∷ aa) })) refl refl refl refl refl f)

  pub made_read : (at : ℕ) (a : GeoAtom) (aa : List GeoAtom) (r : GeoAtom) (ts : List Tree) → AreItemFolds (IsRead asked) (IsRun asked) (a ∷ aa) ts → HasNoForm asked at (trees ts) → MakesItems asked at (a ∷ aa) r
      → IsRead asked r (array at (trees ts))
  made_read at a aa r ts h f (inl m) = subst (λ z. IsRead asked z (array at (trees ts))) (sym m.1) (other_read at a aa ts h f m.0)
  made_read at a aa r ts h f (inr m) = let have = m.3 ts h in subst (λ z. IsRead asked z (array at (trees ts))) (sym m.1) (items_read asked at (trees ts) m.0 m.2 f have.0 have.1)

  pub made_twin : (at : ℕ) (aa : List GeoAtom) (r : GeoAtom) → MakesItems asked at aa r → twin_of r ≡ None
  made_twin at aa r (inl m) = ap twin_of m.1
  made_twin at aa r (inr m) = ap twin_of m.1

  pub mixed_folds : (at : ℕ) (aa : List GeoAtom) (r : GeoAtom) → aa ≢ [] → firsts twin_of aa ≡ None → rank (sort_of_all aa) ≡ 0 → MakesItems asked at aa r
      → (ts : List Tree) → AreItemFolds (IsFold asked) (IsRun asked) aa ts → IsFold asked r (array at (trees ts))
  mixed_folds at [] r some n e m ts h = absurd (some refl)
  mixed_folds at (a ∷ aa) r some n e m ts h =
      let read = reads_runs asked (a ∷ aa) ts h n in
      record { twins = made_twin at (a ∷ aa) r m ∙ (sym n ∙ twins_runs asked (a ∷ aa) ts h); read = λ _. made_read at a aa r ts read (mixed_form at (a ∷ aa) ts read none) m } where
        none : (k : ℕ) → are_all (suc k) (a ∷ aa) ≡ false
        none k = no_other (suc k) a aa (λ q. let z : 0 ≡ suc k = sym e ∙ q in omega (arith, z))

  -- an array of one such array
  pub one_other : (at : ℕ) (x : OtherAtom) → ClosesItems asked at (atoms.Other x ∷ []) (atoms.Other (record { at = at; least = x.at }))
  one_other at x =
      let e : x.at ≡ least_of (atoms.Other x ∷ []) = omega arith in
      mixed_folds at (atoms.Other x ∷ []) (atoms.Other (record { at = at; least = x.at })) (λ q. absurd (omega (arith, ap length q))) refl refl (inl (refl, ap (λ n. atoms.Other (record { at = at; least = n })) e))
