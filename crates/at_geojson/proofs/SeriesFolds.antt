-- Series: lists of positions one behind another, and the array of just these.
-- For `add`, `array` and `value`.
use Rattle.std.proofs.Common.{◌≡◌, inl, inr, ◌⊎◌, ℕ, min, Bool, true, false, ◌&&◌, ◌||◌, List, [], ◌∷◌, ◌++◌, All, map, flat_map, Option, Some, None, is_none, is_some, refl, sym, ◌∙◌, ap, subst, append-nil, append_assoc, option_map, option_and_then}
use Rattle.std.specs.List.{list_all}
use Rattle.std.proofs.lemmas.Bool.{true≢false}
use Rattle.std.proofs.lemmas.Option.{none-some}
use Rattle.std.proofs.lemmas.List.{map-append}
use Rattle.std.proofs.lemmas.List.Concat.{flat_map-cons, flat_map-append}
use Rattle.std.proofs.lemmas.List.Elements.{All-nil, All-cons, All-append}
use Rattle.std.proofs.lemmas.List.Folds.{list_all-append}
use Rattle.at_text.specs.Faults.{first_fault, first_of}
use Rattle.at_text.specs.declared.faults.Fault.{Fault}
use Rattle.at_geom.specs.declared.positions.Pos.{Pos}
use Rattle.at_geom.specs.Segments.{IsInRange}
use Rattle.at_geom.specs.Shapes.{ArePathsInRange}
use Rattle.at_text.proofs.FaultOrder.{first_of-append}
use Rattle.at_wkt.specs.Positions.{Positions, faults_of_line, faults_of_ring, path_of as positions_path}
use Rattle.at_nest.specs.Folds.{trees, Covers, AreItemFolds}
use Rattle.at_nest.specs.Tree.{Tree, array}
use Rattle.at_nest.specs.Twins.{twins_of_items}
use Rattle.at_nest.proofs.Held.{folds_append}
use Rattle.at_query.specs.Keeping.{Asked, needs_shapes, kept}
use Rattle.at_geojson.specs.declared.atoms.atom.GeoAtom.{GeoAtom}
use Rattle.at_geojson.specs.declared.atoms.atom.GeoAtom.TheVariants as atoms
use Rattle.at_geojson.specs.declared.atoms.atom.ListsAtom.{ListsAtom}
use Rattle.at_geojson.specs.declared.atoms.atom.SeriesAtom.{SeriesAtom}
use Rattle.at_geojson.specs.Names.{items_of}
use Rattle.at_geojson.specs.Coordinates.{each, position_of, position_of_numbers, positions_of, number_at, lists_of, area_of, areas_of, if_some_items}
use Rattle.at_geojson.specs.Atoms.{twin_of, at_of, as_run, as_points, as_lists, as_area, no_roles, both_forms, lists_view, PointsView, ListsView, IsPosition, IsPoints, IsLists, IsArea, IsAreas, IsOwn, AreSeries, IsRead, IsRun, IsFold}
use Rattle.at_geojson.specs.Gathering.{seen, is_object, fault_as_line, fault_as_ring, path_in}
use Rattle.at_geojson.specs.Series.{is_list, as_series, lines_of, rings_of, paths_of, Begins, Joins, JoinsIf, IfOwnSeries, HasSeries, JoinsLists}
use Rattle.at_geojson.proofs.Each.{none_left, none_behind, one_some}
use Rattle.at_geojson.proofs.CoordinateFolds.{alike_at, line_fault_is, ring_fault_is, path_of_line, path_of_ring}
use Rattle.at_geojson.proofs.RowFolds.{kept_append}
use Rattle.at_geojson.proofs.OwnFolds.{all_kept, path_in_range}
use Rattle.at_geojson.proofs.ItemFolds.{last_covers}
use Rattle.at_geojson.proofs.RunFolds.{items_of_trees, first_twins, twins_covers}
use Rattle.at_geojson.proofs.ListRoles.{each_append, no_each, list_no_number, list_no_position, list_no_area}
use Rattle.at_geojson.proofs.MixedFolds.{form_of, forms_both, form_covers, forms_read}

-- ---- atoms that are lists

-- a value that is a list, or a series
list_cases : (a : GeoAtom) → is_list a ≡ true → ((as_series a ≡ None) × (v : PointsView) × (as_points a ≡ Some v)) ⊎ ((s : SeriesAtom) × (a ≡ atoms.Series s))
list_cases (atoms.Empty n) e = inl (refl, _, refl)
list_cases (atoms.Points x) e = inl (refl, _, refl)
list_cases (atoms.Series s) e = inr (s, refl)
list_cases _ e = absurd (true≢false (sym e))

list_no_twin : (a : GeoAtom) → is_list a ≡ true → twin_of a ≡ None
list_no_twin (atoms.Twin f) e = absurd (true≢false (sym e))
list_no_twin _ e = refl

list_no_object : (a : GeoAtom) → is_list a ≡ true → is_object a ≡ false
list_no_object (atoms.Object x) e = absurd (true≢false (sym e))
list_no_object (atoms.Run x) e = absurd (true≢false (sym e))
list_no_object _ e = refl

kept_one : {X : Type 0} (b : Bool) (xs ys : List X) → xs ≡ kept b ys → kept b (xs ∷ []) ≡ kept b (ys ∷ [])
kept_one true xs ys e = ap (λ z. z ∷ []) e
kept_one false xs ys e = refl

or_true : (b : Bool) → (b || true) ≡ true
or_true true = refl
or_true false = refl

abbrev view_of_lists : List (List Pos) → Option Fault → Option Fault → ListsView
view_of_lists p a c = record { paths = p; as_lines = a; as_rings = c }

view_same : {p q : List (List Pos)} {a b c d : Option Fault} → q ≡ p → b ≡ a → d ≡ c → view_of_lists q b d ≡ view_of_lists p a c
view_same {p} {q} {a} {b} {c} {d} h i j = ap (λ z. view_of_lists z b d) h ∙ (ap (λ z. view_of_lists p z d) i ∙ ap (λ z. view_of_lists p a z) j)

abbrev view_of : Bool → GeoAtom → ListsView
view_of needs a = record { paths = paths_of needs a; as_lines = lines_of a; as_rings = rings_of a }

module _ (asked : Asked) where
  abbrev needs : Bool
  needs = needs_shapes asked.query

  abbrev lines : Positions → List Fault
  lines = faults_of_line asked.digits asked.how

  abbrev rings : Positions → List Fault
  rings = faults_of_ring asked.digits asked.how

  abbrev path : Positions → List Pos
  path = positions_path asked.digits asked.how

  one_flat : (f : Positions → List Fault) (p : Positions) → first_of (f p) ≡ first_of (flat_map f (p ∷ []))
  one_flat f p = ap first_of (sym (flat_map-cons f p [] ∙ append-nil (f p)))

  -- ---- one atom

  one_list : (a : GeoAtom) (p : Positions) (v : PointsView) → as_series a ≡ None → as_points a ≡ Some v → IsPoints asked v p → IsLists asked (view_of needs a) (p ∷ [])
  one_list a p v n e i = record {
    as_lines = ap (seen (fault_as_line a) (λ (s : SeriesAtom). s.lists.value.as_lines)) n ∙ (line_fault_is asked a p (v, e, i) ∙ one_flat lines p);
    as_rings = ap (seen (fault_as_ring a) (λ (s : SeriesAtom). s.lists.value.as_rings)) n ∙ (ring_fault_is asked a p (v, e, i) ∙ one_flat rings p);
    lines = λ k. paths ∙ kept_one needs (path_in a) (path p) (path_of_line asked a p (v, e, i) (sym (ap (seen (fault_as_line a) (λ (s : SeriesAtom). s.lists.value.as_lines)) n) ∙ k));
    rings = λ k. paths ∙ kept_one needs (path_in a) (path p) (path_of_ring asked a p (v, e, i) (sym (ap (seen (fault_as_ring a) (λ (s : SeriesAtom). s.lists.value.as_rings)) n) ∙ k));
  } where
    paths : paths_of needs a ≡ kept needs (path_in a ∷ [])
    paths = ap (seen (kept needs (path_in a ∷ [])) (λ (s : SeriesAtom). s.lists.value.paths.items)) n

  -- a list, or several, as a series
  pub list_covers : (a : GeoAtom) (ts : List Tree) → is_list a ≡ true → Covers (IsFold asked) (IsRun asked) a ts → AreSeries asked (at_of a) (view_of needs a) ts
  list_covers a ts k (inl (t, e, f)) = go (list_cases a k) where
    twins : twin_of a ≡ None
    twins = list_no_twin a k

    go : ((as_series a ≡ None) × (v : PointsView) × (as_points a ≡ Some v)) ⊎ ((s : SeriesAtom) × (a ≡ atoms.Series s)) → AreSeries asked (at_of a) (view_of needs a) ts
    go (inr (s, q)) = absurd (none-some (no_roles s.at) (sym (ap as_run (sym q) ∙ (f.read twins).single)))
    go (inl (n, v, ev)) =
        let (x, p, ex, ep, i) = one_some positions_of as_points (IsPoints asked) (as_points a) (positions_of t) (f.read twins).coordinates.points (ap is_some ev) in
        record {
          twins = sym (twins_covers asked a ts (inl (t, e, f))) ∙ twins;
          lists = p ∷ [];
          are = ap (each positions_of) e ∙ ap (λ o. option_and_then (λ y. option_map (λ ys. y ∷ ys) (Some [])) o) ep;
          area = one_list a p x n ex i;
          have = form_covers asked a ts (form_of a (list_no_object a k)) (inl (t, e, f.read twins));
        }
  list_covers a ts k (inr (inl (run, e, j))) = absurd (true≢false (sym k ∙ ap is_list e))
  list_covers a ts k (inr (inr (inr (t, e, j)))) = absurd (true≢false (sym k ∙ ap is_list e))
  list_covers a ts k (inr (inr (inl (s, e, j)))) = subst (λ z. AreSeries asked (at_of z) (view_of needs z) ts) (sym e) j

  -- ---- lists behind others

  lists_append : (v w u : ListsView) (ls ks : List Positions) → u.as_lines ≡ first_fault v.as_lines w.as_lines → u.as_rings ≡ first_fault v.as_rings w.as_rings
      → u.paths ≡ kept (is_none u.as_lines || is_none u.as_rings) (v.paths ++ w.paths) → IsLists asked v ls → IsLists asked w ks → IsLists asked u (ls ++ ks)
  lists_append v w u ls ks el er ep h k = record {
    as_lines = el ∙ faults lines v.as_lines w.as_lines h.as_lines k.as_lines;
    as_rings = er ∙ faults rings v.as_rings w.as_rings h.as_rings k.as_rings;
    lines = λ n. ep ∙ (ap (λ o. kept (is_none o || is_none u.as_rings) (v.paths ++ w.paths)) n
        ∙ paths (h.lines (none_left v.as_lines w.as_lines (sym el ∙ n))) (k.lines (none_behind v.as_lines w.as_lines (sym el ∙ n))));
    rings = λ n. ep ∙ (ap (λ o. kept (is_none u.as_lines || is_none o) (v.paths ++ w.paths)) n ∙ (ap (λ b. kept b (v.paths ++ w.paths)) (or_true (is_none u.as_lines))
        ∙ paths (h.rings (none_left v.as_rings w.as_rings (sym er ∙ n))) (k.rings (none_behind v.as_rings w.as_rings (sym er ∙ n)))));
  } where
    faults : (f : Positions → List Fault) (o p : Option Fault) → o ≡ first_of (flat_map f ls) → p ≡ first_of (flat_map f ks) → first_fault o p ≡ first_of (flat_map f (ls ++ ks))
    faults f o p e g = ap (λ z. first_fault z p) e ∙ (ap (first_fault (first_of (flat_map f ls))) g ∙ (sym (first_of-append (flat_map f ls) (flat_map f ks)) ∙ ap first_of (sym (flat_map-append f ls ks))))

    paths : v.paths ≡ kept needs (map path ls) → w.paths ≡ kept needs (map path ks) → v.paths ++ w.paths ≡ kept needs (map path (ls ++ ks))
    paths e g = ap (λ z. z ++ w.paths) e ∙ (ap (λ z. kept needs (map path ls) ++ z) g ∙ (kept_append needs (map path ls) (map path ks) ∙ ap (kept needs) (sym (map-append path ls ks))))

  area_append : (v w u : ListsView) (ls ks : List Positions) → u.as_lines ≡ first_fault v.as_lines w.as_lines → u.as_rings ≡ first_fault v.as_rings w.as_rings
      → u.paths ≡ kept (is_none u.as_lines || is_none u.as_rings) (v.paths ++ w.paths) → IsArea asked v ls → IsArea asked w ks → IsArea asked u (ls ++ ks)
  area_append v w u [] ks el er ep h k = absurd h
  area_append v w u (l ∷ ls) [] el er ep h k = absurd k
  area_append v w u (l ∷ ls) (m ∷ ks) el er ep h k = lists_append v w u (l ∷ ls) (m ∷ ks) el er ep h k

  pub series_append : (m n : ℕ) (v w u : ListsView) (us vs : List Tree) → u.as_lines ≡ first_fault v.as_lines w.as_lines → u.as_rings ≡ first_fault v.as_rings w.as_rings
      → u.paths ≡ kept (is_none u.as_lines || is_none u.as_rings) (v.paths ++ w.paths) → AreSeries asked m v us → AreSeries asked n w vs → AreSeries asked (min m n) u (us ++ vs)
  series_append m n v w u us vs el er ep h k = record {
    twins = first_twins us vs ∙ (ap (λ o. first_fault o (first_of (twins_of_items (trees vs)))) h.twins ∙ k.twins);
    lists = h.lists ++ k.lists;
    are = each_append positions_of us vs h.lists k.lists h.are k.are;
    area = area_append v w u h.lists k.lists el er ep h.area k.area;
    have = forms_both asked us vs m n h.have k.have;
  }

  -- ---- series

  abbrev IsSeries : SeriesAtom → List Tree → Type 0
  IsSeries s ts = AreSeries asked s.at (lists_view s.lists.value) ts

  begins_series : (b : Bool) (a : GeoAtom) (s : SeriesAtom) (ts : List Tree) → b ≡ needs → is_list a ≡ true → Begins b a s → Covers (IsFold asked) (IsRun asked) a ts → IsSeries s ts
  begins_series b a s ts eb k m c =
      subst (λ n. AreSeries asked n (lists_view s.lists.value) ts) (sym m.at)
      (subst (λ v. AreSeries asked (at_of a) v ts) (sym (view_same (m.paths ∙ ap (λ z. paths_of z a) eb) m.as_lines m.as_rings)) (list_covers a ts k c))

  joins_series : (b : Bool) (old : SeriesAtom) (a : GeoAtom) (new : SeriesAtom) (us vs : List Tree) → b ≡ needs → is_list a ≡ true → Joins b old a new → IsSeries old us → Covers (IsFold asked) (IsRun asked) a vs → IsSeries new (us ++ vs)
  joins_series b old a new us vs eb k m h c =
      let l = m.lists in
      subst (λ n. AreSeries asked n (lists_view new.lists.value) (us ++ vs)) (sym m.at)
      (series_append old.at (at_of a) (lists_view old.lists.value) (view_of needs a) (lists_view new.lists.value) us vs l.as_lines l.as_rings
      (l.paths ∙ ap (λ z. kept (is_none new.lists.value.as_lines || is_none new.lists.value.as_rings) (old.lists.value.paths.items ++ paths_of z a)) eb) h (list_covers a vs k c))

  -- the last item is a list, and takes the lists of the atom
  pub adds_lists : (b : Bool) (xs : List GeoAtom) (last a : GeoAtom) (before new : SeriesAtom) → b ≡ needs → is_list last ≡ true → is_list a ≡ true → Begins b last before → Joins b before a new
      → (ts us : List Tree) → AreItemFolds (IsFold asked) (IsRun asked) (xs ++ last ∷ []) ts → Covers (IsFold asked) (IsRun asked) a us
      → AreItemFolds (IsFold asked) (IsRun asked) (xs ++ atoms.Series new ∷ []) (ts ++ us)
  adds_lists b xs last a before new eb kl ka m j ts us h c =
      let (ps, qs, e, hs, d) = last_covers (IsFold asked) (IsRun asked) xs last ts h in
      subst (λ z. AreItemFolds (IsFold asked) (IsRun asked) (xs ++ atoms.Series new ∷ []) z) (sym (ap (λ z. z ++ us) e ∙ append_assoc ps qs us))
      (folds_append (IsFold asked) (IsRun asked) xs ps (atoms.Series new) (qs ++ us) hs (inr (inr (inl (new, refl, joins_series b before a new qs us eb ka j (begins_series b last before qs eb kl m d) c)))))

  -- ---- all items

  and_both : (a b : Bool) → (a && b) ≡ true → (a ≡ true) × (b ≡ true)
  and_both true b e = (refl, e)
  and_both false b e = absurd (true≢false (sym e))

  pub one_more : (b : Bool) (xs : List GeoAtom) (a : GeoAtom) (o : Option SeriesAtom) (new : SeriesAtom) → b ≡ needs → JoinsIf b o a new → JoinsLists asked xs o → JoinsLists asked (xs ++ a ∷ []) (Some new)
  one_more b xs a o new eb j h e ts f =
      let both = and_both (list_all is_list xs) (is_list a && true) (sym (list_all-append is_list xs (a ∷ [])) ∙ e) in
      let here = and_both (is_list a) true both.1 in
      let (us, vs, s, fs, c) = last_covers (IsFold asked) (IsRun asked) xs a ts f in
      subst (IsSeries new) (sym s) (go o us vs j (h both.0 us fs) here.0 c) where
        go : (q : Option SeriesAtom) (us vs : List Tree) → JoinsIf b q a new → HasSeries asked q us → is_list a ≡ true → Covers (IsFold asked) (IsRun asked) a vs → IsSeries new (us ++ vs)
        go (Some old) us vs k g l c = joins_series b old a new us vs eb l k g c
        go None us vs k g l c = subst (λ z. IsSeries new (z ++ vs)) (sym g) (begins_series b a new vs eb l k c)

  -- ---- the array of a series

  pub series_folds : (at : ℕ) (m : ListsAtom) (s : SeriesAtom) (ts : List Tree) → m.at ≡ at → m.least ≡ s.at → m.lists.value ≡ s.lists.value → IsSeries s ts → IsFold asked (atoms.Lists m) (array at (trees ts))
  series_folds at m s ts ea el ev h = record { twins = sym h.twins; read = λ _. go h.lists h.are h.area } where
    them : {Y : Type 0} (f : Tree → Option Y) → each f (items_of (trees ts)) ≡ each f ts
    them f = ap (each f) (items_of_trees ts)

    go : (ls : List Positions) → each positions_of ts ≡ Some ls → IsArea asked (lists_view s.lists.value) ls → IsRead asked (atoms.Lists m) (array at (trees ts))
    go [] e i = absurd i
    go (l ∷ ls) e i =
        let lists = them positions_of ∙ e in
        let kept_is = subst (λ v. IsLists asked (lists_view v) (l ∷ ls)) (sym ev) i in
        forms_read asked (atoms.Lists m) at s.at (trees ts)
        (record { at_is = ea; twin = refl; single = refl; null = refl; empty = refl; kind = refl; text = refl; number = refl; role = refl; texts = refl; geometries = ap (λ k. Some (both_forms k)) el; features = ap (λ k. Some (both_forms k)) el })
        h.have
        (record {
          position = alike_at (IsPosition asked) None None (position_of (array at (trees ts))) (ap (option_and_then position_of_numbers) (them number_at ∙ no_each number_at positions_of list_no_number ts l ls e)) tt;
          points = alike_at (IsPoints asked) None None (positions_of (array at (trees ts))) (ap (option_map (λ items. record { at = at; items = items })) (them position_of ∙ no_each position_of positions_of list_no_position ts l ls e)) tt;
          lists = alike_at (IsLists asked) (as_lists (atoms.Lists m)) (Some (l ∷ ls)) (lists_of (array at (trees ts))) lists kept_is;
          area = alike_at (IsArea asked) (as_area (atoms.Lists m)) (Some (l ∷ ls)) (area_of (array at (trees ts))) (ap (option_and_then if_some_items) lists) kept_is;
          areas = alike_at (IsAreas asked) None None (areas_of (array at (trees ts))) (them area_of ∙ no_each area_of positions_of list_no_area ts l ls e) tt;
        })

  -- ---- the algebra's own

  one_path : (b : Bool) (xs : List Pos) → All IsInRange xs → ArePathsInRange (kept b (xs ∷ []))
  one_path b xs h = all_kept (All IsInRange) b (xs ∷ []) (All-cons (All IsInRange) xs [] h (All-nil (All IsInRange)))

  own_paths : (b : Bool) (a : GeoAtom) → IsOwn asked a → ArePathsInRange (paths_of b a)
  own_paths b (atoms.Series s) h = h
  own_paths b a h = one_path b (path_in a) (path_in_range asked a h)

  pub begins_own : (b : Bool) (a : GeoAtom) (s : SeriesAtom) → Begins b a s → IsOwn asked a → ArePathsInRange s.lists.value.paths.items
  begins_own b a s m h = subst ArePathsInRange (sym m.paths) (own_paths b a h)

  pub joins_own : (b : Bool) (old : SeriesAtom) (a : GeoAtom) (new : SeriesAtom) → Joins b old a new → ArePathsInRange old.lists.value.paths.items → IsOwn asked a → ArePathsInRange new.lists.value.paths.items
  joins_own b old a new m h k = subst ArePathsInRange (sym m.lists.paths) (all_kept (All IsInRange) (is_none new.lists.value.as_lines || is_none new.lists.value.as_rings) (old.lists.value.paths.items ++ paths_of b a)
      (All-append (All IsInRange) old.lists.value.paths.items (paths_of b a) h (own_paths b a k)))

  pub joins_if_own : (b : Bool) (o : Option SeriesAtom) (a : GeoAtom) (new : SeriesAtom) → JoinsIf b o a new → IfOwnSeries asked o → IsOwn asked a → ArePathsInRange new.lists.value.paths.items
  joins_if_own b (Some old) a new m h k = joins_own b old a new m h k
  joins_if_own b None a new m h k = begins_own b a new m k
