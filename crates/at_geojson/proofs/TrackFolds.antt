-- Tracks: positions one behind another, and the array of just these.
-- For `add`, `array` and `value`.
use Rattle.std.proofs.Common.{◌≡◌, inl, inr, ◌⊎◌, ℕ, ◌+◌, ◌≤◌, min, Bool, true, false, not, ◌&&◌, ◌||◌, if◌then◌else◌, List, [], ◌∷◌, ◌++◌, All, length, map, Option, Some, None, is_none, is_some, refl, sym, ◌∙◌, ap, subst, append-nil, append_assoc, option_map, option_and_then, arith}
use Rattle.std.specs.List.{list_all}
use Rattle.std.specs.Ordering.{int_eq}
use Rattle.std.proofs.lemmas.Bool.{true≢false}
use Rattle.std.proofs.lemmas.Option.{none-some}
use Rattle.std.proofs.lemmas.List.{map-append, length-append}
use Rattle.std.proofs.lemmas.List.Concat.{flat_map-cons, flat_map-append}
use Rattle.std.proofs.lemmas.List.Elements.{All-nil, All-cons, All-append}
use Rattle.std.proofs.lemmas.List.Folds.{list_all-append}
use Rattle.at_text.specs.Faults.{first_fault, first_of}
use Rattle.at_text.specs.declared.faults.Fault.{Fault}
use Rattle.at_geom.specs.declared.positions.Pos.{Pos}
use Rattle.at_geom.specs.Segments.{IsInRange}
use Rattle.at_geom.specs.Shapes.{line_fault, ring_fault}
use Rattle.at_geom.specs.Closed.{last_of}
use Rattle.at_text.proofs.FaultOrder.{first_of-append}
use Rattle.at_wkt.specs.Positions.{Position, position_faults, items_faults, pos_of, is_faultless, closes_with}
use Rattle.at_nest.specs.Folds.{trees, Covers, AreItemFolds}
use Rattle.at_nest.specs.Tree.{Tree, array}
use Rattle.at_nest.specs.Twins.{twins_of_items}
use Rattle.at_nest.proofs.Held.{folds_append}
use Rattle.at_query.specs.Keeping.{Asked, needs_shapes, kept}
use Rattle.at_geojson.specs.declared.atoms.atom.GeoAtom.{GeoAtom}
use Rattle.at_geojson.specs.declared.atoms.atom.GeoAtom.TheVariants as atoms
use Rattle.at_geojson.specs.declared.atoms.atom.FaultyAtom.{FaultyAtom}
use Rattle.at_geojson.specs.declared.atoms.atom.PointsAtom.{PointsAtom}
use Rattle.at_geojson.specs.declared.atoms.atom.PositionAtom.{PositionAtom}
use Rattle.at_geojson.specs.declared.atoms.atom.TrackAtom.{TrackAtom}
use Rattle.at_geojson.specs.Names.{items_of}
use Rattle.at_geojson.specs.Coordinates.{each, position_of, position_of_numbers, positions_of, number_at, lists_of, area_of, areas_of, if_some_items}
use Rattle.at_geojson.specs.Atoms.{twin_of, at_of, as_run, as_position, as_points, no_roles, both_forms, to_four, PositionView, TrackView, track_view, place_of, IsPosition, IsPoints, IsLists, IsArea, IsAreas, IsOwn, IsTrack, AreTracked, IsRead, IsRun, IsFold}
use Rattle.at_geojson.specs.Gathering.{seen, is_object, position_fault, position_value}
use Rattle.at_geojson.specs.Tracks.{is_position, as_track, place_in, path_in, view_of, both_tracks, places_close, Begins, Joins, JoinsIf, IfOwnTrack, HasTrack, JoinsPositions, ClosesTrack, ClosesTrackAtom}
use Rattle.at_geojson.proofs.Each.{none_left, none_behind, one_some}
use Rattle.at_geojson.proofs.CoordinateFolds.{alike_at, line_to_four, ring_to_four, whole_and_items, none_tells, position_fault_is, position_value_is}
use Rattle.at_geojson.proofs.RowFolds.{kept_append, to_four_is}
use Rattle.at_geojson.proofs.OwnFolds.{all_kept, position_in}
use Rattle.at_geojson.proofs.ItemFolds.{last_covers}
use Rattle.at_geojson.proofs.RunFolds.{items_of_trees, first_twins, twins_covers}
use Rattle.at_geojson.proofs.ListRoles.{each_append, no_each, position_no_number, position_no_list, position_no_area}
use Rattle.at_geojson.proofs.MixedFolds.{form_of, forms_both, form_covers, forms_read}

-- ---- atoms that are positions

position_is : (a : GeoAtom) → is_position a ≡ true → ((p : PositionAtom) × (a ≡ atoms.Position p)) ⊎ (((p : FaultyAtom) × (a ≡ atoms.BadPosition p)) ⊎ ((t : TrackAtom) × (a ≡ atoms.Track t)))
position_is (atoms.Position x) e = inl (x, refl)
position_is (atoms.BadPosition x) e = inr (inl (x, refl))
position_is (atoms.Track t) e = inr (inr (t, refl))
position_is _ e = absurd (true≢false (sym e))

-- a value that is a position, or a track
position_cases : (a : GeoAtom) → is_position a ≡ true → ((as_track a ≡ None) × (v : PositionView) × (as_position a ≡ Some v)) ⊎ ((t : TrackAtom) × (a ≡ atoms.Track t))
position_cases a e = elim (position_is a e) [
  | inl p ↦ inl (ap as_track p.1, _, ap as_position p.1)
  | inr q ↦ elim q [
    | inl p ↦ inl (ap as_track p.1, _, ap as_position p.1)
    | inr t ↦ inr t
  ]
]

position_no_twin : (a : GeoAtom) → is_position a ≡ true → twin_of a ≡ None
position_no_twin a e = elim (position_is a e) [ inl p ↦ ap twin_of p.1 | inr q ↦ elim q [ inl p ↦ ap twin_of p.1 | inr t ↦ ap twin_of t.1 ] ]

position_no_object : (a : GeoAtom) → is_position a ≡ true → is_object a ≡ false
position_no_object a e = elim (position_is a e) [ inl p ↦ ap is_object p.1 | inr q ↦ elim q [ inl p ↦ ap is_object p.1 | inr t ↦ ap is_object t.1 ] ]

-- ---- counts

to_four_large : (n : ℕ) → 4 ≤ n → to_four n ≡ 4
to_four_large n l = elim (to_four_is n) [ inl few ↦ absurd (omega (arith, l, few.0)) | inr many ↦ many.1 ]

-- the count of both, where each is known up to four
pub to_four_both : (c d m n : ℕ) → c ≡ to_four m → d ≡ to_four n → to_four (c + d) ≡ to_four (m + n)
to_four_both c d m n e f = elim (to_four_is m) [
  | inl few ↦ elim (to_four_is n) [
    | inl less ↦ ap (λ z. to_four (z + d)) (e ∙ few.1) ∙ ap (λ z. to_four (m + z)) (f ∙ less.1)
    | inr many ↦ to_four_large (c + d) (omega (arith, f, many.1)) ∙ sym (to_four_large (m + n) (omega (arith, many.0)))
  ]
  | inr many ↦ to_four_large (c + d) (omega (arith, e, many.1)) ∙ sym (to_four_large (m + n) (omega (arith, many.0)))
]

-- ---- the first and the last

last_append : (p : Position) (ps : List Position) (q : Position) (qs : List Position) → last_of p (ps ++ q ∷ qs) ≡ last_of q qs
last_append p [] q qs = refl
last_append p (r ∷ ps) q qs = last_append r ps q qs

same_place : (o : Option Fault) (u v : Pos) → (o ≡ None → u ≡ v) → (if is_none o then Some u else None) ≡ (if is_none o then Some v else None)
same_place None u v h = ap (λ z. Some z) (h refl)
same_place (Some f) u v h = refl

places_are : (b c : Bool) (u v : Pos) → places_close (if b then Some u else None) (if c then Some v else None) ≡ (not (b && c) || (int_eq u.x v.x && int_eq u.y v.y))
places_are true true u v = refl
places_are true false u v = refl
places_are false true u v = refl
places_are false false u v = refl

module _ (asked : Asked) where
  abbrev needs : Bool
  needs = needs_shapes asked.query

  abbrev faults : Position → List Fault
  faults = position_faults asked.digits asked.how

  abbrev pos_at : Position → Pos
  pos_at = pos_of asked.digits asked.how

  place_view : (o : Option Fault) (u : Pos) (p : Position) → o ≡ first_of (faults p) → (o ≡ None → u ≡ pos_at p) → (if is_none o then Some u else None) ≡ place_of asked p
  place_view o u p e h = same_place o u (pos_at p) h ∙ ap (λ b. if b then Some (pos_at p) else None) (ap is_none e ∙ none_tells (faults p))

  close_is : (o q : Option Pos) (p r : Position) → o ≡ place_of asked p → q ≡ place_of asked r → places_close o q ≡ closes_with asked.digits asked.how p r
  close_is o q p r e f = ap (λ z. places_close z q) e ∙ (ap (places_close (place_of asked p)) f ∙ places_are (is_faultless asked.digits asked.how p) (is_faultless asked.digits asked.how r) (pos_at p) (pos_at r))

  -- ---- one atom

  one_position : (a : GeoAtom) (p : Position) (v : PositionView) → as_track a ≡ None → as_position a ≡ Some v → IsPosition asked v p → IsTrack asked (view_of needs a) p []
  one_position a p v n e i = record {
    first = ap (seen (place_in a) (λ (t : TrackAtom). t.track.value.first)) n ∙ place;
    last = ap (seen (place_in a) (λ (t : TrackAtom). t.track.value.last)) n ∙ place;
    count = ap (seen 1 (λ (t : TrackAtom). t.track.value.count)) n;
    fault = fault_is ∙ (position_fault_is asked a p (v, e, i) ∙ ap first_of (sym (flat_map-cons faults p [] ∙ append-nil (faults p))));
    path = λ k. ap (seen (kept needs (position_value a ∷ [])) (λ (t : TrackAtom). t.track.value.path.items)) n ∙ ap (λ z. kept needs (z ∷ [])) (position_value_is asked a p (v, e, i) (sym fault_is ∙ k));
  } where
    place : place_in a ≡ place_of asked p
    place = ap (seen None (λ (w : PositionView). if is_none w.fault then Some w.pos else None)) e ∙ place_view v.fault v.pos p i.0 i.1

    fault_is : (view_of needs a).fault ≡ position_fault a
    fault_is = ap (seen (position_fault a) (λ (t : TrackAtom). t.track.value.fault)) n

  -- a position, or several, as a track
  pub position_covers : (a : GeoAtom) (ts : List Tree) → is_position a ≡ true → Covers (IsFold asked) (IsRun asked) a ts → AreTracked asked (at_of a) (view_of needs a) ts
  position_covers a ts k (inl (t, e, f)) = go (position_cases a k) where
    twins : twin_of a ≡ None
    twins = position_no_twin a k

    go : ((as_track a ≡ None) × (v : PositionView) × (as_position a ≡ Some v)) ⊎ ((s : TrackAtom) × (a ≡ atoms.Track s)) → AreTracked asked (at_of a) (view_of needs a) ts
    go (inr (s, q)) = absurd (none-some (no_roles s.at) (sym (ap as_run (sym q) ∙ (f.read twins).single)))
    go (inl (n, v, ev)) =
        let (x, p, ex, ep, i) = one_some position_of as_position (IsPosition asked) (as_position a) (position_of t) (f.read twins).coordinates.position (ap is_some ev) in
        record {
          twins = sym (twins_covers asked a ts (inl (t, e, f))) ∙ twins;
          first = p;
          rest = [];
          are = ap (each position_of) e ∙ ap (λ o. option_and_then (λ y. option_map (λ ys. y ∷ ys) (Some [])) o) ep;
          track = one_position a p x n ex i;
          have = form_covers asked a ts (form_of a (position_no_object a k)) (inl (t, e, f.read twins));
        }
  position_covers a ts k (inr (inl (run, e, j))) = absurd (true≢false (sym k ∙ ap is_position e))
  position_covers a ts k (inr (inr (inl (s, e, j)))) = absurd (true≢false (sym k ∙ ap is_position e))
  position_covers a ts k (inr (inr (inr (t, e, j)))) = subst (λ z. AreTracked asked (at_of z) (view_of needs z) ts) (sym e) j

  -- ---- positions behind others

  tracks_append : (v w : TrackView) (p : Position) (ps : List Position) (q : Position) (qs : List Position) → IsTrack asked v p ps → IsTrack asked w q qs → IsTrack asked (both_tracks v w) p (ps ++ q ∷ qs)
  tracks_append v w p ps q qs h k = record {
    first = h.first;
    last = k.last ∙ ap (place_of asked) (sym (last_append p ps q qs));
    count = to_four_both v.count w.count (length (p ∷ ps)) (length (q ∷ qs)) h.count k.count ∙ ap to_four (sym (length-append (p ∷ ps) (q ∷ qs)));
    fault = ap (λ z. first_fault z w.fault) h.fault ∙ (ap (first_fault (first_of (items_faults asked.digits asked.how (p ∷ ps)))) k.fault
        ∙ (sym (first_of-append (items_faults asked.digits asked.how (p ∷ ps)) (items_faults asked.digits asked.how (q ∷ qs))) ∙ ap first_of (sym (flat_map-append faults (p ∷ ps) (q ∷ qs)))));
    path = λ n. ap (λ z. z ++ w.path) (h.path (none_left v.fault w.fault n)) ∙ (ap (λ z. kept needs (map pos_at (p ∷ ps)) ++ z) (k.path (none_behind v.fault w.fault n))
        ∙ (kept_append needs (map pos_at (p ∷ ps)) (map pos_at (q ∷ qs)) ∙ ap (kept needs) (sym (map-append pos_at (p ∷ ps) (q ∷ qs)))));
  }

  pub tracked_append : (m n : ℕ) (v w : TrackView) (us vs : List Tree) → AreTracked asked m v us → AreTracked asked n w vs → AreTracked asked (min m n) (both_tracks v w) (us ++ vs)
  tracked_append m n v w us vs h k = record {
    twins = first_twins us vs ∙ (ap (λ o. first_fault o (first_of (twins_of_items (trees vs)))) h.twins ∙ k.twins);
    first = h.first;
    rest = h.rest ++ k.first ∷ k.rest;
    are = each_append position_of us vs (h.first ∷ h.rest) (k.first ∷ k.rest) h.are k.are;
    track = tracks_append v w h.first h.rest k.first k.rest h.track k.track;
    have = forms_both asked us vs m n h.have k.have;
  }

  -- ---- tracks

  abbrev IsTracked : TrackAtom → List Tree → Type 0
  IsTracked t ts = AreTracked asked t.at (track_view t.track.value) ts

  begins_track : (b : Bool) (a : GeoAtom) (t : TrackAtom) (ts : List Tree) → b ≡ needs → is_position a ≡ true → Begins b a t → Covers (IsFold asked) (IsRun asked) a ts → IsTracked t ts
  begins_track b a t ts eb k m c =
      subst (λ n. AreTracked asked n (track_view t.track.value) ts) (sym m.0)
      (subst (λ v. AreTracked asked (at_of a) v ts) (sym (m.1 ∙ ap (λ z. view_of z a) eb)) (position_covers a ts k c))

  joins_track : (b : Bool) (old : TrackAtom) (a : GeoAtom) (new : TrackAtom) (us vs : List Tree) → b ≡ needs → is_position a ≡ true → Joins b old a new → IsTracked old us → Covers (IsFold asked) (IsRun asked) a vs → IsTracked new (us ++ vs)
  joins_track b old a new us vs eb k m h c =
      subst (λ n. AreTracked asked n (track_view new.track.value) (us ++ vs)) (sym m.0)
      (subst (λ v. AreTracked asked (min old.at (at_of a)) v (us ++ vs)) (sym (m.1 ∙ ap (λ z. both_tracks (track_view old.track.value) (view_of z a)) eb))
      (tracked_append old.at (at_of a) (track_view old.track.value) (view_of needs a) us vs h (position_covers a vs k c)))

  -- the last item is a position, and takes the positions of the atom
  pub adds_positions : (b : Bool) (xs : List GeoAtom) (last a : GeoAtom) (before new : TrackAtom) → b ≡ needs → is_position last ≡ true → is_position a ≡ true → Begins b last before → Joins b before a new
      → (ts us : List Tree) → AreItemFolds (IsFold asked) (IsRun asked) (xs ++ last ∷ []) ts → Covers (IsFold asked) (IsRun asked) a us
      → AreItemFolds (IsFold asked) (IsRun asked) (xs ++ atoms.Track new ∷ []) (ts ++ us)
  adds_positions b xs last a before new eb kl ka m j ts us h c =
      let (ps, qs, e, hs, d) = last_covers (IsFold asked) (IsRun asked) xs last ts h in
      subst (λ z. AreItemFolds (IsFold asked) (IsRun asked) (xs ++ atoms.Track new ∷ []) z) (sym (ap (λ z. z ++ us) e ∙ append_assoc ps qs us))
      (folds_append (IsFold asked) (IsRun asked) xs ps (atoms.Track new) (qs ++ us) hs (inr (inr (inr (new, refl, joins_track b before a new qs us eb ka j (begins_track b last before qs eb kl m d) c)))))

  -- ---- all items

  and_both : (a b : Bool) → (a && b) ≡ true → (a ≡ true) × (b ≡ true)
  and_both true b e = (refl, e)
  and_both false b e = absurd (true≢false (sym e))

  pub one_more : (b : Bool) (xs : List GeoAtom) (a : GeoAtom) (o : Option TrackAtom) (new : TrackAtom) → b ≡ needs → JoinsIf b o a new → JoinsPositions asked xs o → JoinsPositions asked (xs ++ a ∷ []) (Some new)
  one_more b xs a o new eb j h e ts f =
      let both = and_both (list_all is_position xs) (is_position a && true) (sym (list_all-append is_position xs (a ∷ [])) ∙ e) in
      let here = and_both (is_position a) true both.1 in
      let (us, vs, s, fs, c) = last_covers (IsFold asked) (IsRun asked) xs a ts f in
      subst (IsTracked new) (sym s) (go o us vs j (h both.0 us fs) here.0 c) where
        go : (q : Option TrackAtom) (us vs : List Tree) → JoinsIf b q a new → HasTrack asked q us → is_position a ≡ true → Covers (IsFold asked) (IsRun asked) a vs → IsTracked new (us ++ vs)
        go (Some old) us vs k g l c = joins_track b old a new us vs eb l k g c
        go None us vs k g l c = subst (λ z. IsTracked new (z ++ vs)) (sym g) (begins_track b a new vs eb l k c)

  -- ---- the array of a track

  points_of_track : (at : ℕ) (m : PointsAtom) (t : TrackAtom) (p : Position) (ps : List Position) → ClosesTrack at t.track.value m.points.value → IsTrack asked (track_view t.track.value) p ps
      → IsPoints asked (record { path = m.points.value.path.items; as_points = m.points.value.as_points; as_line = m.points.value.as_line; as_ring = m.points.value.as_ring }) (record { at = at; items = p ∷ ps })
  points_of_track at m t p ps k h = record {
    as_points = k.as_points ∙ h.fault;
    as_line = k.as_line ∙ (ap (λ o. first_fault o fault) (ap (λ n. line_fault n at) h.count ∙ line_to_four (length (p ∷ ps)) at)
        ∙ whole_and_items (line_fault (length (p ∷ ps)) at) (items_faults asked.digits asked.how (p ∷ ps)) fault h.fault);
    as_ring = k.as_ring ∙ (ap (λ o. first_fault o fault) (ap (λ n. ring_fault n closes at) h.count ∙ (ring_to_four (length (p ∷ ps)) closes at
        ∙ ap (λ b. ring_fault (length (p ∷ ps)) b at) (close_is t.track.value.first t.track.value.last p (last_of p ps) h.first h.last)))
        ∙ whole_and_items (ring_fault (length (p ∷ ps)) (closes_with asked.digits asked.how p (last_of p ps)) at) (items_faults asked.digits asked.how (p ∷ ps)) fault h.fault);
    path = λ e. k.path ∙ h.path (sym k.as_points ∙ e);
  } where
    fault : Option Fault
    fault = t.track.value.fault

    closes : Bool
    closes = places_close t.track.value.first t.track.value.last

  pub track_folds : (at : ℕ) (m : PointsAtom) (t : TrackAtom) (ts : List Tree) → ClosesTrackAtom at t m → IsTracked t ts → IsFold asked (atoms.Points m) (array at (trees ts))
  track_folds at m t ts k h = record { twins = sym h.twins; read = λ _. go } where
    them : {Y : Type 0} (f : Tree → Option Y) → each f (items_of (trees ts)) ≡ each f ts
    them f = ap (each f) (items_of_trees ts)

    go : IsRead asked (atoms.Points m) (array at (trees ts))
    go = forms_read asked (atoms.Points m) at t.at (trees ts)
        (record { at_is = k.at_is; twin = refl; single = refl; null = refl; empty = refl; kind = refl; text = refl; number = refl; role = refl; texts = refl; geometries = ap (λ n. Some (both_forms n)) k.least_is; features = ap (λ n. Some (both_forms n)) k.least_is })
        h.have
        (record {
          position = alike_at (IsPosition asked) None None (position_of (array at (trees ts))) (ap (option_and_then position_of_numbers) (them number_at ∙ no_each number_at position_of position_no_number ts h.first h.rest h.are)) tt;
          points = alike_at (IsPoints asked) (as_points (atoms.Points m)) (Some (record { at = at; items = h.first ∷ h.rest })) (positions_of (array at (trees ts)))
              (ap (option_map (λ items. record { at = at; items = items })) (them position_of ∙ h.are)) (points_of_track at m t h.first h.rest k.points h.track);
          lists = alike_at (IsLists asked) None None (lists_of (array at (trees ts))) (them positions_of ∙ no_each positions_of position_of position_no_list ts h.first h.rest h.are) tt;
          area = alike_at (IsArea asked) None None (area_of (array at (trees ts))) (ap (option_and_then if_some_items) (them positions_of ∙ no_each positions_of position_of position_no_list ts h.first h.rest h.are)) tt;
          areas = alike_at (IsAreas asked) None None (areas_of (array at (trees ts))) (them area_of ∙ no_each area_of position_of position_no_area ts h.first h.rest h.are) tt;
        })

  -- ---- the algebra's own

  one_own : (b : Bool) (a : GeoAtom) → IsOwn asked a → All IsInRange (kept b (position_value a ∷ []))
  one_own b a h = all_kept IsInRange b (position_value a ∷ []) (All-cons IsInRange (position_value a) [] (position_in asked a h) (All-nil IsInRange))

  own_path : (b : Bool) (a : GeoAtom) → IsOwn asked a → All IsInRange (path_in b a)
  own_path b (atoms.Track t) h = h
  own_path b a h = one_own b a h

  pub begins_own : (b : Bool) (a : GeoAtom) (t : TrackAtom) → Begins b a t → IsOwn asked a → All IsInRange t.track.value.path.items
  begins_own b a t m h = subst (λ (v : TrackView). All IsInRange v.path) (sym m.1) (own_path b a h)

  pub joins_own : (b : Bool) (old : TrackAtom) (a : GeoAtom) (new : TrackAtom) → Joins b old a new → All IsInRange old.track.value.path.items → IsOwn asked a → All IsInRange new.track.value.path.items
  joins_own b old a new m h k = subst (λ (v : TrackView). All IsInRange v.path) (sym m.1) (All-append IsInRange old.track.value.path.items (path_in b a) h (own_path b a k))

  pub joins_if_own : (b : Bool) (o : Option TrackAtom) (a : GeoAtom) (new : TrackAtom) → JoinsIf b o a new → IfOwnTrack asked o → IsOwn asked a → All IsInRange new.track.value.path.items
  joins_if_own b (Some old) a new m h k = joins_own b old a new m h k
  joins_if_own b None a new m h k = begins_own b a new m k

  pub array_own : (at : ℕ) (t : TrackAtom) (m : PointsAtom) → ClosesTrackAtom at t m → All IsInRange t.track.value.path.items → IsOwn asked (atoms.Points m)
  array_own at t m k h = subst (All IsInRange) (sym k.points.path) h
