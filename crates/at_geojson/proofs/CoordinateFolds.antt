-- Arrays of coordinates: what they are made of items that are all of one sort is what the definitions read of the array.
-- For `add`, `array`, `object` and `value`.
use Rattle.std.proofs.Common.{◌≡◌, ℕ, zero, suc, ◌-◌, ◌≤◌, pos, Bool, true, false, not, ◌&&◌, ◌||◌, if◌then◌else◌, List, [], ◌∷◌, ◌++◌, length, map, flat_map, slice_get, Option, Some, None, is_some, is_none, option_map, option_and_then, option_to_list, refl, sym, ◌∙◌, ap, subst, arith}
use Rattle.std.specs.List.{list_all}
use Rattle.std.specs.Ordering.{int_eq}
use Rattle.std.proofs.lemmas.Bool.{true≢false, le-ltb}
use Rattle.std.proofs.lemmas.Option.{none-some}
use Rattle.std.proofs.lemmas.List.Concat.{flat_map-cons}
use Rattle.at_text.specs.Faults.{comes_first, first_fault, first_of, fault_at}
use Rattle.at_text.specs.declared.faults.FaultKind.TheVariants.{Short, Ring}
use Rattle.at_text.specs.declared.faults.Fault.{Fault}
use Rattle.at_fixed.specs.Numerals.{Numeral}
use Rattle.at_geom.specs.declared.positions.Pos.{Pos}
use Rattle.at_geom.specs.Shapes.{line_fault, ring_fault}
use Rattle.at_geom.specs.Closed.{last_of}
use Rattle.at_text.proofs.FaultOrder.{first_of-append}
use Rattle.at_wkt.specs.Positions.{Position, Positions, number_fault as fault_at_number, position_faults, items_faults, faults_of_line, faults_of_ring, pos_of, path_of, is_faultless, closes_with as positions_close, is_closed}
use Rattle.at_wkt.specs.Meaning.{polygons_of, faults_of_area}
use Rattle.at_nest.specs.Folds.{AreFolds}
use Rattle.at_nest.specs.Tree.{array, Trees, no_trees, tree_and}
use Rattle.at_wkt.proofs.PathAnswers.{first_of-option}
use Rattle.at_query.specs.Keeping.{Asked, needs_shapes, kept}
use Rattle.at_geojson.specs.declared.atoms.atom.GeoAtom.{GeoAtom}
use Rattle.at_geojson.specs.declared.atoms.atom.GeoAtom.TheVariants as atoms
use Rattle.at_geojson.specs.Names.{items_of}
use Rattle.at_geojson.specs.Coordinates.{each, number_at, position_of, position_of_numbers, positions_of, lists_of, area_of, areas_of, if_some_items}
use Rattle.at_geojson.specs.Atoms.{as_run, nowhere, to_four, NumberView, PositionView, PointsView, ListsView, as_number, as_position, as_points, as_area, as_areas, Alike, IsNumber, IsPosition, IsPoints, IsLists, IsArea, IsAreas, IsRead}
use Rattle.at_geojson.specs.Gathering.{seen, firsts, are_all, number_value, number_fault, position_value, position_fault, position_atom, position_made, closes, closes_at, closes_with, last_atom, MakesPoints, fault_as_line, fault_as_ring, path_in, MakesLists, area_fault, rings_in, polygon_in, MakesAreas}
use Rattle.at_geojson.proofs.Firsts.{firsts-cons}
use Rattle.at_geojson.proofs.Each.{folds_map, none_left, none_behind, Is, EachIs, all_some, some_none, firsts_each, values_each, length_each}
use Rattle.at_geojson.proofs.SortFacts.{is_number, is_position, is_points, is_area}

-- ---- small facts

pub alike_at : {X Y : Type 0} (R : X → Y → Type 0) (o : Option X) (p q : Option Y) → q ≡ p → Alike R o p → Alike R o q
alike_at R o p q e h = subst (λ z. Alike R o z) (sym e) h

four : (n : ℕ) → to_four (suc (suc (suc (suc n)))) ≡ 4
four n = ap (λ b. if b then suc (suc (suc (suc n))) else 4) (let l : 4 ≤ suc (suc (suc (suc n))) = omega arith in le-ltb (suc (suc (suc (suc n)))) 4 l)

pub line_to_four : (n at : ℕ) → line_fault (to_four n) at ≡ line_fault n at
line_to_four zero at = refl
line_to_four (suc zero) at = refl
line_to_four (suc (suc zero)) at = refl
line_to_four (suc (suc (suc zero))) at = refl
line_to_four (suc (suc (suc (suc n)))) at = ap (λ k. line_fault k at) (four n)
    ∙ ap (λ b. if b then Some (fault_at Short at) else None) (sym (let l : 2 ≤ suc (suc (suc (suc n))) = omega arith in le-ltb (suc (suc (suc (suc n)))) 2 l))

pub ring_to_four : (n : ℕ) (b : Bool) (at : ℕ) → ring_fault (to_four n) b at ≡ ring_fault n b at
ring_to_four zero b at = refl
ring_to_four (suc zero) b at = refl
ring_to_four (suc (suc zero)) b at = refl
ring_to_four (suc (suc (suc zero))) b at = refl
ring_to_four (suc (suc (suc (suc n)))) b at = ap (λ k. ring_fault k b at) (four n)
    ∙ ap (λ c. if c || not b then Some (fault_at Ring at) else None) (sym (let l : 4 ≤ suc (suc (suc (suc n))) = omega arith in le-ltb (suc (suc (suc (suc n)))) 4 l))

-- the first fault of what is wrong with the whole and with the items
pub whole_and_items : (o : Option Fault) (fs : List Fault) (p : Option Fault) → p ≡ first_of fs → first_fault o p ≡ first_of (option_to_list o ++ fs)
whole_and_items o fs p e = ap (first_fault o) e ∙ (ap (λ z. first_fault z (first_of fs)) (sym (first_of-option o)) ∙ sym (first_of-append (option_to_list o) fs))

pub items_none : (o : Option Fault) (fs : List Fault) → first_of (option_to_list o ++ fs) ≡ None → first_of fs ≡ None
items_none o fs e = none_behind (first_of (option_to_list o)) (first_of fs) (sym (first_of-append (option_to_list o) fs) ∙ e)

pub none_tells : (fs : List Fault) → is_none (first_of fs) ≡ elim fs [ [] ↦ true | f ∷ gs ↦ false ]
none_tells [] = refl
none_tells (f ∷ fs) = go (first_of fs) where
  pick : (b : Bool) (g : Fault) → is_none (if b then Some f else Some g) ≡ false
  pick true g = refl
  pick false g = refl

  go : (o : Option Fault) → is_none (first_fault (Some f) o) ≡ false
  go None = refl
  go (Some g) = pick (comes_first f g) g

last_got : (aa : List GeoAtom) (a : GeoAtom) → slice_get (a ∷ aa) (length aa) ≡ Some (last_atom a aa)
last_got [] a = refl
last_got (b ∷ rest) a = last_got rest b

pub closes_is : (a : GeoAtom) (aa : List GeoAtom) → closes (a ∷ aa) ≡ closes_with a (last_atom a aa)
closes_is a aa = let e : length (a ∷ aa) - 1 ≡ length aa = omega arith in ap (λ k. closes_at (Some a) (slice_get (a ∷ aa) k)) e ∙ ap (closes_at (Some a)) (last_got aa a)

-- a list that is kept, of lists that are
kept_all : {Y Z : Type 0} (b : Bool) (v : GeoAtom → List Z) (w : Y → List Z) (aa : List GeoAtom) (ys : List Y) → map v aa ≡ map (λ y. kept b (w y)) ys → kept b (map v aa) ≡ kept b (map w ys)
kept_all true v w aa ys e = e
kept_all false v w aa ys e = refl

abbrev same_pos : Bool → Bool → Pos → Pos → Bool
same_pos p q u v = not (p && q) || (int_eq u.x v.x && int_eq u.y v.y)

module _ (asked : Asked) where
  abbrev IsNum : GeoAtom → Numeral × ℕ → Type 0
  IsNum = Is number_at as_number (IsNumber asked)

  abbrev IsPosit : GeoAtom → Position → Type 0
  IsPosit = Is position_of as_position (IsPosition asked)

  abbrev IsLine : GeoAtom → Positions → Type 0
  IsLine = Is positions_of as_points (IsPoints asked)

  abbrev IsRings : GeoAtom → List Positions → Type 0
  IsRings = Is area_of as_area (IsArea asked)

  -- ---- the roles of items of an array

  all_same : (p q : GeoAtom → Bool) → ((a : GeoAtom) → as_run a ≡ None → p a ≡ q a) → (aa : List GeoAtom) (ts : Trees) → AreFolds (IsRead asked) aa ts → list_all p aa ≡ list_all q aa
  all_same p q same [] no_trees h = refl
  all_same p q same (a ∷ aa) (tree_and t ts) h = ap (λ b. b && list_all p aa) (same a h.0.single) ∙ ap (λ b. q a && b) (all_same p q same aa ts h.1)
  all_same p q same _ _ h = absurd h

  module _ (at : ℕ) (aa : List GeoAtom) (ts : Trees) (h : AreFolds (IsRead asked) aa ts) where
    numbers : AreFolds (λ a t. Alike (IsNumber asked) (as_number a) (number_at t)) aa ts
    numbers = folds_map (IsRead asked) (λ a t. Alike (IsNumber asked) (as_number a) (number_at t)) (λ a t r. r.coordinates.number) aa ts h

    positions : AreFolds (λ a t. Alike (IsPosition asked) (as_position a) (position_of t)) aa ts
    positions = folds_map (IsRead asked) (λ a t. Alike (IsPosition asked) (as_position a) (position_of t)) (λ a t r. r.coordinates.position) aa ts h

    lines : AreFolds (λ a t. Alike (IsPoints asked) (as_points a) (positions_of t)) aa ts
    lines = folds_map (IsRead asked) (λ a t. Alike (IsPoints asked) (as_points a) (positions_of t)) (λ a t r. r.coordinates.points) aa ts h

    areas : AreFolds (λ a t. Alike (IsArea asked) (as_area a) (area_of t)) aa ts
    areas = folds_map (IsRead asked) (λ a t. Alike (IsArea asked) (as_area a) (area_of t)) (λ a t r. r.coordinates.area) aa ts h

    pub some_numbers : are_all 1 aa ≡ true → (ys : List (Numeral × ℕ)) × (each number_at (items_of ts) ≡ Some ys) × EachIs number_at as_number (IsNumber asked) aa ys
    some_numbers e = all_some number_at as_number (IsNumber asked) aa ts numbers (all_same (λ a. is_some (as_number a)) _ (λ a n. is_number a) aa ts h ∙ e)

    pub some_positions : are_all 2 aa ≡ true → (ys : List Position) × (each position_of (items_of ts) ≡ Some ys) × EachIs position_of as_position (IsPosition asked) aa ys
    some_positions e = all_some position_of as_position (IsPosition asked) aa ts positions (all_same (λ a. is_some (as_position a)) _ is_position aa ts h ∙ e)

    pub some_lines : are_all 3 aa ≡ true → (ys : List Positions) × (each positions_of (items_of ts) ≡ Some ys) × EachIs positions_of as_points (IsPoints asked) aa ys
    some_lines e = all_some positions_of as_points (IsPoints asked) aa ts lines (all_same (λ a. is_some (as_points a)) _ is_points aa ts h ∙ e)

    pub some_areas : are_all 4 aa ≡ true → (ys : List (List Positions)) × (each area_of (items_of ts) ≡ Some ys) × EachIs area_of as_area (IsArea asked) aa ys
    some_areas e = all_some area_of as_area (IsArea asked) aa ts areas (all_same (λ a. is_some (as_area a)) _ (λ a n. is_area a) aa ts h ∙ e)

    pub no_position : are_all 1 aa ≡ false → position_of (array at ts) ≡ None
    no_position e = ap (option_and_then position_of_numbers) (some_none number_at as_number (IsNumber asked) aa ts numbers (all_same (λ a. is_some (as_number a)) _ (λ a n. is_number a) aa ts h ∙ e))

    pub no_points : are_all 2 aa ≡ false → positions_of (array at ts) ≡ None
    no_points e = ap (option_map (λ items. record { at = at; items = items })) (some_none position_of as_position (IsPosition asked) aa ts positions (all_same (λ a. is_some (as_position a)) _ is_position aa ts h ∙ e))

    pub no_lists : are_all 3 aa ≡ false → lists_of (array at ts) ≡ None
    no_lists e = some_none positions_of as_points (IsPoints asked) aa ts lines (all_same (λ a. is_some (as_points a)) _ is_points aa ts h ∙ e)

    pub no_area : are_all 3 aa ≡ false → area_of (array at ts) ≡ None
    no_area e = ap (option_and_then if_some_items) (no_lists e)

    pub no_areas : are_all 4 aa ≡ false → areas_of (array at ts) ≡ None
    no_areas e = some_none area_of as_area (IsArea asked) aa ts areas (all_same (λ a. is_some (as_area a)) _ (λ a n. is_area a) aa ts h ∙ e)

  -- ---- numbers

  number_faults : (a : GeoAtom) (n : Numeral × ℕ) → IsNum a n → number_fault a ≡ first_of (fault_at_number asked.digits asked.how n.0 n.1)
  number_faults a n i = ap (seen None (λ (v : NumberView). v.fault)) i.1 ∙ i.2.0

  pub position_is : (at least : ℕ) (x y : GeoAtom) (n m : Numeral × ℕ) → IsNum x n → IsNum y m
      → Alike (IsPosition asked) (as_position (position_atom at least x y)) (Some (record { x = n.0; x_at = n.1; y = m.0; y_at = m.1 }))
  position_is at least x y n m i j = go (first_fault (number_fault x) (number_fault y)) refl where
    p : Position
    p = record { x = n.0; x_at = n.1; y = m.0; y_at = m.1 }

    fault : first_fault (number_fault x) (number_fault y) ≡ first_of (position_faults asked.digits asked.how p)
    fault = ap (λ o. first_fault o (number_fault y)) (number_faults x n i) ∙ (ap (first_fault (first_of (fault_at_number asked.digits asked.how n.0 n.1))) (number_faults y m j)
        ∙ sym (first_of-append (fault_at_number asked.digits asked.how n.0 n.1) (fault_at_number asked.digits asked.how m.0 m.1)))

    value : (a : GeoAtom) (k : Numeral × ℕ) (r : IsNum a k) → number_fault a ≡ None → number_value a ≡ (pos_of asked.digits asked.how (record { x = k.0; x_at = k.1; y = k.0; y_at = k.1 })).x
    value a k r e = ap (seen (pos 0) (λ (v : NumberView). v.value)) r.1 ∙ r.2.1 (sym (ap (seen None (λ (v : NumberView). v.fault)) r.1) ∙ e)

    go : (o : Option Fault) → first_fault (number_fault x) (number_fault y) ≡ o → Alike (IsPosition asked) (as_position (position_made at least x y (first_fault (number_fault x) (number_fault y)))) (Some p)
    go None e = subst (λ o. Alike (IsPosition asked) (as_position (position_made at least x y o)) (Some p)) (sym e) (
      sym e ∙ fault,
      λ _. (ap (λ z. record { x = z; y = number_value y }) (value x n i (none_left (number_fault x) (number_fault y) e))
          ∙ ap (λ z. record { x = (pos_of asked.digits asked.how p).x; y = z }) (value y m j (none_behind (number_fault x) (number_fault y) e))),
    )
    go (Some f) e = subst (λ o. Alike (IsPosition asked) (as_position (position_made at least x y o)) (Some p)) (sym e) (sym e ∙ fault, λ h. absurd (none-some f (sym h)))

  -- ---- positions

  pub position_fault_is : (a : GeoAtom) (p : Position) → IsPosit a p → position_fault a ≡ first_of (position_faults asked.digits asked.how p)
  position_fault_is a p i = ap (seen None (λ (v : PositionView). v.fault)) i.1 ∙ i.2.0

  pub position_value_is : (a : GeoAtom) (p : Position) → IsPosit a p → position_fault a ≡ None → position_value a ≡ pos_of asked.digits asked.how p
  position_value_is a p i e = ap (seen nowhere (λ (v : PositionView). v.pos)) i.1 ∙ i.2.1 (sym (ap (seen None (λ (v : PositionView). v.fault)) i.1) ∙ e)

  faultless_is : (a : GeoAtom) (p : Position) → IsPosit a p → is_none (position_fault a) ≡ is_faultless asked.digits asked.how p
  faultless_is a p i = ap is_none (position_fault_is a p i) ∙ none_tells (position_faults asked.digits asked.how p)

  close_same : (a b : GeoAtom) (p q : Position) → IsPosit a p → IsPosit b q → closes_with a b ≡ positions_close asked.digits asked.how p q
  close_same a b p q i j = ap (λ z. same_pos z (is_none (position_fault b)) (position_value a) (position_value b)) (faultless_is a p i)
      ∙ (ap (λ z. same_pos (is_faultless asked.digits asked.how p) z (position_value a) (position_value b)) (faultless_is b q j) ∙ go (is_faultless asked.digits asked.how p) (is_faultless asked.digits asked.how q) refl refl) where
        none : (o : Option Fault) → is_none o ≡ true → o ≡ None
        none None e = refl
        none (Some f) e = absurd (true≢false (sym e))

        go : (x y : Bool) → is_faultless asked.digits asked.how p ≡ x → is_faultless asked.digits asked.how q ≡ y
            → same_pos (is_faultless asked.digits asked.how p) (is_faultless asked.digits asked.how q) (position_value a) (position_value b)
            ≡ same_pos (is_faultless asked.digits asked.how p) (is_faultless asked.digits asked.how q) (pos_of asked.digits asked.how p) (pos_of asked.digits asked.how q)
        go true true ex ey =
            ap (λ z. same_pos (is_faultless asked.digits asked.how p) (is_faultless asked.digits asked.how q) z (position_value b)) (position_value_is a p i (none (position_fault a) (faultless_is a p i ∙ ex)))
            ∙ ap (λ z. same_pos (is_faultless asked.digits asked.how p) (is_faultless asked.digits asked.how q) (pos_of asked.digits asked.how p) z) (position_value_is b q j (none (position_fault b) (faultless_is b q j ∙ ey)))
        go true false ex ey = ap (λ z. same_pos z (is_faultless asked.digits asked.how q) (position_value a) (position_value b)) ex ∙ (ap (λ z. same_pos true z (position_value a) (position_value b)) ey
            ∙ sym (ap (λ z. same_pos z (is_faultless asked.digits asked.how q) (pos_of asked.digits asked.how p) (pos_of asked.digits asked.how q)) ex ∙ ap (λ z. same_pos true z (pos_of asked.digits asked.how p) (pos_of asked.digits asked.how q)) ey))
        go false y ex ey = ap (λ z. same_pos z (is_faultless asked.digits asked.how q) (position_value a) (position_value b)) ex
            ∙ sym (ap (λ z. same_pos z (is_faultless asked.digits asked.how q) (pos_of asked.digits asked.how p) (pos_of asked.digits asked.how q)) ex)

  last_is : (a : GeoAtom) (aa : List GeoAtom) (p : Position) (ps : List Position) → IsPosit a p → EachIs position_of as_position (IsPosition asked) aa ps → IsPosit (last_atom a aa) (last_of p ps)
  last_is a [] p [] i h = i
  last_is a (b ∷ aa) p (q ∷ ps) i h = last_is b aa q ps h.0 h.1
  last_is a _ p _ i h = absurd h

  closed_is : (aa : List GeoAtom) (ps : List Position) → EachIs position_of as_position (IsPosition asked) aa ps → (a : GeoAtom) (rest : List GeoAtom) → aa ≡ a ∷ rest → closes aa ≡ is_closed asked.digits asked.how ps
  closed_is (a ∷ aa) (p ∷ ps) h b rest e = closes_is a aa ∙ close_same a (last_atom a aa) p (last_of p ps) h.0 (last_is a aa p ps h.0 h.1)
  closed_is (a ∷ aa) [] h b rest e = absurd h
  closed_is [] ps h b rest e = absurd (let z : 0 ≡ suc (length rest) = ap length e in omega (arith, z))

  pub points_are : (at least : ℕ) (a : GeoAtom) (aa : List GeoAtom) (r : GeoAtom) (ps : List Position) → EachIs position_of as_position (IsPosition asked) (a ∷ aa) ps
      → (m : MakesPoints (needs_shapes asked.query) at least (a ∷ aa) r) → Alike (IsPoints asked) (as_points (atoms.Points m.atom)) (Some (record { at = at; items = ps }))
  points_are at least a aa r ps h m = record {
    as_points = m.as_points ∙ inner;
    as_line = m.as_line ∙ (ap (λ o. first_fault o (firsts position_fault (a ∷ aa))) (line_to_four (length (a ∷ aa)) at ∙ ap (λ n. line_fault n at) count)
        ∙ whole_and_items (line_fault (length ps) at) (items_faults asked.digits asked.how ps) (firsts position_fault (a ∷ aa)) inner);
    as_ring = m.as_ring ∙ (ap (λ o. first_fault o (firsts position_fault (a ∷ aa))) (ring_to_four (length (a ∷ aa)) (closes (a ∷ aa)) at ∙ (ap (λ n. ring_fault n (closes (a ∷ aa)) at) count
        ∙ ap (λ b. ring_fault (length ps) b at) (closed_is (a ∷ aa) ps h a aa refl)))
        ∙ whole_and_items (ring_fault (length ps) (is_closed asked.digits asked.how ps) at) (items_faults asked.digits asked.how ps) (firsts position_fault (a ∷ aa)) inner);
    path = λ e. m.path ∙ ap (kept (needs_shapes asked.query)) (values_each position_of as_position (IsPosition asked) position_fault position_value (pos_of asked.digits asked.how) position_value_is (a ∷ aa) ps h (sym m.as_points ∙ e));
  } where
    inner : firsts position_fault (a ∷ aa) ≡ first_of (items_faults asked.digits asked.how ps)
    inner = firsts_each position_of as_position (IsPosition asked) position_fault (position_faults asked.digits asked.how) position_fault_is (a ∷ aa) ps h

    count : length (a ∷ aa) ≡ length ps
    count = length_each position_of as_position (IsPosition asked) (a ∷ aa) ps h

  -- ---- lists of positions

  pub line_fault_is : (a : GeoAtom) (ps : Positions) → IsLine a ps → fault_as_line a ≡ first_of (faults_of_line asked.digits asked.how ps)
  line_fault_is a ps i = ap (seen None (λ (v : PointsView). v.as_line)) i.1 ∙ i.2.as_line

  pub ring_fault_is : (a : GeoAtom) (ps : Positions) → IsLine a ps → fault_as_ring a ≡ first_of (faults_of_ring asked.digits asked.how ps)
  ring_fault_is a ps i = ap (seen None (λ (v : PointsView). v.as_ring)) i.1 ∙ i.2.as_ring

  path_by : (a : GeoAtom) (ps : Positions) (i : IsLine a ps) → first_of (items_faults asked.digits asked.how ps.items) ≡ None → path_in a ≡ kept (needs_shapes asked.query) (path_of asked.digits asked.how ps)
  path_by a ps i e = ap (seen [] (λ (v : PointsView). v.path)) i.1 ∙ i.2.path (i.2.as_points ∙ e)

  pub path_of_line : (a : GeoAtom) (ps : Positions) → IsLine a ps → fault_as_line a ≡ None → path_in a ≡ kept (needs_shapes asked.query) (path_of asked.digits asked.how ps)
  path_of_line a ps i e = path_by a ps i (items_none (line_fault (length ps.items) ps.at) (items_faults asked.digits asked.how ps.items) (sym (line_fault_is a ps i) ∙ e))

  pub path_of_ring : (a : GeoAtom) (ps : Positions) → IsLine a ps → fault_as_ring a ≡ None → path_in a ≡ kept (needs_shapes asked.query) (path_of asked.digits asked.how ps)
  path_of_ring a ps i e = path_by a ps i (items_none (ring_fault (length ps.items) (is_closed asked.digits asked.how ps.items) ps.at) (items_faults asked.digits asked.how ps.items) (sym (ring_fault_is a ps i) ∙ e))

  pub lists_are : (at least : ℕ) (aa : List GeoAtom) (r : GeoAtom) (ls : List Positions) → EachIs positions_of as_points (IsPoints asked) aa ls → (m : MakesLists (needs_shapes asked.query) at least aa r)
      → IsLists asked (record { paths = m.atom.lists.value.paths.items; as_lines = m.atom.lists.value.as_lines; as_rings = m.atom.lists.value.as_rings }) ls
  lists_are at least aa r ls h m = record {
    as_lines = m.as_lines ∙ firsts_each positions_of as_points (IsPoints asked) fault_as_line (faults_of_line asked.digits asked.how) line_fault_is aa ls h;
    as_rings = m.as_rings ∙ firsts_each positions_of as_points (IsPoints asked) fault_as_ring (faults_of_ring asked.digits asked.how) ring_fault_is aa ls h;
    lines = λ e. m.paths ∙ kept_all needs path_in (path_of asked.digits asked.how) aa ls
        (values_each positions_of as_points (IsPoints asked) fault_as_line path_in (λ ps. kept needs (path_of asked.digits asked.how ps)) path_of_line aa ls h (sym m.as_lines ∙ e));
    rings = λ e. m.paths ∙ kept_all needs path_in (path_of asked.digits asked.how) aa ls
        (values_each positions_of as_points (IsPoints asked) fault_as_ring path_in (λ ps. kept needs (path_of asked.digits asked.how ps)) path_of_ring aa ls h (sym m.as_rings ∙ e));
  } where
    needs : Bool
    needs = needs_shapes asked.query

  -- ---- areas

  area_fault_is : (a : GeoAtom) (ls : List Positions) → IsRings a ls → area_fault a ≡ first_of (faults_of_area asked.digits asked.how ls)
  area_fault_is a [] i = absurd i.2
  area_fault_is a (p ∷ ls) i = ap (seen None (λ (v : ListsView). v.as_rings)) i.1 ∙ i.2.as_rings

  polygon_is : (a : GeoAtom) (p : Positions) (ls : List Positions) → IsRings a (p ∷ ls) → needs_shapes asked.query ≡ true → area_fault a ≡ None → polygon_in a ∷ [] ≡ polygons_of asked.digits asked.how (p ∷ ls)
  polygon_is a p ls i n e =
      let rings : rings_in a ≡ kept (needs_shapes asked.query) (map (path_of asked.digits asked.how) (p ∷ ls)) = ap (seen [] (λ (v : ListsView). v.paths)) i.1 ∙ i.2.rings (sym (ap (seen None (λ (v : ListsView). v.as_rings)) i.1) ∙ e) in
      ap (λ (z : List (List Pos)). record { rings = z } ∷ []) (rings ∙ ap (λ b. kept b (map (path_of asked.digits asked.how) (p ∷ ls))) n)

  polygons_each : needs_shapes asked.query ≡ true → (aa : List GeoAtom) (ys : List (List Positions)) → EachIs area_of as_area (IsArea asked) aa ys → firsts area_fault aa ≡ None
      → map polygon_in aa ≡ flat_map (polygons_of asked.digits asked.how) ys
  polygons_each n [] [] h e = refl
  polygons_each n (a ∷ aa) ([] ∷ ys) h e = absurd h.0.2
  polygons_each n (a ∷ aa) ((p ∷ ls) ∷ ys) h e =
      let o = sym (firsts-cons area_fault a aa) ∙ e in
      ap (λ z. z ++ map polygon_in aa) (polygon_is a p ls h.0 n (none_left (area_fault a) (firsts area_fault aa) o))
      ∙ (ap (λ z. polygons_of asked.digits asked.how (p ∷ ls) ++ z) (polygons_each n aa ys h.1 (none_behind (area_fault a) (firsts area_fault aa) o)) ∙ sym (flat_map-cons (polygons_of asked.digits asked.how) (p ∷ ls) ys))
  polygons_each n _ _ h e = absurd h

  pub areas_are : (at least : ℕ) (aa : List GeoAtom) (r : GeoAtom) (ys : List (List Positions)) → EachIs area_of as_area (IsArea asked) aa ys → (m : MakesAreas (needs_shapes asked.query) at least aa r)
      → Alike (IsAreas asked) (as_areas (atoms.Areas m.atom)) (Some ys)
  areas_are at least aa r ys h m = record {
    fault = m.fault ∙ firsts_each area_of as_area (IsArea asked) area_fault (faults_of_area asked.digits asked.how) area_fault_is aa ys h;
    polygons = λ e. m.polygons ∙ go (needs_shapes asked.query) refl (sym m.fault ∙ e);
  } where
    go : (b : Bool) → needs_shapes asked.query ≡ b → firsts area_fault aa ≡ None → kept (needs_shapes asked.query) (map polygon_in aa) ≡ kept (needs_shapes asked.query) (flat_map (polygons_of asked.digits asked.how) ys)
    go true n e = ap (kept (needs_shapes asked.query)) (polygons_each n aa ys h e)
    go false n e = ap (λ b. kept b (map polygon_in aa)) n ∙ sym (ap (λ b. kept b (flat_map (polygons_of asked.digits asked.how) ys)) n)
