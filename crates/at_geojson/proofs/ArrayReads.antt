-- What is made of an array's items, which are all of one sort, is what the definitions read of the array in each role.
-- For `add`, `array`, `object` and `value`.
use Rattle.std.proofs.Common.{◌≡◌, ℕ, true, false, List, [], ◌∷◌, slice_get, Option, Some, None, refl, sym, ◌∙◌, ap, subst, arith}
use Rattle.std.specs.List.{list_any}
use Rattle.at_text.specs.Faults.{first_fault}
use Rattle.at_text.specs.declared.faults.Fault.{Fault}
use Rattle.at_nest.specs.Folds.{AreFolds}
use Rattle.at_nest.specs.Tree.{Tree, array, Trees}
use Rattle.at_query.specs.Keeping.{Asked, needs_shapes}
use Rattle.at_geojson.specs.declared.atoms.atom.GeoAtom.{GeoAtom}
use Rattle.at_geojson.specs.declared.atoms.atom.GeoAtom.TheVariants as atoms
use Rattle.at_fixed.specs.Numerals.{Numeral}
use Rattle.at_wkt.specs.Positions.{Positions}
use Rattle.std.proofs.lemmas.Option.{none-some, same_Some}
use Rattle.at_geojson.specs.Names.{items_of}
use Rattle.at_geojson.specs.Coordinates.{each, number_at, position_of, position_of_numbers, positions_of, lists_of, area_of, areas_of, if_some_items}
use Rattle.std.proofs.Common.{option_map, option_and_then}
use Rattle.at_geojson.specs.Atoms.{twin_of, both_forms, IsNumber, as_number, as_position, as_points, as_lists, as_area, as_areas, Alike, IsPosition, IsPoints, IsLists, IsArea, IsAreas, IsRead, IsRun, IsFold, HaveItems, no_roles}
use Rattle.at_geojson.specs.Gathering.{firsts, is_object, least_of, are_all, rank, sort_of_all, position_atom, position_made, pair_at, pair_atom, number_fault, MakesPoints, MakesLists, MakesAreas}
use Rattle.at_geojson.proofs.Each.{EachIs, twins_items}
use Rattle.at_geojson.proofs.ArrayFolds.{HasNoForm, AreForms, IsArrayAtom}
use Rattle.at_geojson.proofs.ItemFolds.{one_each, trees_of_items}
use Rattle.at_geojson.proofs.MixedFolds.{forms_of, forms_all, forms_read}
use Rattle.at_geojson.proofs.SortFacts.{all_sorted, no_other, no_objects}
use Rattle.at_geojson.proofs.CoordinateFolds.{alike_at, some_numbers, some_positions, some_lines, some_areas, no_position, no_points, no_lists, no_area, no_areas, position_is, points_are, lists_are, areas_are}

-- a position has no equal names
pub twin_of_pair : (at least : ℕ) (items : List GeoAtom) (r : GeoAtom) → pair_atom at least items ≡ Some r → twin_of r ≡ None
twin_of_pair at least (x ∷ y ∷ rest) r e = ap twin_of (sym (same_Some (position_atom at least x y) r e)) ∙ go (first_fault (number_fault x) (number_fault y)) where
  go : (o : Option Fault) → twin_of (position_made at least x y o) ≡ None
  go None = refl
  go (Some f) = refl
twin_of_pair at least _ r e = absurd (none-some r e)

module _ (asked : Asked) where
  module _ (at : ℕ) (a : GeoAtom) (aa : List GeoAtom) (ts : Trees) (h : AreFolds (IsRead asked) (a ∷ aa) ts) where
    abbrev t : Tree
    t = array at ts

    abbrev least : ℕ
    least = least_of (a ∷ aa)

    array_read : (r : GeoAtom) → IsArrayAtom asked r at least → list_any is_object (a ∷ aa) ≡ false → AreForms asked at ts r → IsRead asked r t
    array_read r k n f = forms_read asked r at least ts k (subst (HaveItems asked (no_roles least)) (trees_of_items ts) (forms_all asked a aa (items_of ts) (one_each (IsRead asked) (IsRun asked) (a ∷ aa) ts h) (forms_of (a ∷ aa) n))) f

    -- the items are not all of the sort of this rank
    not_all : (j k : ℕ) → rank (sort_of_all (a ∷ aa)) ≡ j → (j ≡ k → ⊥) → are_all k (a ∷ aa) ≡ false
    not_all j k e n = no_other k a aa (λ q. n (sym e ∙ q))

    none_position : are_all 1 (a ∷ aa) ≡ false → Alike (IsPosition asked) None (position_of t)
    none_position e = alike_at (IsPosition asked) None None (position_of t) (no_position asked at (a ∷ aa) ts h e) tt

    none_points : are_all 2 (a ∷ aa) ≡ false → Alike (IsPoints asked) None (positions_of t)
    none_points e = alike_at (IsPoints asked) None None (positions_of t) (no_points asked at (a ∷ aa) ts h e) tt

    none_lists : are_all 3 (a ∷ aa) ≡ false → Alike (IsLists asked) None (lists_of t)
    none_lists e = alike_at (IsLists asked) None None (lists_of t) (no_lists asked at (a ∷ aa) ts h e) tt

    none_area : are_all 3 (a ∷ aa) ≡ false → Alike (IsArea asked) None (area_of t)
    none_area e = alike_at (IsArea asked) None None (area_of t) (no_area asked at (a ∷ aa) ts h e) tt

    none_areas : are_all 4 (a ∷ aa) ≡ false → Alike (IsAreas asked) None (areas_of t)
    none_areas e = alike_at (IsAreas asked) None None (areas_of t) (no_areas asked at (a ∷ aa) ts h e) tt

    -- ---- positions

    pub points_read : rank (sort_of_all (a ∷ aa)) ≡ 2 → (r : GeoAtom) → MakesPoints (needs_shapes asked.query) at least (a ∷ aa) r → IsRead asked r t
    points_read e r m =
        let all = all_sorted 1 (a ∷ aa) e in
        let (ys, es, each_is) = some_positions asked at (a ∷ aa) ts h all in
        subst (λ z. IsRead asked z t) (sym m.result_is) (array_read (atoms.Points m.atom)
        (record { at_is = m.at_is; twin = refl; single = refl; null = refl; empty = refl; kind = refl; text = refl; number = refl; role = refl; texts = refl; geometries = ap (λ k. Some (both_forms k)) m.least_is; features = ap (λ k. Some (both_forms k)) m.least_is })
        (no_objects 1 (a ∷ aa) all)
        (record {
          position = none_position (not_all 2 1 e (λ z. omega (arith, z)));
          points = alike_at (IsPoints asked) (as_points (atoms.Points m.atom)) (Some (record { at = at; items = ys })) (positions_of t) (ap (option_map (λ items. record { at = at; items = items })) es) (points_are asked at least a aa r ys each_is m);
          lists = none_lists (not_all 2 3 e (λ z. omega (arith, z)));
          area = none_area (not_all 2 3 e (λ z. omega (arith, z)));
          areas = none_areas (not_all 2 4 e (λ z. omega (arith, z)));
        }))

    -- ---- lists of positions

    pub lists_read : rank (sort_of_all (a ∷ aa)) ≡ 3 → (r : GeoAtom) → MakesLists (needs_shapes asked.query) at least (a ∷ aa) r → IsRead asked r t
    lists_read e r m = go (some_lines asked at (a ∷ aa) ts h (all_sorted 2 (a ∷ aa) e)) where
      at_list : (ys : List Positions) → lists_of t ≡ Some ys → EachIs positions_of as_points (IsPoints asked) (a ∷ aa) ys → AreForms asked at ts (atoms.Lists m.atom)
      at_list [] es each_is = absurd each_is
      at_list (y ∷ ys) es each_is = record {
        position = none_position (not_all 3 1 e (λ z. omega (arith, z)));
        points = none_points (not_all 3 2 e (λ z. omega (arith, z)));
        lists = alike_at (IsLists asked) (as_lists (atoms.Lists m.atom)) (Some (y ∷ ys)) (lists_of t) es (lists_are asked at least (a ∷ aa) r (y ∷ ys) each_is m);
        area = alike_at (IsArea asked) (as_area (atoms.Lists m.atom)) (Some (y ∷ ys)) (area_of t) (ap (option_and_then if_some_items) es) (lists_are asked at least (a ∷ aa) r (y ∷ ys) each_is m);
        areas = none_areas (not_all 3 4 e (λ z. omega (arith, z)));
      }

      go : (ys : List Positions) × (lists_of t ≡ Some ys) × EachIs positions_of as_points (IsPoints asked) (a ∷ aa) ys → IsRead asked r t
      go (ys, es, each_is) = subst (λ z. IsRead asked z t) (sym m.result_is) (array_read (atoms.Lists m.atom)
          (record { at_is = m.at_is; twin = refl; single = refl; null = refl; empty = refl; kind = refl; text = refl; number = refl; role = refl; texts = refl; geometries = ap (λ k. Some (both_forms k)) m.least_is; features = ap (λ k. Some (both_forms k)) m.least_is })
          (no_objects 2 (a ∷ aa) (all_sorted 2 (a ∷ aa) e)) (at_list ys es each_is))

    -- ---- areas

    pub areas_read : rank (sort_of_all (a ∷ aa)) ≡ 4 → (r : GeoAtom) → MakesAreas (needs_shapes asked.query) at least (a ∷ aa) r → IsRead asked r t
    areas_read e r m =
        let all = all_sorted 3 (a ∷ aa) e in
        let (ys, es, each_is) = some_areas asked at (a ∷ aa) ts h all in
        subst (λ z. IsRead asked z t) (sym m.result_is) (array_read (atoms.Areas m.atom)
        (record { at_is = m.at_is; twin = refl; single = refl; null = refl; empty = refl; kind = refl; text = refl; number = refl; role = refl; texts = refl; geometries = ap (λ k. Some (both_forms k)) m.least_is; features = ap (λ k. Some (both_forms k)) m.least_is })
        (no_objects 3 (a ∷ aa) all)
        (record {
          position = none_position (not_all 4 1 e (λ z. omega (arith, z)));
          points = none_points (not_all 4 2 e (λ z. omega (arith, z)));
          lists = none_lists (not_all 4 3 e (λ z. omega (arith, z)));
          area = none_area (not_all 4 3 e (λ z. omega (arith, z)));
          areas = alike_at (IsAreas asked) (as_areas (atoms.Areas m.atom)) (Some ys) (areas_of t) es (areas_are asked at least (a ∷ aa) r ys each_is m);
        }))

    -- ---- numbers

    position_atom_is : (x y : GeoAtom) → IsArrayAtom asked (position_atom at least x y) at least
    position_atom_is x y = go (first_fault (number_fault x) (number_fault y)) where
      go : (o : Option Fault) → IsArrayAtom asked (position_made at least x y o) at least
      go None = record { at_is = refl; twin = refl; single = refl; null = refl; empty = refl; kind = refl; text = refl; number = refl; role = refl; texts = refl; geometries = refl; features = refl }
      go (Some f) = record { at_is = refl; twin = refl; single = refl; null = refl; empty = refl; kind = refl; text = refl; number = refl; role = refl; texts = refl; geometries = refl; features = refl }

    no_views : (x y : GeoAtom) → (as_points (position_atom at least x y) ≡ None) × (as_lists (position_atom at least x y) ≡ None) × (as_area (position_atom at least x y) ≡ None) × (as_areas (position_atom at least x y) ≡ None)
    no_views x y = go (first_fault (number_fault x) (number_fault y)) where
      go : (o : Option Fault) → (as_points (position_made at least x y o) ≡ None) × (as_lists (position_made at least x y o) ≡ None) × (as_area (position_made at least x y o) ≡ None) × (as_areas (position_made at least x y o) ≡ None)
      go None = (refl, refl, refl, refl)
      go (Some f) = (refl, refl, refl, refl)

    pub position_read : rank (sort_of_all (a ∷ aa)) ≡ 1 → (r : GeoAtom) → pair_atom at least (a ∷ aa) ≡ Some r → IsRead asked r t
    position_read e r p = go aa refl where
      all : are_all 1 (a ∷ aa) ≡ true
      all = all_sorted 0 (a ∷ aa) e

      forms : (b : GeoAtom) (bb : List GeoAtom) → aa ≡ b ∷ bb → (ys : List (Numeral × ℕ)) → each number_at (items_of ts) ≡ Some ys → EachIs number_at as_number (IsNumber asked) (a ∷ b ∷ bb) ys → AreForms asked at ts (position_atom at least a b)
      forms b bb q [] es each_is = absurd each_is
      forms b bb q (n ∷ []) es each_is = absurd each_is.1
      forms b bb q (n ∷ m ∷ ys) es each_is = record {
        position = alike_at (IsPosition asked) (as_position (position_atom at least a b)) (Some (record { x = n.0; x_at = n.1; y = m.0; y_at = m.1 })) (position_of t) (ap (option_and_then position_of_numbers) es) (position_is asked at least a b n m each_is.0 each_is.1.0);
        points = subst (λ o. Alike (IsPoints asked) o (positions_of t)) (sym (no_views a b).0) (none_points (not_all 1 2 e (λ z. omega (arith, z))));
        lists = subst (λ o. Alike (IsLists asked) o (lists_of t)) (sym (no_views a b).1) (none_lists (not_all 1 3 e (λ z. omega (arith, z))));
        area = subst (λ o. Alike (IsArea asked) o (area_of t)) (sym (no_views a b).2) (none_area (not_all 1 3 e (λ z. omega (arith, z))));
        areas = subst (λ o. Alike (IsAreas asked) o (areas_of t)) (sym (no_views a b).3) (none_areas (not_all 1 4 e (λ z. omega (arith, z))));
      }

      go : (rest : List GeoAtom) → aa ≡ rest → IsRead asked r t
      go [] q = absurd (none-some r (ap (λ z. pair_atom at least (a ∷ z)) (sym q) ∙ p))
      go (b ∷ bb) q =
          let made : position_atom at least a b ≡ r = same_Some (position_atom at least a b) r (ap (λ z. pair_at at least (Some a) (slice_get (a ∷ z) 1)) (sym q) ∙ p) in
          let (ys, es, each_is) = some_numbers asked at (a ∷ aa) ts h all in
          subst (λ z. IsRead asked z t) made (array_read (position_atom at least a b) (position_atom_is a b) (no_objects 0 (a ∷ aa) all)
          (forms b bb q ys es (subst (λ z. EachIs number_at as_number (IsNumber asked) (a ∷ z) ys) q each_is)))

    -- ---- one number alone

    pub one_number : rank (sort_of_all (a ∷ aa)) ≡ 1 → pair_atom at least (a ∷ aa) ≡ None → HasNoForm asked at ts
    one_number e p = record {
      position = one_alone aa refl;
      points = no_points asked at (a ∷ aa) ts h (not_all 1 2 e (λ z. omega (arith, z)));
      lists = no_lists asked at (a ∷ aa) ts h (not_all 1 3 e (λ z. omega (arith, z)));
      area = no_area asked at (a ∷ aa) ts h (not_all 1 3 e (λ z. omega (arith, z)));
      areas = no_areas asked at (a ∷ aa) ts h (not_all 1 4 e (λ z. omega (arith, z)));
    } where
      one : (ys : List (Numeral × ℕ)) → each number_at (items_of ts) ≡ Some ys → EachIs number_at as_number (IsNumber asked) (a ∷ []) ys → position_of t ≡ None
      one [] es i = absurd i
      one (n ∷ []) es i = ap (option_and_then position_of_numbers) es
      one (n ∷ m ∷ ys) es i = absurd i.1

      one_alone : (rest : List GeoAtom) → aa ≡ rest → position_of t ≡ None
      one_alone [] q = let (ys, es, i) = some_numbers asked at (a ∷ aa) ts h (all_sorted 0 (a ∷ aa) e) in one ys es (subst (λ z. EachIs number_at as_number (IsNumber asked) (a ∷ z) ys) q i)
      one_alone (b ∷ bb) q = absurd (none-some (position_atom at least a b) (sym p ∙ ap (λ z. pair_at at least (Some a) (slice_get (a ∷ z) 1)) q))

  -- ---- the atom of an array without equal names

  pub read_folds : (at : ℕ) (aa : List GeoAtom) (ts : Trees) (r : GeoAtom) → AreFolds (IsFold asked) aa ts → firsts twin_of aa ≡ None → twin_of r ≡ None → IsRead asked r (array at ts) → IsFold asked r (array at ts)
  read_folds at aa ts r h e k d = record { twins = k ∙ (sym e ∙ twins_items asked aa ts h); read = λ _. d }
