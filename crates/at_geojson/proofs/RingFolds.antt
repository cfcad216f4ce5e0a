-- Lists of positions, and areas, one behind another: what is kept of them is what is kept of the list of their atoms.
-- For `value`.
use Rattle.std.proofs.Common.{◌≡◌, ℕ, ◌+◌, ◌<◌, ◌≤◌, ◌==◌, min, Bool, true, ◌&&◌, List, Option, [], ◌∷◌, ◌++◌, All, map, length, slice_index, None, refl, sym, ◌∙◌, ap, subst, arith}
use Rattle.std.proofs.Math.Nat.{min-eq_left}
use Rattle.std.proofs.lemmas.List.{map-append}
use Rattle.std.proofs.lemmas.List.Folds.{list_all-append}
use Rattle.std.proofs.lemmas.List.Sums.{fold-append}
use Rattle.at_text.specs.Faults.{first_fault}
use Rattle.at_text.specs.declared.faults.Fault.{Fault}
use Rattle.at_fixed.specs.NumberSoFar.{between}
use Rattle.at_lex.specs.Spans.{AreSpaces}
use Rattle.at_query.specs.Keeping.{Asked, kept, needs_shapes}
use Rattle.at_geojson.specs.declared.atoms.atom.GeoAtom.{GeoAtom}
use Rattle.at_geojson.specs.declared.atoms.atom.GeoAtom.TheVariants as atoms
use Rattle.at_geojson.specs.declared.atoms.atom.Areas.{Areas}
use Rattle.at_geojson.specs.declared.atoms.atom.Lists.{Lists}
use Rattle.at_geojson.specs.declared.atoms.atom.ListsAtom.{ListsAtom}
use Rattle.at_geojson.specs.declared.atoms.atom.PointsAtom.{PointsAtom}
use Rattle.at_geojson.specs.declared.coordinates.pairs.Whole.{Whole}
use Rattle.at_geojson.specs.declared.atoms.sorts.Sort.{Sort}
use Rattle.at_geojson.specs.declared.atoms.sorts.Sort.TheVariants as sorts
use Rattle.at_geojson.specs.Atoms.{twin_of, at_of, IsOwn}
use Rattle.at_geojson.specs.Gathering.{firsts, are_all, rank, sort_of, sort_of_all, fault_as_line, fault_as_ring, path_in, MakesLists, area_fault, polygon_in, MakesAreas}
use Rattle.at_geojson.specs.Rows.{PointsRead, ArePointsWhole}
use Rattle.at_geojson.specs.Rings.{ListsRead, ArePointsItem, AreItemsTo, AreSorted, LengthensLists, AreLists, AreListsRead, AreListsWhole, AreListsItem, LengthensAreas, AreAreas, AreAreasRead, AreAreasWhole}
use Rattle.at_geojson.specs.Values.{IsWhole, IsItem, AreItemsRead, EndsArray}
use Rattle.at_geojson.proofs.SortFacts.{sort_is}
use Rattle.at_geojson.proofs.OwnFolds.{lists_own, areas_own}
use Rattle.at_geojson.proofs.ArrayAnswers.{lists_fold, areas_fold}
use Rattle.at_geojson.proofs.RowFolds.{kept_append}
use Rattle.at_geojson.proofs.ValueParts.{item_read, items_begin, items_own, items_go_on, array_read}

-- ---- atoms that keep what was read

abbrev pub points_atom : PointsRead → PointsAtom
points_atom p = record { at = p.at; least = p.least; points = record { ptr = p.points.path.ptr; alloc = p.points.path.alloc; value = p.points } }

abbrev pub lists_atom : ListsRead → ListsAtom
lists_atom p = record { at = p.at; least = p.least; lists = record { ptr = p.lists.paths.ptr; alloc = p.lists.paths.alloc; value = p.lists } }

-- ---- items of one sort

firsts_last : {X : Type 0} (f : X → Option Fault) (xs : List X) (x : X) → firsts f (xs ++ x ∷ []) ≡ first_fault (firsts f xs) (f x)
firsts_last f xs x = fold-append (λ first y. first_fault first (f y)) None xs (x ∷ [])

sorted_one : (k : ℕ) (a : GeoAtom) → (rank (sort_of a) == k) ≡ true → twin_of a ≡ None → AreSorted k (at_of a) (a ∷ [])
sorted_one k a e twin = record {
  all = ap (λ b. b && true) e;
  twins = twin;
  least = let l : at_of a ≤ at_of a = omega arith in min-eq_left l;
}

sorted_more : (k from : ℕ) (first : GeoAtom) (rest : List GeoAtom) (a : GeoAtom) → AreSorted k from (first ∷ rest) → (rank (sort_of a) == k) ≡ true → twin_of a ≡ None → from ≤ at_of a → AreSorted k from (first ∷ (rest ++ a ∷ []))
sorted_more k from first rest a s e twin l = record {
  all = list_all-append (λ b. rank (sort_of b) == k) (first ∷ rest) (a ∷ []) ∙ (ap (λ b. b && are_all k (a ∷ [])) s.all ∙ ap (λ b. b && true) e);
  twins = firsts_last twin_of (first ∷ rest) a ∙ (ap (λ o. first_fault o (twin_of a)) s.twins ∙ twin);
  least = fold-append (λ least b. min least (at_of b)) (at_of first) (first ∷ rest) (a ∷ []) ∙ (ap (λ n. min n (at_of a)) s.least ∙ min-eq_left l);
}

points_sort : (s : Sort) → rank s ≡ 3 → s ≡ sorts.Points
points_sort sorts.Points e = refl
points_sort sorts.Other e = absurd (omega (arith, e))
points_sort sorts.Number e = absurd (omega (arith, e))
points_sort sorts.Position e = absurd (omega (arith, e))
points_sort sorts.Lists e = absurd (omega (arith, e))

lists_sort : (s : Sort) → rank s ≡ 4 → s ≡ sorts.Lists
lists_sort sorts.Lists e = refl
lists_sort sorts.Other e = absurd (omega (arith, e))
lists_sort sorts.Number e = absurd (omega (arith, e))
lists_sort sorts.Position e = absurd (omega (arith, e))
lists_sort sorts.Points e = absurd (omega (arith, e))

-- ---- what is kept of them

list_alone : (needs : Bool) (m : PointsAtom) (lists : Lists) → lists.paths.items ≡ kept needs (m.points.value.path.items ∷ []) → lists.as_lines ≡ m.points.value.as_line → lists.as_rings ≡ m.points.value.as_ring
    → AreLists needs (atoms.Points m ∷ []) lists
list_alone needs m lists ep el er = record { paths = ep; as_lines = el; as_rings = er }

list_more : (needs : Bool) (items : List GeoAtom) (m : PointsAtom) (lists longer : Lists) → AreLists needs items lists → LengthensLists needs lists m.points.value longer → AreLists needs (items ++ atoms.Points m ∷ []) longer
list_more needs items m lists longer known l = record {
  paths = l.paths ∙ (ap (λ z. z ++ kept needs (path_in (atoms.Points m) ∷ [])) known.paths ∙ (kept_append needs (map path_in items) (path_in (atoms.Points m) ∷ []) ∙ ap (kept needs) (sym (map-append path_in items (atoms.Points m ∷ [])))));
  as_lines = l.as_lines ∙ (ap (λ o. first_fault o (fault_as_line (atoms.Points m))) known.as_lines ∙ sym (firsts_last fault_as_line items (atoms.Points m)));
  as_rings = l.as_rings ∙ (ap (λ o. first_fault o (fault_as_ring (atoms.Points m))) known.as_rings ∙ sym (firsts_last fault_as_ring items (atoms.Points m)));
}

area_alone : (needs : Bool) (m : ListsAtom) (areas : Areas) → areas.polygons.items ≡ kept needs (polygon_in (atoms.Lists m) ∷ []) → areas.fault ≡ m.lists.value.as_rings → AreAreas needs (atoms.Lists m ∷ []) areas
area_alone needs m areas ep ef = record { polygons = ep; fault = ef }

area_more : (needs : Bool) (items : List GeoAtom) (m : ListsAtom) (areas longer : Areas) → AreAreas needs items areas → LengthensAreas needs areas m.lists.value longer → AreAreas needs (items ++ atoms.Lists m ∷ []) longer
area_more needs items m areas longer known l = record {
  polygons = l.polygons ∙ (ap (λ z. z ++ kept needs (polygon_in (atoms.Lists m) ∷ [])) known.polygons ∙ (kept_append needs (map polygon_in items) (polygon_in (atoms.Lists m) ∷ []) ∙ ap (kept needs) (sym (map-append polygon_in items (atoms.Lists m ∷ [])))));
  fault = l.fault ∙ (ap (λ o. first_fault o (area_fault (atoms.Lists m))) known.fault ∙ sym (firsts_last area_fault items (atoms.Lists m)));
}

module _ (asked : Asked) (base : ℕ) (w : List ℕ) where
  -- ---- the items up to a place

  items_begin_to : (at end : ℕ) (a : GeoAtom) → at < length w → IsItem asked base w (at + 1) (record { end = end; atom = a }) → AreItemsTo asked base w at end (a ∷ [])
  items_begin_to at end a inside item = record { place = at + 1; before = []; last = a; split = refl; order = omega arith; read = items_begin asked base w at inside; item = item }

  items_on_to : (at end next : ℕ) (items : List GeoAtom) (a : GeoAtom) → AreItemsTo asked base w at end items → end < length w → slice_index w end ≡ 0x2C → IsItem asked base w (end + 1) (record { end = next; atom = a }) → AreItemsTo asked base w at next (items ++ a ∷ [])
  items_on_to at end next items a to inside byte item = record {
    place = end + 1;
    before = items;
    last = a;
    split = refl;
    order = omega (arith, to.order, to.item.order);
    read = subst (AreItemsRead asked base w at (end + 1)) (sym to.split) (items_go_on asked base w at to.place to.before (record { end = end; atom = to.last }) to.order to.read to.item inside byte);
    item = item;
  }

  items_own_to : (at end : ℕ) (items : List GeoAtom) → AreItemsTo asked base w at end items → All (IsOwn asked) items
  items_own_to at end items to = subst (All (IsOwn asked)) (sym to.split) (items_own asked base w at to.place to.before (record { end = end; atom = to.last }) to.read to.item)

  items_end_to : (at end : ℕ) (items : List GeoAtom) (q : Whole) → AreItemsTo asked base w at end items → end < length w → slice_index w at ≡ 0x5B → slice_index w end ≡ 0x5D → EndsArray asked (base + at) (end + 1) items q → IsWhole asked base w at q
  items_end_to at end items q to inside opens byte ends =
      array_read asked base w at to.place to.before (record { end = end; atom = to.last }) q to.order opens to.read to.item inside byte (subst (λ z. EndsArray asked (base + at) (end + 1) z q) to.split ends)

  -- ---- lists of positions

  pub points_padded : (at first end : ℕ) (p : PointsRead) → at ≤ first → AreSpaces (between w at first) → ArePointsWhole asked base w first p → p.end ≤ end → end ≤ length w → AreSpaces (between w p.end end)
      → ArePointsItem asked base w at (record { at = p.at; least = p.least; end = end; points = p.points })
  points_padded at first end p h spaces whole k fits more = record {
    within = fits;
    begins = omega (arith, h, whole.at_is);
    ends = omega (arith, whole.at_is, whole.order, k);
    item = λ m keeps. item_read asked base w at first end (record { end = p.end; atom = atoms.Points m }) h spaces (whole.whole m (record { at_is = keeps.at_is; least_is = keeps.least_is; points_is = keeps.points_is })) k fits more;
  }

  pub lists_begin : (at : ℕ) (p : PointsRead) (lists : Lists) (b : Bool) → b ≡ needs_shapes asked.query → at < length w → ArePointsItem asked base w (at + 1) p → lists.paths.items ≡ kept b (p.points.path.items ∷ []) → lists.as_lines ≡ p.points.as_line → lists.as_rings ≡ p.points.as_ring
      → AreListsRead asked base w at p.end p.at lists
  lists_begin at p lists b eb inside item ep el er =
      let m = points_atom p in
      record {
        first = atoms.Points m;
        rest = [];
        to = items_begin_to at p.end (atoms.Points m) inside (item.item m (record { at_is = refl; least_is = refl; points_is = refl }));
        sorted = sorted_one 3 (atoms.Points m) refl refl;
        begins = item.ends;
        known = list_alone (needs_shapes asked.query) m lists (ep ∙ ap (λ z. kept z (p.points.path.items ∷ [])) eb) el er;
      }

  pub lists_go_on : (at end from : ℕ) (p : PointsRead) (lists longer : Lists) (b : Bool) → b ≡ needs_shapes asked.query → AreListsRead asked base w at end from lists → end < length w → slice_index w end ≡ 0x2C → ArePointsItem asked base w (end + 1) p → LengthensLists b lists p.points longer
      → AreListsRead asked base w at p.end from longer
  lists_go_on at end from p lists longer b eb read inside byte item l =
      let m = points_atom p in
      let one = item.item m (record { at_is = refl; least_is = refl; points_is = refl }) in
      record {
        first = read.first;
        rest = read.rest ++ atoms.Points m ∷ [];
        to = items_on_to at end p.end (read.first ∷ read.rest) (atoms.Points m) read.to inside byte one;
        sorted = sorted_more 3 from read.first read.rest (atoms.Points m) read.sorted refl refl (omega (arith, read.begins, item.begins));
        begins = omega (arith, read.begins, one.order);
        known = list_more (needs_shapes asked.query) (read.first ∷ read.rest) m lists longer read.known (subst (λ z. LengthensLists z lists p.points longer) eb l);
      }

  pub lists_end : (at end from : ℕ) (lists : Lists) → AreListsRead asked base w at end from lists → at < end → end < length w → slice_index w at ≡ 0x5B → slice_index w end ≡ 0x5D
      → AreListsWhole asked base w at (record { at = base + at; least = from; end = end + 1; lists = lists })
  lists_end at end from lists read order inside opens byte =
      let items : List GeoAtom = read.first ∷ read.rest in
      let sort : sort_of_all items ≡ sorts.Points = points_sort (sort_of_all items) (sort_is 3 read.first read.rest read.sorted.all) in
      record {
        order = omega (arith, order);
        within = omega (arith, inside);
        at_is = refl;
        whole = λ m keeps. (
            let made : MakesLists (needs_shapes asked.query) (base + at) from items (atoms.Lists m) = record {
              atom = m;
              result_is = refl;
              at_is = keeps.at_is;
              least_is = keeps.least_is;
              paths = ap (λ (l : Lists). l.paths.items) keeps.lists_is ∙ read.known.paths;
              as_lines = ap (λ (l : Lists). l.as_lines) keeps.lists_is ∙ read.known.as_lines;
              as_rings = ap (λ (l : Lists). l.as_rings) keeps.lists_is ∙ read.known.as_rings;
            } in
            items_end_to at end items (record { end = end + 1; atom = atoms.Lists m }) read.to inside opens byte (record {
              behind = refl;
              own = lists_own asked (base + at) from items (atoms.Lists m) (items_own_to at end items read.to) made;
              fold = lists_fold asked (base + at) items (λ e. cc) read.sorted.twins (needs_shapes asked.query) from (atoms.Lists m) refl (sym read.sorted.least) sort made;
            }));
      }

  -- ---- areas

  pub lists_padded : (at first end : ℕ) (p : ListsRead) → at ≤ first → AreSpaces (between w at first) → AreListsWhole asked base w first p → p.end ≤ end → end ≤ length w → AreSpaces (between w p.end end)
      → AreListsItem asked base w at (record { at = p.at; least = p.least; end = end; lists = p.lists })
  lists_padded at first end p h spaces whole k fits more = record {
    within = fits;
    begins = omega (arith, h, whole.at_is);
    ends = omega (arith, whole.at_is, whole.order, k);
    item = λ m keeps. item_read asked base w at first end (record { end = p.end; atom = atoms.Lists m }) h spaces (whole.whole m (record { at_is = keeps.at_is; least_is = keeps.least_is; lists_is = keeps.lists_is })) k fits more;
  }

  pub areas_begin : (at : ℕ) (p : ListsRead) (areas : Areas) (b : Bool) → b ≡ needs_shapes asked.query → at < length w → AreListsItem asked base w (at + 1) p → areas.polygons.items ≡ kept b (record { rings = p.lists.paths.items } ∷ []) → areas.fault ≡ p.lists.as_rings
      → AreAreasRead asked base w at p.end p.at areas
  areas_begin at p areas b eb inside item ep ef =
      let m = lists_atom p in
      record {
        first = atoms.Lists m;
        rest = [];
        to = items_begin_to at p.end (atoms.Lists m) inside (item.item m (record { at_is = refl; least_is = refl; lists_is = refl }));
        sorted = sorted_one 4 (atoms.Lists m) refl refl;
        begins = item.ends;
        known = area_alone (needs_shapes asked.query) m areas (ep ∙ ap (λ z. kept z (polygon_in (atoms.Lists m) ∷ [])) eb) ef;
      }

  pub areas_go_on : (at end from : ℕ) (p : ListsRead) (areas longer : Areas) (b : Bool) → b ≡ needs_shapes asked.query → AreAreasRead asked base w at end from areas → end < length w → slice_index w end ≡ 0x2C → AreListsItem asked base w (end + 1) p → LengthensAreas b areas p.lists longer
      → AreAreasRead asked base w at p.end from longer
  areas_go_on at end from p areas longer b eb read inside byte item l =
      let m = lists_atom p in
      let one = item.item m (record { at_is = refl; least_is = refl; lists_is = refl }) in
      record {
        first = read.first;
        rest = read.rest ++ atoms.Lists m ∷ [];
        to = items_on_to at end p.end (read.first ∷ read.rest) (atoms.Lists m) read.to inside byte one;
        sorted = sorted_more 4 from read.first read.rest (atoms.Lists m) read.sorted refl refl (omega (arith, read.begins, item.begins));
        begins = omega (arith, read.begins, one.order);
        known = area_more (needs_shapes asked.query) (read.first ∷ read.rest) m areas longer read.known (subst (λ z. LengthensAreas z areas p.lists longer) eb l);
      }

  pub areas_end : (at end from : ℕ) (areas : Areas) → AreAreasRead asked base w at end from areas → at < end → end < length w → slice_index w at ≡ 0x5B → slice_index w end ≡ 0x5D
      → AreAreasWhole asked base w at (record { at = base + at; least = from; end = end + 1; areas = areas })
  areas_end at end from areas read order inside opens byte =
      let items : List GeoAtom = read.first ∷ read.rest in
      let sort : sort_of_all items ≡ sorts.Lists = lists_sort (sort_of_all items) (sort_is 4 read.first read.rest read.sorted.all) in
      record {
        order = omega (arith, order);
        within = omega (arith, inside);
        at_is = refl;
        whole = λ m keeps. (
            let made : MakesAreas (needs_shapes asked.query) (base + at) from items (atoms.Areas m) = record {
              atom = m;
              result_is = refl;
              at_is = keeps.at_is;
              least_is = keeps.least_is;
              polygons = ap (λ (a : Areas). a.polygons.items) keeps.areas_is ∙ read.known.polygons;
              fault = ap (λ (a : Areas). a.fault) keeps.areas_is ∙ read.known.fault;
            } in
            items_end_to at end items (record { end = end + 1; atom = atoms.Areas m }) read.to inside opens byte (record {
              behind = refl;
              own = areas_own asked (base + at) from items (atoms.Areas m) (items_own_to at end items read.to) made;
              fold = areas_fold asked (base + at) items (λ e. cc) read.sorted.twins (needs_shapes asked.query) from (atoms.Areas m) refl (sym read.sorted.least) sort made;
            }));
      }
