-- Positions one behind another, of which something is made as they are read. For `value`.
use Rattle.std.proofs.Common.{◌≡◌, ℕ, ◌+◌, ◌<◌, ◌≤◌, Bool, true, false, List, [], ◌∷◌, ◌++◌, ◌-◌, take, drop, length, slice_index, Option, None, Some, refl, sym, ◌∙◌, ap, subst, arith}
use Rattle.std.specs.Prelude.{◌^◌}
use Rattle.std.proofs.lemmas.List.{length-append}
use Rattle.std.specs.declared.alloc.Global.{Global}
use Rattle.std.specs.declared.vec.Vec.{Vec}
use Rattle.at_text.specs.declared.faults.Fault.{Fault}
use Rattle.at_text.specs.Faults.{first_fault}
use Rattle.at_fixed.specs.NumberSoFar.{between}
use Rattle.at_lex.specs.Spans.{AreSpaces}
use Rattle.at_geom.specs.declared.positions.Pos.{Pos}
use Rattle.at_geom.specs.declared.shapes.Polygon.{Polygon}
use Rattle.at_geom.specs.Segments.{IsInRange}
use Rattle.at_geom.specs.Shapes.{line_fault, ring_fault}
use Rattle.at_nest.specs.Tree.{Tree, Spells, Padded, IsTextOf}
use Rattle.at_nest.proofs.TreeParts.{padded_parts, text_made}
use Rattle.at_text.specs.Parts.{Nothing, ◌▸◌}
use Rattle.at_nest.specs.Passing.{IsPadded}
use Rattle.at_nest.proofs.OneTree.{one_tree}
use Rattle.at_nest.proofs.Passed.{padded_gives}
use Rattle.at_scan.proofs.Moved.{bytes_moved}
use Rattle.at_query.specs.Keeping.{Asked, kept, needs_shapes}
use Rattle.at_geojson.specs.declared.atoms.atom.GeoAtom.TheVariants as atoms
use Rattle.at_geojson.specs.declared.atoms.atom.PositionAtom.{PositionAtom}
use Rattle.at_geojson.specs.declared.coordinates.spots.Spot.{Spot}
use Rattle.at_geojson.specs.declared.atoms.atom.Areas.{Areas}
use Rattle.at_geojson.specs.declared.atoms.atom.Lists.{Lists}
use Rattle.at_geojson.specs.declared.coordinates.makings.LineMade.{LineMade}
use Rattle.at_geojson.specs.declared.coordinates.makings.LinesMade.{LinesMade}
use Rattle.at_geojson.specs.declared.coordinates.makings.AreasMade.{AreasMade}
use Rattle.at_geojson.specs.declared.coordinates.pairs.PairRead.{PairRead}
use Rattle.at_geojson.specs.declared.coordinates.pairs.PairPlace.{PairPlace}
use Rattle.at_geojson.specs.declared.coordinates.pairs.Row.{Row}
use Rattle.at_wkt.specs.Positions.{Position}
use Rattle.at_geojson.specs.Coordinates.{position_of}
use Rattle.at_geojson.specs.Atoms.{to_four, IsFold, PositionView, Alike, IsPosition}
use Rattle.at_geojson.specs.Passing.{IsPairAt, pair_of, same_values}
use Rattle.at_geojson.specs.Rows.{PointsRead, ArePointsRead}
use Rattle.at_geojson.specs.Values.{IsSpacedPair}
use Rattle.at_geojson.specs.Makings.{ReadsSpot, IsPassedOver, MakesLine, MakesLineItem, MakesLines, MakesLinesItem, polygon, MakesPolygons}
use Rattle.at_geojson.specs.Rings.{ListsRead, AreLists, AreListsRead, AreListsWhole, AreAreas, AreAreasRead, AreAreasWhole}
use Rattle.at_geojson.proofs.RingFolds.{points_padded, lists_begin, lists_go_on, lists_end, lists_padded, areas_begin, areas_go_on, areas_end}
use Rattle.at_geojson.proofs.RowFolds.{lengthened, row_made, kept_append, points_begin, points_go_on, points_end}
use Rattle.at_geojson.proofs.ProofOnly.{vec_of, kept_length}
use Rattle.at_geojson.proofs.PassedPairs.{placed_pair, pair_moved, moved_pair, same_as_itself}

one_longer : {X : Type 0} (xs : List X) (x : X) → length (xs ++ x ∷ []) ≡ length xs + 1
one_longer xs x = length-append xs (x ∷ [])

-- ---- the positions of a list, up to the last of them

pub record AreMade {M B L : Type 0} (Marks : Pos → M → Type 0) (Stands : Asked → List ℕ → ℕ → ℕ → Pos → Type 0) (Tells : B → List Pos → L → Type 0) (before : B) (asked : Asked) (base : ℕ) (w : List ℕ)
    (at : ℕ) (first last : Spot M) (place count : ℕ) (made : L) : Type 0 where
  pub within : last.end ≤ length w
  pub begins : at + 1 ≤ first.end
  pub start : at + 1 ≤ place
  pub order : place ≤ last.end
  pub inside : first.end ≤ length w
  pub pair : PositionAtom
  pub at_is : pair.at ≡ base + first.bracket
  pub first_marks : Marks pair.pos first.mark
  pub first_stands : Stands asked w (at + 1) first.end pair.pos
  pub value : Pos
  pub in_range : IsInRange value
  pub last_marks : Marks value last.mark
  pub last_stands : Stands asked w place last.end value
  pub front : List Pos
  pub few : length (front ++ value ∷ []) ≤ last.end
  pub path : Vec Pos Global
  pub path_is : path.items ≡ kept (needs_shapes asked.query) (front ++ value ∷ [])
  pub read : ArePointsRead asked base w at last.end (record { first = pair; last = value; count = count; path = path })
  pub tells : Tells before (front ++ value ∷ []) made

module _ {M B L : Type 0} (Marks : Pos → M → Type 0) (Stands : Asked → List ℕ → ℕ → ℕ → Pos → Type 0) (Tells : B → List Pos → L → Type 0) (before : B) (asked : Asked) (base : ℕ) (w : List ℕ) (alloc : Global) (short : length w < 2 ^ 62) where
  pub making_begins : (at : ℕ) (s : Spot M) (made : L) → at < length w → ReadsSpot Marks (Stands asked w (at + 1)) asked base w (at + 1) s → ((p : Pos) → Marks p s.mark → Tells before (p ∷ []) made)
      → AreMade Marks Stands Tells before asked base w at s s (at + 1) 1 made
  making_begins at s made inside r told =
      let needs = needs_shapes asked.query in
      let k = kept_length needs (r.pair.pos ∷ []) in
      let path = vec_of alloc (kept needs (r.pair.pos ∷ [])) (omega (arith, k)) in
      let row : Row = record { first = r.pair; last = r.pair.pos; count = 1; path = path } in
      record {
        within = r.spaced.within;
        begins = omega (arith, r.spaced.order);
        start = omega arith;
        order = omega (arith, r.spaced.order);
        inside = r.spaced.within;
        pair = r.pair;
        at_is = r.at_is;
        first_marks = r.marks;
        first_stands = r.stands;
        value = r.pair.pos;
        in_range = r.spaced.own;
        last_marks = r.marks;
        last_stands = r.stands;
        front = [];
        few = omega (arith, r.spaced.order);
        path = path;
        path_is = refl;
        read = points_begin asked base w at (record { end = s.end; pair = r.pair }) row inside r.spaced refl (record { next = tt; path = refl; count = refl; last = refl });
        tells = told r.pair.pos r.marks;
      }

  pub making_goes_on : (at : ℕ) (first last s : Spot M) (place count more : ℕ) (made longer : L) → AreMade Marks Stands Tells before asked base w at first last place count made → last.end < length w → slice_index w last.end ≡ 0x2C
      → ReadsSpot Marks (Stands asked w (last.end + 1)) asked base w (last.end + 1) s → ((n : ℕ) → count ≡ to_four n → more ≡ to_four (n + 1))
      → ((before : B) (front : List Pos) (p q : Pos) → Marks p last.mark → Marks q s.mark → Tells before (front ++ p ∷ []) made → Tells before ((front ++ p ∷ []) ++ q ∷ []) longer)
      → AreMade Marks Stands Tells before asked base w at first s (last.end + 1) more longer
  making_goes_on at first last s place count more made longer f inside comma r counts told =
      let needs = needs_shapes asked.query in
      let xs = f.front ++ f.value ∷ [] in
      let l = one_longer xs r.pair.pos in
      let k = kept_length needs (xs ++ r.pair.pos ∷ []) in
      let path = vec_of alloc (kept needs (xs ++ r.pair.pos ∷ [])) (omega (arith, k, l, f.few, short, inside)) in
      let old : Row = record { first = f.pair; last = f.value; count = count; path = f.path } in
      let new : Row = record { first = f.pair; last = r.pair.pos; count = more; path = path } in
      record {
        within = r.spaced.within;
        begins = f.begins;
        start = omega (arith, f.start, f.order);
        order = omega (arith, r.spaced.order);
        inside = f.inside;
        pair = f.pair;
        at_is = f.at_is;
        first_marks = f.first_marks;
        first_stands = f.first_stands;
        value = r.pair.pos;
        in_range = r.spaced.own;
        last_marks = r.marks;
        last_stands = r.stands;
        front = xs;
        few = omega (arith, l, f.few, r.spaced.order);
        path = path;
        path_is = refl;
        read = points_go_on asked base w at last.end (record { end = s.end; pair = r.pair }) old new f.read inside comma r.spaced
            (lengthened needs old new r.pair refl refl (sym (kept_append needs xs (r.pair.pos ∷ [])) ∙ ap (λ z. z ++ kept needs (r.pair.pos ∷ [])) (sym f.path_is)) counts);
        tells = told before f.front f.value r.pair.pos f.last_marks r.marks f.tells;
      }

  pub making_ends : (at : ℕ) (first last : Spot M) (place count : ℕ) (closes : Bool) (made : L) (m : LineMade L) → AreMade Marks Stands Tells before asked base w at first last place count made → last.end < length w → slice_index w at ≡ 0x5B → slice_index w last.end ≡ 0x5D
      → ((p q : Pos) → Marks p first.mark → Stands asked w (at + 1) first.end p → Marks q last.mark → Stands asked w place last.end q → closes ≡ same_values p q)
      → m.at ≡ base + at → m.least ≡ base + first.bracket → m.end ≡ last.end + 1 → m.as_line ≡ line_fault count (base + at) → m.as_ring ≡ ring_fault count closes (base + at) → m.made ≡ made
      → MakesLine Tells before asked base w at m
  making_ends at first last place count closes made m f inside opens byte same ea el ee eline ering em =
      let row : Row = record { first = f.pair; last = f.value; count = count; path = f.path } in
      let c = same f.pair.pos f.value f.first_marks f.first_stands f.last_marks f.last_stands in
      record {
        path = f.front ++ f.value ∷ [];
        few = omega (arith, f.few, f.within);
        tells = subst (Tells before (f.front ++ f.value ∷ [])) (sym em) f.tells;
        at_is = ea;
        order = omega (arith, f.start, f.order, ee);
        within = omega (arith, inside, ee);
        whole = λ p pa pl pe pp pn pline pring.
            points_end asked base w at last.end row p f.read inside opens byte (record {
              at_is = pa ∙ ea;
              least_is = pl ∙ (el ∙ sym f.at_is);
              behind = pe ∙ ee;
              made = row_made (needs_shapes asked.query) (base + at) row p.points (pp ∙ sym f.path_is) pn (pline ∙ eline) (pring ∙ (ering ∙ ap (λ b. ring_fault count b (base + at)) c));
            });
      }

-- ---- one position for the bytes

module _ (asked : Asked) (base : ℕ) (w : List ℕ) (at end : ℕ) where
  text_of : (t : Tree) → end ≤ length w → IsPadded (λ j v. Spells j v t) base w at end → IsTextOf (base + at) (between w at end) t
  text_of t fits h = text_made t (base + at) (between w at end) (padded_parts (λ j v. Spells j v t) Nothing (base + at) (between w at end)
      (subst (λ z. (Padded (λ j v. Spells j v t) ▸ Nothing) (base + at) z) (append_none (between w at end)) (padded_gives (λ j v. Spells j v t) Nothing base w at end [] fits h refl))) where
        append_none : (v : List ℕ) → v ++ [] ≡ v
        append_none [] = refl
        append_none (b ∷ v) = ap (λ z. b ∷ z) (append_none v)

  pub one_position : (p q : PositionAtom) → IsSpacedPair asked base w at (record { end = end; pair = p }) → IsSpacedPair asked base w at (record { end = end; pair = q }) → p.pos ≡ q.pos
  one_position p q h k =
      let e = one_tree (base + at) (between w at end) k.tree h.tree (text_of k.tree k.within k.spells) (text_of h.tree h.within h.spells) in
      same_values_of h.tree h.fold (subst (IsFold asked (atoms.Position q)) (sym e) k.fold) where
        one_view : (v u : PositionView) (o : Option Position) → Alike (IsPosition asked) (Some v) o → Alike (IsPosition asked) (Some u) o → v.fault ≡ None → u.fault ≡ None → v.pos ≡ u.pos
        one_view v u (Some x) a b e f = a.1 e ∙ sym (b.1 f)
        one_view v u None a b e f = absurd a

        same_values_of : (t : Tree) → IsFold asked (atoms.Position p) t → IsFold asked (atoms.Position q) t → p.pos ≡ q.pos
        same_values_of t a b = one_view (record { pos = p.pos; fault = None }) (record { pos = q.pos; fault = None }) (position_of t) (a.read refl).coordinates.position (b.read refl).coordinates.position refl refl

-- ---- whether positions that were passed over are the same

passed_pair : (asked : Asked) (base : ℕ) (w : List ℕ) (at end : ℕ) (place : PairPlace) (p : Pos) → place.end ≡ end → IsPairAt asked w at place p → IsSpacedPair asked base w at (record { end = end; pair = pair_of base place p })
passed_pair asked base w at end place p e h = subst (λ z. IsSpacedPair asked base w at (record { end = z; pair = pair_of base place p })) e (placed_pair asked base w at place p h)

-- the position that was read there
pub passed_value : (asked : Asked) (base : ℕ) (w : List ℕ) (at end : ℕ) (p : Pos) (r : PairRead) → IsPassedOver asked w at end p → r.end ≡ end → IsSpacedPair asked base w at r → r.pair.pos ≡ p
passed_value asked base w at end p r (place, e, h) k read =
    one_position asked base w at end r.pair (pair_of base place p) (subst (λ z. IsSpacedPair asked base w at (record { end = z; pair = r.pair })) k read) (passed_pair asked base w at end place p e h)

-- the same bytes are the same position
pub same_bytes : (asked : Asked) (base : ℕ) (w : List ℕ) (from to at end : ℕ) (p q : Pos) → from ≤ to → from ≤ at → at ≤ end → to ≤ length w → end ≤ length w → take (to - from) (drop from w) ≡ take (end - at) (drop at w)
    → IsPassedOver asked w from to p → IsPassedOver asked w at end q → true ≡ same_values p q
same_bytes asked base w from to at end p q h k l inside fits same (place, e, stood) (other, f, stands) =
    let (ends, bytes) = bytes_moved w from to at end h k l inside fits same in
    let far = at - from in
    let reaches : far + to ≤ length w = omega (arith, ends, fits) in
    let there : far + from ≡ at = omega (arith, k) in
    let moved = moved_pair asked w from to far reaches bytes place in
    let stood_there = subst (λ z. IsPairAt asked w z moved p) there (pair_moved asked w from to far reaches bytes place p e stood) in
    let till : moved.end ≡ end = omega (arith, e, ends) in
    let one = one_position asked base w at end (pair_of base moved p) (pair_of base other q) (passed_pair asked base w at end moved p till stood_there) (passed_pair asked base w at end other q f stands) in
    subst (λ z. true ≡ same_values p z) one (sym (same_as_itself p))

-- ---- lists of positions, up to the last of them

pub kept_twice : {X : Type 0} (needs : Bool) (xs : List X) → kept needs (kept needs xs ∷ []) ≡ kept needs (xs ∷ [])
kept_twice true xs = refl
kept_twice false xs = refl

pub record AreLinesMade {B L : Type 0} (Tells : B → List (List Pos) → L → Type 0) (before : B) (asked : Asked) (base : ℕ) (w : List ℕ) (at from end : ℕ) (as_lines as_rings : Option Fault) (made : L) : Type 0 where
  pub within : end ≤ length w
  pub order : at < end
  pub paths : List (List Pos)
  pub few : length paths ≤ end
  pub lists : Lists
  pub kept_is : lists.paths.items ≡ kept (needs_shapes asked.query) paths
  pub lines_is : lists.as_lines ≡ as_lines
  pub rings_is : lists.as_rings ≡ as_rings
  pub read : AreListsRead asked base w at end from lists
  pub tells : Tells before paths made

module _ {B K L : Type 0} (Tells : B → List Pos → K → Type 0) (TellsLines : B → List (List Pos) → L → Type 0) (before : B) (asked : Asked) (base : ℕ) (w : List ℕ) (alloc : Global) (short : length w < 2 ^ 62) where
  pub line_spaced : (at first end : ℕ) (m : LineMade K) → at ≤ first → AreSpaces (between w at first) → MakesLine Tells before asked base w first m → m.end ≤ end → end ≤ length w → AreSpaces (between w m.end end)
      → MakesLineItem Tells before asked base w at (record { at = m.at; least = m.least; end = end; as_line = m.as_line; as_ring = m.as_ring; made = m.made })
  line_spaced at first end m h spaces line k fits more =
      let needs = needs_shapes asked.query in
      let l = kept_length needs line.path in
      let path = vec_of alloc (kept needs line.path) (omega (arith, l, line.few, short)) in
      let p : PointsRead = record { at = m.at; least = m.least; end = m.end; points = record { path = path; as_points = None; as_line = m.as_line; as_ring = m.as_ring } } in
      record {
        path = line.path;
        tells = line.tells;
        points = record { at = p.at; least = p.least; end = end; points = p.points };
        item = points_padded asked base w at first end p h spaces (line.whole p refl refl refl refl refl refl refl) k fits more;
        at_is = refl;
        end_is = refl;
        kept_is = refl;
        points_is = refl;
        line_is = refl;
        ring_is = refl;
      }

  pub lines_begin : (at : ℕ) (q : LineMade K) (made : L) → at < length w → MakesLineItem Tells before asked base w (at + 1) q → ((before : B) (path : List Pos) → Tells before path q.made → TellsLines before (path ∷ []) made)
      → AreLinesMade TellsLines before asked base w at q.at q.end q.as_line q.as_ring made
  lines_begin at q made inside h told =
      let needs = needs_shapes asked.query in
      let l = kept_length needs (h.path ∷ []) in
      let paths = vec_of alloc (kept needs (h.path ∷ [])) (omega (arith, l)) in
      let lists : Lists = record { paths = paths; as_lines = q.as_line; as_rings = q.as_ring } in
      let same : kept needs (h.points.points.path.items ∷ []) ≡ kept needs (h.path ∷ []) = ap (λ z. kept needs (z ∷ [])) h.kept_is ∙ kept_twice needs h.path in
      record {
        within = omega (arith, h.item.within, h.end_is);
        order = omega (arith, h.item.begins, h.item.ends, h.end_is);
        paths = h.path ∷ [];
        few = omega (arith, h.item.begins, h.item.ends, h.end_is);
        lists = lists;
        kept_is = refl;
        lines_is = refl;
        rings_is = refl;
        read = subst (λ z. AreListsRead asked base w at z q.at lists) h.end_is (subst (λ z. AreListsRead asked base w at h.points.end z lists) h.at_is
            (lists_begin asked base w at h.points lists needs refl inside h.item (sym same) (sym h.line_is) (sym h.ring_is)));
        tells = told before h.path h.tells;
      }

  pub lines_go_on : (at from end : ℕ) (as_lines as_rings more_lines more_rings : Option Fault) (made longer : L) (b around : B) (q : LineMade K) → AreLinesMade TellsLines before asked base w at from end as_lines as_rings made → end < length w → slice_index w end ≡ 0x2C
      → b ≡ around → MakesLineItem Tells b asked base w (end + 1) q → more_lines ≡ first_fault as_lines q.as_line → more_rings ≡ first_fault as_rings q.as_ring
      → ((before : B) (paths : List (List Pos)) (path : List Pos) → TellsLines before paths made → Tells around path q.made → TellsLines before (paths ++ path ∷ []) longer)
      → AreLinesMade TellsLines before asked base w at from q.end more_lines more_rings longer
  lines_go_on at from end as_lines as_rings more_lines more_rings made longer b around q f inside comma e h el er told =
      let needs = needs_shapes asked.query in
      let xs = f.paths ++ h.path ∷ [] in
      let n = length-append f.paths (h.path ∷ []) in
      let l = kept_length needs xs in
      let paths = vec_of alloc (kept needs xs) (omega (arith, l, n, f.few, short, inside)) in
      let lists : Lists = record { paths = paths; as_lines = more_lines; as_rings = more_rings } in
      let same : kept needs (h.points.points.path.items ∷ []) ≡ kept needs (h.path ∷ []) = ap (λ z. kept needs (z ∷ [])) h.kept_is ∙ kept_twice needs h.path in
      let all : kept needs xs ≡ f.lists.paths.items ++ kept needs (h.points.points.path.items ∷ []) =
      sym (kept_append needs f.paths (h.path ∷ [])) ∙ (ap (λ z. z ++ kept needs (h.path ∷ [])) (sym f.kept_is) ∙ ap (λ z. f.lists.paths.items ++ z) (sym same)) in
      let lines : more_lines ≡ first_fault f.lists.as_lines h.points.points.as_line = el ∙ (ap (λ z. first_fault z q.as_line) (sym f.lines_is) ∙ ap (first_fault f.lists.as_lines) (sym h.line_is)) in
      let rings : more_rings ≡ first_fault f.lists.as_rings h.points.points.as_ring = er ∙ (ap (λ z. first_fault z q.as_ring) (sym f.rings_is) ∙ ap (first_fault f.lists.as_rings) (sym h.ring_is)) in
      record {
        within = omega (arith, h.item.within, h.end_is);
        order = omega (arith, f.order, h.item.begins, h.item.ends, h.end_is);
        paths = xs;
        few = omega (arith, n, f.few, h.item.begins, h.item.ends, h.end_is);
        lists = lists;
        kept_is = refl;
        lines_is = refl;
        rings_is = refl;
        read = subst (λ z. AreListsRead asked base w at z from lists) h.end_is
            (lists_go_on asked base w at end from h.points f.lists lists needs refl f.read inside comma h.item (record { paths = all; as_lines = lines; as_rings = rings }));
        tells = told before f.paths h.path f.tells (subst (λ z. Tells z h.path q.made) e h.tells);
      }

  pub lines_end : (at from end : ℕ) (as_lines as_rings : Option Fault) (made : L) (m : LinesMade L) → AreLinesMade TellsLines before asked base w at from end as_lines as_rings made → end < length w → slice_index w at ≡ 0x5B → slice_index w end ≡ 0x5D
      → m.at ≡ base + at → m.least ≡ from → m.end ≡ end + 1 → m.as_lines ≡ as_lines → m.as_rings ≡ as_rings → m.made ≡ made → MakesLines TellsLines before asked base w at m
  lines_end at from end as_lines as_rings made m f inside opens byte ea el ee eline ering em = record {
    paths = f.paths;
    few = omega (arith, f.few, f.within);
    tells = subst (TellsLines before f.paths) (sym em) f.tells;
    order = omega (arith, f.order, ee);
    within = omega (arith, inside, ee);
    whole = λ lists pp pl pr. (
        let known : AreLists (needs_shapes asked.query) (f.read.first ∷ f.read.rest) lists = record {
          paths = pp ∙ (sym f.kept_is ∙ f.read.known.paths);
          as_lines = pl ∙ (eline ∙ (sym f.lines_is ∙ f.read.known.as_lines));
          as_rings = pr ∙ (ering ∙ (sym f.rings_is ∙ f.read.known.as_rings));
        } in
        let read : AreListsRead asked base w at end from lists = record { first = f.read.first; rest = f.read.rest; to = f.read.to; sorted = f.read.sorted; begins = f.read.begins; known = known } in
        subst (λ z. AreListsWhole asked base w at (record { at = z; least = m.least; end = m.end; lists = lists })) (sym ea)
        (subst (λ z. AreListsWhole asked base w at (record { at = base + at; least = z; end = m.end; lists = lists })) (sym el)
        (subst (λ z. AreListsWhole asked base w at (record { at = base + at; least = from; end = z; lists = lists })) (sym ee)
        (lists_end asked base w at end from lists read f.order inside opens byte))));
  }

-- ---- areas, up to the last of them

pub area_kept : (needs : Bool) (xs ys : List (List Pos)) → xs ≡ kept needs ys → kept needs (polygon ys ∷ []) ≡ kept needs (polygon xs ∷ [])
area_kept true xs ys e = ap (λ z. polygon z ∷ []) (sym e)
area_kept false xs ys e = refl

pub record AreAreasMade {B L : Type 0} (Tells : B → List Polygon → L → Type 0) (before : B) (asked : Asked) (base : ℕ) (w : List ℕ) (at from end : ℕ) (fault : Option Fault) (made : L) : Type 0 where
  pub within : end ≤ length w
  pub order : at < end
  pub polygons : List Polygon
  pub few : length polygons ≤ end
  pub areas : Areas
  pub kept_is : areas.polygons.items ≡ kept (needs_shapes asked.query) polygons
  pub fault_is : areas.fault ≡ fault
  pub read : AreAreasRead asked base w at end from areas
  pub tells : Tells before polygons made

module _ {B K L : Type 0} (Tells : B → List (List Pos) → K → Type 0) (TellsAreas : B → List Polygon → L → Type 0) (before : B) (asked : Asked) (base : ℕ) (w : List ℕ) (alloc : Global) (short : length w < 2 ^ 62) where
  pub lines_spaced : (at first end : ℕ) (m : LinesMade K) → at ≤ first → AreSpaces (between w at first) → MakesLines Tells before asked base w first m → m.end ≤ end → end ≤ length w → AreSpaces (between w m.end end)
      → MakesLinesItem Tells before asked base w at (record { at = m.at; least = m.least; end = end; as_lines = m.as_lines; as_rings = m.as_rings; made = m.made })
  lines_spaced at first end m h spaces read k fits more =
      let needs = needs_shapes asked.query in
      let l = kept_length needs read.paths in
      let lists : Lists = record { paths = vec_of alloc (kept needs read.paths) (omega (arith, l, read.few, short)); as_lines = m.as_lines; as_rings = m.as_rings } in
      let p : ListsRead = record { at = m.at; least = m.least; end = m.end; lists = lists } in
      record {
        paths = read.paths;
        tells = read.tells;
        lists = record { at = p.at; least = p.least; end = end; lists = p.lists };
        item = lists_padded asked base w at first end p h spaces (read.whole lists refl refl refl) k fits more;
        at_is = refl;
        end_is = refl;
        kept_is = refl;
        lines_is = refl;
        rings_is = refl;
      }

  pub polygons_begin : (at : ℕ) (q : LinesMade K) (made : L) → at < length w → MakesLinesItem Tells before asked base w (at + 1) q → ((before : B) (rings : List (List Pos)) → Tells before rings q.made → TellsAreas before (polygon rings ∷ []) made)
      → AreAreasMade TellsAreas before asked base w at q.at q.end q.as_rings made
  polygons_begin at q made inside h told =
      let needs = needs_shapes asked.query in
      let one = polygon h.paths in
      let l = kept_length needs (one ∷ []) in
      let areas : Areas = record { polygons = vec_of alloc (kept needs (one ∷ [])) (omega (arith, l)); fault = q.as_rings } in
      record {
        within = omega (arith, h.item.within, h.end_is);
        order = omega (arith, h.item.begins, h.item.ends, h.end_is);
        polygons = one ∷ [];
        few = omega (arith, h.item.begins, h.item.ends, h.end_is);
        areas = areas;
        kept_is = refl;
        fault_is = refl;
        read = subst (λ z. AreAreasRead asked base w at z q.at areas) h.end_is (subst (λ z. AreAreasRead asked base w at h.lists.end z areas) h.at_is
            (areas_begin asked base w at h.lists areas needs refl inside h.item (area_kept needs h.lists.lists.paths.items h.paths h.kept_is) (sym h.rings_is)));
        tells = told before h.paths h.tells;
      }

  pub polygons_go_on : (at from end : ℕ) (fault more : Option Fault) (made longer : L) (b around : B) (q : LinesMade K) → AreAreasMade TellsAreas before asked base w at from end fault made → end < length w → slice_index w end ≡ 0x2C
      → b ≡ around → MakesLinesItem Tells b asked base w (end + 1) q → more ≡ first_fault fault q.as_rings
      → ((before : B) (polygons : List Polygon) (rings : List (List Pos)) → TellsAreas before polygons made → Tells around rings q.made → TellsAreas before (polygons ++ polygon rings ∷ []) longer)
      → AreAreasMade TellsAreas before asked base w at from q.end more longer
  polygons_go_on at from end fault more made longer b around q f inside comma e h ef told =
      let needs = needs_shapes asked.query in
      let one = polygon h.paths in
      let xs = f.polygons ++ one ∷ [] in
      let n = length-append f.polygons (one ∷ []) in
      let l = kept_length needs xs in
      let areas : Areas = record { polygons = vec_of alloc (kept needs xs) (omega (arith, l, n, f.few, short, inside)); fault = more } in
      let all : kept needs xs ≡ f.areas.polygons.items ++ kept needs (polygon h.lists.lists.paths.items ∷ []) =
      sym (kept_append needs f.polygons (one ∷ [])) ∙ (ap (λ z. z ++ kept needs (one ∷ [])) (sym f.kept_is) ∙ ap (λ z. f.areas.polygons.items ++ z) (area_kept needs h.lists.lists.paths.items h.paths h.kept_is)) in
      let faults : more ≡ first_fault f.areas.fault h.lists.lists.as_rings = ef ∙ (ap (λ z. first_fault z q.as_rings) (sym f.fault_is) ∙ ap (first_fault f.areas.fault) (sym h.rings_is)) in
      record {
        within = omega (arith, h.item.within, h.end_is);
        order = omega (arith, f.order, h.item.begins, h.item.ends, h.end_is);
        polygons = xs;
        few = omega (arith, n, f.few, h.item.begins, h.item.ends, h.end_is);
        areas = areas;
        kept_is = refl;
        fault_is = refl;
        read = subst (λ z. AreAreasRead asked base w at z from areas) h.end_is
            (areas_go_on asked base w at end from h.lists f.areas areas needs refl f.read inside comma h.item (record { polygons = all; fault = faults }));
        tells = told before f.polygons h.paths f.tells (subst (λ z. Tells z h.paths q.made) e h.tells);
      }

  pub polygons_end : (at from end : ℕ) (fault : Option Fault) (made : L) (m : AreasMade L) → AreAreasMade TellsAreas before asked base w at from end fault made → end < length w → slice_index w at ≡ 0x5B → slice_index w end ≡ 0x5D
      → m.at ≡ base + at → m.least ≡ from → m.end ≡ end + 1 → m.fault ≡ fault → m.made ≡ made → MakesPolygons TellsAreas before asked base w at m
  polygons_end at from end fault made m f inside opens byte ea el ee ef em = record {
    polygons = f.polygons;
    few = omega (arith, f.few, f.within);
    tells = subst (TellsAreas before f.polygons) (sym em) f.tells;
    within = omega (arith, inside, ee);
    whole = λ areas pp pf. (
        let known : AreAreas (needs_shapes asked.query) (f.read.first ∷ f.read.rest) areas = record {
          polygons = pp ∙ (sym f.kept_is ∙ f.read.known.polygons);
          fault = pf ∙ (ef ∙ (sym f.fault_is ∙ f.read.known.fault));
        } in
        let read : AreAreasRead asked base w at end from areas = record { first = f.read.first; rest = f.read.rest; to = f.read.to; sorted = f.read.sorted; begins = f.read.begins; known = known } in
        subst (λ z. AreAreasWhole asked base w at (record { at = z; least = m.least; end = m.end; areas = areas })) (sym ea)
        (subst (λ z. AreAreasWhole asked base w at (record { at = base + at; least = z; end = m.end; areas = areas })) (sym el)
        (subst (λ z. AreAreasWhole asked base w at (record { at = base + at; least = from; end = z; areas = areas })) (sym ee)
        (areas_end asked base w at end from areas read f.order inside opens byte))));
  }
