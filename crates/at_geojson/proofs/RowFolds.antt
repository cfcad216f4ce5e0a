-- Rows of positions: what is made of them is what is made of the list of their atoms.
-- For `add`, `array` and `value`.
use Rattle.std.proofs.Common.{◌≡◌, ℕ, ◌+◌, ◌<◌, ◌≤◌, ◌⊎◌, inl, inr, min, Bool, true, false, not, ◌&&◌, ◌||◌, ◌==◌, if◌then◌else◌, nat_lt, List, [], ◌∷◌, ◌++◌, All, fold, map, length, slice_index, None, is_none, refl, sym, ◌∙◌, ap, subst, arith}
use Rattle.std.specs.Ordering.{int_eq}
use Rattle.std.proofs.Math.Nat.{min-eq_left}
use Rattle.std.proofs.lemmas.Bool.{ltb-true, ltb-false}
use Rattle.std.proofs.lemmas.List.{map-append, length-append}
use Rattle.std.proofs.lemmas.List.Elements.{All-nil, All-cons, All-append}
use Rattle.at_text.specs.Faults.{first_fault}
use Rattle.at_fixed.specs.NumberSoFar.{between}
use Rattle.at_geom.specs.declared.positions.Pos.{Pos}
use Rattle.at_geom.specs.Shapes.{line_fault, ring_fault}
use Rattle.at_nest.specs.Tree.{array, Spells}
use Rattle.at_nest.specs.Folds.{AreFolds}
use Rattle.at_nest.specs.Passing.{items_of}
use Rattle.at_nest.proofs.Passed.{items_none, items_on, items_end}
use Rattle.at_text.proofs.FaultOrder.{none_right}
use Rattle.at_query.specs.Keeping.{Asked, kept, needs_shapes}
use Rattle.at_geojson.specs.declared.atoms.atom.GeoAtom.{GeoAtom}
use Rattle.at_geojson.specs.declared.atoms.atom.GeoAtom.TheVariants as atoms
use Rattle.at_geojson.specs.declared.atoms.atom.Points.{Points}
use Rattle.at_geojson.specs.declared.atoms.atom.PositionAtom.{PositionAtom}
use Rattle.at_geojson.specs.declared.coordinates.pairs.PairRead.{PairRead}
use Rattle.at_geojson.specs.declared.coordinates.pairs.Row.{Row}
use Rattle.at_geojson.specs.declared.atoms.sorts.Sort.TheVariants as sorts
use Rattle.at_geojson.specs.Atoms.{to_four, twin_of, at_of, IsOwn, IsFold}
use Rattle.at_geojson.specs.Gathering.{firsts, are_all, rank, sort_of, sort_of_all, least_of, last_atom, position_value, position_fault, closes}
use Rattle.at_geojson.specs.Rows.{PointsRead, AreNext, IsRow, LengthensRow, EndsRow, EndsPoints, ArePointsRead, ArePointsWhole}
use Rattle.at_geojson.specs.Values.{IsSpacedPair}
use Rattle.at_geojson.proofs.Firsts.{firsts-cons}
use Rattle.at_geojson.proofs.CoordinateFolds.{closes_is}
use Rattle.at_geojson.proofs.OwnFolds.{points_own}
use Rattle.at_geojson.proofs.ArrayAnswers.{points_fold}
use Rattle.at_geojson.proofs.ValueParts.{folds_last}

-- ---- positions one behind another

next_append : (from : ℕ) (rest : List GeoAtom) (p : PositionAtom) → AreNext from rest → from ≤ p.at → AreNext from (rest ++ atoms.Position p ∷ [])
next_append from [] p h k = (p, refl, k, tt)
next_append from (a ∷ rest) p h k = (h.0, h.1, h.2, next_append from rest p h.3 k)

no_twins : (from : ℕ) (rest : List GeoAtom) → AreNext from rest → firsts twin_of rest ≡ None
no_twins from [] h = refl
no_twins from (a ∷ rest) h = firsts-cons twin_of a rest ∙ (ap (λ z. first_fault (twin_of z) (firsts twin_of rest)) h.1 ∙ no_twins from rest h.3)

no_faults : (from : ℕ) (rest : List GeoAtom) → AreNext from rest → firsts position_fault rest ≡ None
no_faults from [] h = refl
no_faults from (a ∷ rest) h = firsts-cons position_fault a rest ∙ (ap (λ z. first_fault (position_fault z) (firsts position_fault rest)) h.1 ∙ no_faults from rest h.3)

all_positions : (from : ℕ) (rest : List GeoAtom) → AreNext from rest → are_all 2 rest ≡ true
all_positions from [] h = refl
all_positions from (a ∷ rest) h = ap (λ z. (rank (sort_of z) == 2) && are_all 2 rest) h.1 ∙ all_positions from rest h.3

least_from : (m : ℕ) (rest : List GeoAtom) → AreNext m rest → fold (λ least a. min least (at_of a)) m rest ≡ m
least_from m [] h = refl
least_from m (a ∷ rest) h = ap (λ z. fold (λ least b. min least (at_of b)) (min m (at_of z)) rest) h.1 ∙ (ap (λ n. fold (λ least b. min least (at_of b)) n rest) (min-eq_left h.2) ∙ least_from m rest h.3)

last_append : (a : GeoAtom) (rest : List GeoAtom) (x : GeoAtom) → last_atom a (rest ++ x ∷ []) ≡ x
last_append a [] x = refl
last_append a (b ∷ rest) x = last_append b rest x

-- the last of them has a value
last_faultless : (from : ℕ) (a : GeoAtom) (rest : List GeoAtom) → position_fault a ≡ None → AreNext from rest → position_fault (last_atom a rest) ≡ None
last_faultless from a [] e h = e
last_faultless from a (b ∷ rest) e h = last_faultless from b rest (ap position_fault h.1) h.3

pub kept_append : {X : Type 0} (needs : Bool) (xs ys : List X) → kept needs xs ++ kept needs ys ≡ kept needs (xs ++ ys)
kept_append true xs ys = refl
kept_append false xs ys = refl

-- ---- counts

pub to_four_is : (n : ℕ) → ((n < 4) × (to_four n ≡ n)) ⊎ ((4 ≤ n) × (to_four n ≡ 4))
to_four_is n = by_less (nat_lt n 4) refl where
  by_less : (b : Bool) → nat_lt n 4 ≡ b → ((n < 4) × (to_four n ≡ n)) ⊎ ((4 ≤ n) × (to_four n ≡ 4))
  by_less true e = inl (ltb-true n 4 e, ap (λ b. if b then n else 4) e)
  by_less false e = inr (ltb-false n 4 e, ap (λ b. if b then n else 4) e)

-- ---- a row and one more position

pub lengthened : (needs : Bool) (row longer : Row) (last : PositionAtom) → longer.first ≡ row.first → longer.last ≡ last.pos → longer.path.items ≡ row.path.items ++ kept needs (last.pos ∷ [])
    → ((n : ℕ) → row.count ≡ to_four n → longer.count ≡ to_four (n + 1)) → LengthensRow needs row last longer
lengthened needs row longer last ef el ep ec = record {
  first = ef;
  more = λ rest h k. (
      let a : GeoAtom = atoms.Position row.first in
      let l : length (a ∷ rest) + 1 ≡ length (a ∷ (rest ++ atoms.Position last ∷ [])) = let e = length-append rest (atoms.Position last ∷ []) in omega (arith, e) in
      record {
        next = subst (λ (f : PositionAtom). AreNext f.at (rest ++ atoms.Position last ∷ [])) (sym ef) (next_append row.first.at rest last h.next k);
        path = ep ∙ (ap (λ z. z ++ kept needs (last.pos ∷ [])) h.path ∙ (kept_append needs (map position_value (a ∷ rest)) (last.pos ∷ [])
            ∙ ap (kept needs) (sym (map-append position_value (a ∷ rest) (atoms.Position last ∷ [])) ∙ ap (λ (f : PositionAtom). map position_value (atoms.Position f ∷ (rest ++ atoms.Position last ∷ []))) (sym ef))));
        count = ec (length (a ∷ rest)) h.count ∙ ap to_four l;
        last = el ∙ ap position_value (sym (last_append (atoms.Position longer.first) rest (atoms.Position last)));
      });
}

-- ---- a whole row

pub row_faults : (needs : Bool) (row : Row) (rest : List GeoAtom) → IsRow needs row rest → firsts position_fault (atoms.Position row.first ∷ rest) ≡ None
row_faults needs row rest h = firsts-cons position_fault (atoms.Position row.first) rest ∙ no_faults row.first.at rest h.next

-- whether its first and its last position are the same
pub row_closes : (needs : Bool) (row : Row) (rest : List GeoAtom) → IsRow needs row rest → (int_eq row.first.pos.x row.last.x && int_eq row.first.pos.y row.last.y) ≡ closes (atoms.Position row.first ∷ rest)
row_closes needs row rest h =
    let a : GeoAtom = atoms.Position row.first in let z : GeoAtom = last_atom a rest in
    sym (closes_is a rest ∙ (ap (λ o. not (true && is_none o) || (int_eq row.first.pos.x (position_value z).x && int_eq row.first.pos.y (position_value z).y)) (last_faultless row.first.at a rest refl h.next)
    ∙ ap (λ (p : Pos). int_eq row.first.pos.x p.x && int_eq row.first.pos.y p.y) (sym h.last)))

-- what is kept of the list of its positions
pub row_made : (needs : Bool) (at : ℕ) (row : Row) (points : Points) → points.path.items ≡ row.path.items → points.as_points ≡ None → points.as_line ≡ line_fault row.count at
    → points.as_ring ≡ ring_fault row.count (int_eq row.first.pos.x row.last.x && int_eq row.first.pos.y row.last.y) at → EndsRow needs at row points
row_made needs at row points ep ef el er rest h m ea em ev =
    let all : List GeoAtom = atoms.Position row.first ∷ rest in
    let n = to_four (length all) in
    let faults = row_faults needs row rest h in
    let line = line_fault n at in
    let ring = ring_fault n (closes all) at in
    record {
      atom = m;
      result_is = refl;
      at_is = ea;
      least_is = em;
      path = ap (λ (a : Points). a.path.items) ev ∙ (ep ∙ h.path);
      as_points = ap (λ (a : Points). a.as_points) ev ∙ (ef ∙ sym faults);
      as_line = ap (λ (a : Points). a.as_line) ev ∙ (el ∙ (ap (λ k. line_fault k at) h.count ∙ sym (ap (first_fault line) faults ∙ none_right line)));
      as_ring = ap (λ (a : Points). a.as_ring) ev ∙ (er ∙ (ap (λ k. ring_fault k (int_eq row.first.pos.x row.last.x && int_eq row.first.pos.y row.last.y) at) h.count
          ∙ (ap (λ b. ring_fault n b at) (row_closes needs row rest h) ∙ sym (ap (first_fault ring) faults ∙ none_right ring))));
    }

-- ---- lists of positions

module _ (asked : Asked) (base : ℕ) (w : List ℕ) where
  pub points_begin : (at : ℕ) (p : PairRead) (row : Row) → at < length w → IsSpacedPair asked base w (at + 1) p → row.first ≡ p.pair → IsRow (needs_shapes asked.query) row [] → ArePointsRead asked base w at p.end row
  points_begin at p row inside pair e h = record {
    rest = [];
    is_row = h;
    own = subst (λ (f : PositionAtom). All (IsOwn asked) (atoms.Position f ∷ [])) (sym e) (All-cons (IsOwn asked) (atoms.Position p.pair) [] pair.own (All-nil (IsOwn asked)));
    begins = subst (λ (f : PositionAtom). f.at < base + p.end) (sym e) pair.ends;
    place = at + 1;
    order = omega arith;
    behind = omega (arith, pair.order);
    done = [];
    last = pair.tree;
    before = items_none base w at inside;
    spells = pair.spells;
    folds = subst (λ (f : PositionAtom). AreFolds (IsFold asked) (atoms.Position f ∷ []) (items_of (pair.tree ∷ []))) (sym e) (pair.fold, tt);
  }

  pub points_go_on : (at end : ℕ) (p : PairRead) (row longer : Row) → ArePointsRead asked base w at end row → end < length w → slice_index w end ≡ 0x2C → IsSpacedPair asked base w (end + 1) p → LengthensRow (needs_shapes asked.query) row p.pair longer
      → ArePointsRead asked base w at p.end longer
  points_go_on at end p row longer read inside byte pair l =
      let x : GeoAtom = atoms.Position p.pair in
      record {
        rest = read.rest ++ x ∷ [];
        is_row = l.more read.rest read.is_row (omega (arith, read.begins, pair.begins));
        own = subst (λ (f : PositionAtom). All (IsOwn asked) (atoms.Position f ∷ (read.rest ++ x ∷ []))) (sym l.first)
            (All-append (IsOwn asked) (atoms.Position row.first ∷ read.rest) (x ∷ []) read.own (All-cons (IsOwn asked) x [] pair.own (All-nil (IsOwn asked))));
        begins = subst (λ (f : PositionAtom). f.at < base + p.end) (sym l.first) (omega (arith, read.begins, pair.order));
        place = end + 1;
        order = omega (arith, read.order, read.behind);
        behind = omega (arith, pair.order);
        done = read.done ++ read.last ∷ [];
        last = pair.tree;
        before = items_on base w at read.place end read.done read.last read.order read.behind inside byte read.before read.spells;
        spells = pair.spells;
        folds = subst (λ (f : PositionAtom). AreFolds (IsFold asked) (atoms.Position f ∷ (read.rest ++ x ∷ [])) (items_of ((read.done ++ read.last ∷ []) ++ pair.tree ∷ []))) (sym l.first)
            (folds_last asked base w (atoms.Position row.first ∷ read.rest) x (read.done ++ read.last ∷ []) pair.tree read.folds pair.fold);
      }

  pub points_end : (at end : ℕ) (row : Row) (p : PointsRead) → ArePointsRead asked base w at end row → end < length w → slice_index w at ≡ 0x5B → slice_index w end ≡ 0x5D → EndsPoints (needs_shapes asked.query) (base + at) (end + 1) row p
      → ArePointsWhole asked base w at p
  points_end at end row p read inside opens byte ends =
      let first : GeoAtom = atoms.Position row.first in let all : List GeoAtom = first ∷ read.rest in
      let ts = items_of (read.done ++ read.last ∷ []) in
      let twins : firsts twin_of all ≡ None = firsts-cons twin_of first read.rest ∙ no_twins row.first.at read.rest read.is_row.next in
      let sort : sort_of_all all ≡ sorts.Position = ap (λ b. if b then sorts.Position else sorts.Other) (all_positions row.first.at read.rest read.is_row.next) in
      let l : row.first.at ≤ row.first.at = omega arith in
      let least : row.first.at ≡ least_of all = sym (ap (λ n. fold (λ least b. min least (at_of b)) n read.rest) (min-eq_left l) ∙ least_from row.first.at read.rest read.is_row.next) in
      record {
        order = omega (arith, read.order, read.behind, ends.behind);
        within = omega (arith, inside, ends.behind);
        at_is = ends.at_is;
        whole = λ m keeps. (
            let made = ends.made read.rest read.is_row m (keeps.at_is ∙ ends.at_is) (keeps.least_is ∙ ends.least_is) keeps.points_is in
            record {
              order = omega (arith, read.order, read.behind, ends.behind);
              within = omega (arith, inside, ends.behind);
              own = points_own asked (base + at) row.first.at all (atoms.Points m) read.own made;
              tree = array (base + at) ts;
              spells = subst (λ e. Spells (base + at) (between w at e) (array (base + at) ts)) (sym ends.behind) (items_end base w at read.place end read.done read.last read.order read.behind inside opens byte read.before read.spells);
              fold = points_fold asked (base + at) all (λ e. cc) twins (needs_shapes asked.query) row.first.at (atoms.Points m) refl least sort made ts read.folds;
            });
      }
