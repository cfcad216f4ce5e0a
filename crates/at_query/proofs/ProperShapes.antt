-- The shape of a geometry without a fault has closed rings.
-- For the answers and joins of at_run, and for `part_seq` of at_seq.
use Rattle.std.proofs.Common.{◌≡◌, ℕ, Bool, true, false, not, ◌&&◌, ◌||◌, if◌then◌else◌, nat_lt, List, [], ◌∷◌, ◌++◌, length, map, flat_map, Option, Some, None, option_to_list, refl, sym, ap, ◌∙◌, arith}
use Rattle.std.specs.List.{AllByRecursion}
use Rattle.std.proofs.ByRecursion.{All-append}
use Rattle.at_text.specs.declared.faults.Fault.{Fault}
use Rattle.at_text.specs.declared.faults.FaultKind.TheVariants.{Ring}
use Rattle.at_text.specs.Faults.{comes_first, first_fault, first_of, fault_at}
use Rattle.at_fixed.specs.declared.rounding.Coords.{Coords}
use Rattle.at_geom.specs.declared.shapes.Polygon.{Polygon}
use Rattle.at_geom.specs.Closed.{last_of, IsClosed}
use Rattle.at_geom.specs.Shapes.{ring_fault}
use Rattle.at_geom.proofs.ClosedRings.{same_position}
use Rattle.at_wkt.specs.Positions.{Position, Positions, position_faults, is_faultless, are_same, is_closed, items_faults, faults_of_ring, pos_of, path_of}
use Rattle.at_wkt.specs.Geometry.{Geometry, polygon, multi_polygon, collection, Geometries, no_geometries, geometry_and}
use Rattle.at_wkt.specs.Meaning.{polygons_of, faults_of_area, shape_of, shape_of_all, faults_of, faults_of_all}
use Rattle.at_query.specs.declared.features.Feature.{Feature}
use Rattle.at_query.specs.Parts.{AreRingsClosed}

-- ---- lists without an element

pub empties : {X : Type 0} (xs ys : List X) → xs ++ ys ≡ [] → (xs ≡ []) × (ys ≡ [])
empties [] ys e = (refl, e)
empties (x ∷ xs) ys e = absurd (let n = ap length e in omega (arith, n))

pub not_empty : {X : Type 0} (x : X) (xs : List X) → x ∷ xs ≡ [] → ⊥
not_empty x xs e = let n = ap length e in omega (arith, n)

either_first : (a b : Fault) (t : Bool) → None ≡ (if t then Some a else Some b) → ⊥
either_first a b true e = cc
either_first a b false e = cc

pub no_first : (fs : List Fault) → None ≡ first_of fs → fs ≡ []
no_first [] e = refl
no_first (f ∷ fs) e = absurd (go (first_of fs) e) where
  go : (b : Option Fault) → None ≡ first_fault (Some f) b → ⊥
  go None e = cc
  go (Some b) e = either_first f b (comes_first f b) e

-- ---- rings

closed_of : (short closed : Bool) (at : ℕ) → option_to_list (if short || not closed then Some (fault_at Ring at) else None) ≡ [] → closed ≡ true
closed_of false true at e = refl
closed_of _ _ at e = absurd (not_empty (fault_at Ring at) [] e)

same_of : (first last same : Bool) → first ≡ true → last ≡ true → (not (first && last) || same) ≡ true → same ≡ true
same_of true true same e f h = h
same_of _ _ same e f h = absurd (cc)

abbrev pub HasClosedRings : Polygon → Type 0
HasClosedRings area = AllByRecursion IsClosed area.rings

module _ (digits : ℕ) (how : Coords) where
  faultless_by : (fs : List Fault) → fs ≡ [] → elim fs [ [] ↦ true | f ∷ more ↦ false ] ≡ true
  faultless_by [] e = refl
  faultless_by (f ∷ fs) e = absurd (not_empty f fs e)

  last_faultless : (p : Position) (rest : List Position) → position_faults digits how p ≡ [] → items_faults digits how rest ≡ [] → position_faults digits how (last_of p rest) ≡ []
  last_faultless p [] e h = e
  last_faultless p (q ∷ rest) e h = let (a, b) = empties (position_faults digits how q) (items_faults digits how rest) h in last_faultless q rest a b

  last_of_path : (p : Position) (rest : List Position) → last_of (pos_of digits how p) (map (pos_of digits how) rest) ≡ pos_of digits how (last_of p rest)
  last_of_path p [] = refl
  last_of_path p (q ∷ rest) = last_of_path q rest

  items_closed : (items : List Position) → is_closed digits how items ≡ true → items_faults digits how items ≡ [] → IsClosed (map (pos_of digits how) items)
  items_closed [] e h = tt
  items_closed (p ∷ rest) e h =
      let (a, b) = empties (position_faults digits how p) (items_faults digits how rest) h in
      let last = last_of p rest in
      let same = same_of (is_faultless digits how p) (is_faultless digits how last) (are_same digits how p last) (faultless_by _ a) (faultless_by _ (last_faultless p rest a b)) e in
      last_of_path p rest ∙ sym (same_position (pos_of digits how p) (pos_of digits how last) same)

  ring_closed : (ps : Positions) → faults_of_ring digits how ps ≡ [] → IsClosed (path_of digits how ps)
  ring_closed ps e =
      let (a, b) = empties (option_to_list (ring_fault (length ps.items) (is_closed digits how ps.items) ps.at)) (items_faults digits how ps.items) e in
      items_closed ps.items (closed_of (nat_lt (length ps.items) 4) (is_closed digits how ps.items) ps.at a) b

  rings_closed : (rings : List Positions) → faults_of_area digits how rings ≡ [] → AllByRecursion IsClosed (map (path_of digits how) rings)
  rings_closed [] e = tt
  rings_closed (ps ∷ rings) e = let (a, b) = empties (faults_of_ring digits how ps) (faults_of_area digits how rings) e in (ring_closed ps a, rings_closed rings b)

  area_closed : (rings : List Positions) → faults_of_area digits how rings ≡ [] → AllByRecursion HasClosedRings (polygons_of digits how rings)
  area_closed [] e = tt
  area_closed (exterior ∷ holes) e = (rings_closed (exterior ∷ holes) e, tt)

  areas_closed : (areas : List (List Positions)) → flat_map (faults_of_area digits how) areas ≡ [] → AllByRecursion HasClosedRings (flat_map (polygons_of digits how) areas)
  areas_closed [] e = tt
  areas_closed (rings ∷ areas) e =
      let (a, b) = empties (faults_of_area digits how rings) (flat_map (faults_of_area digits how) areas) e in
      All-append HasClosedRings (polygons_of digits how rings) (flat_map (polygons_of digits how) areas) (area_closed rings a) (areas_closed areas b)

  mutual
    pub geometry_closed : (g : Geometry) → faults_of digits how g ≡ [] → AreRingsClosed (shape_of digits how g)
    geometry_closed (polygon rings) e = area_closed rings e
    geometry_closed (multi_polygon areas) e = areas_closed areas e
    geometry_closed (collection gs) e = geometries_closed gs e
    geometry_closed _ e = tt

    geometries_closed : (gs : Geometries) → faults_of_all digits how gs ≡ [] → AreRingsClosed (shape_of_all digits how gs)
    geometries_closed no_geometries e = tt
    geometries_closed (geometry_and g gs) e =
        let (a, b) = empties (faults_of digits how g) (faults_of_all digits how gs) e in
        All-append HasClosedRings (shape_of digits how g).polygons (shape_of_all digits how gs).polygons (geometry_closed g a) (geometries_closed gs b)

-- ---- offsets

abbrev pub at_of : Feature → ℕ
at_of f = f.at
