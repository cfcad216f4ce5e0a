-- The geometry with all its offsets moved: its shape is the same, and its faults are moved.
-- For `line_features`, `line_faults`, `sequence_features`, `sequence_faults`, `sound_parts` and `first_syntax_fault`, and its lists for `answers_move`.
use Rattle.std.proofs.Common.{◌≡◌, ℕ, ℤ, ◌+◌, Bool, true, false, not, ◌||◌, nat_lt, if◌then◌else◌, List, [], ◌∷◌, ◌++◌, length, map, flat_map, Option, Some, None, option_map, Result, Ok, Err, refl, sym, ◌∙◌, ap, arith}
use Rattle.std.specs.Option.{option_to_list}
use Rattle.std.proofs.lemmas.List.{map-append, length-map}
use Rattle.at_text.specs.declared.faults.Fault.{Fault}
use Rattle.at_text.specs.declared.faults.FaultKind.TheVariants.{Short, Ring}
use Rattle.at_text.specs.Faults.{fault_at}
use Rattle.at_fixed.specs.declared.rounding.Coords.{Coords}
use Rattle.at_fixed.specs.declared.rounding.FixedFault.{FixedFault}
use Rattle.at_fixed.specs.declared.rounding.FixedFault.TheVariants.{Scale, Range}
use Rattle.at_fixed.specs.Fixed.{fixed_of}
use Rattle.at_geom.specs.Closed.{last_of}
use Rattle.at_geom.specs.Shapes.{line_fault, ring_fault}
use Rattle.at_wkt.specs.Positions.{Position, Positions, faults_in, number_fault, position_faults, pos_of, path_of, items_faults, faults_of_line, is_faultless, closes_with, is_closed, faults_of_ring}
use Rattle.at_wkt.specs.Geometry.{Geometry, point, line_string, polygon, multi_point, multi_line_string, multi_polygon, collection, Geometries, no_geometries, geometry_and}
use Rattle.at_geom.specs.Shapes.{of_points, of_lines, of_polygons, both}
use Rattle.at_wkt.specs.Meaning.{present, polygons_of, faults_of_area, shape_of, shape_of_all, faults_of, faults_of_all}
use Rattle.at_parts.specs.Moved.{fault_moved}

-- the geometry with each of its offsets changed
module _ (f : ℕ → ℕ) where
  abbrev pub position_changed : Position → Position
  position_changed p = record { x = p.x; x_at = f p.x_at; y = p.y; y_at = f p.y_at }

  abbrev pub positions_changed : Positions → Positions
  positions_changed ps = record { at = f ps.at; items = map position_changed ps.items }

  abbrev mutual
    pub geometry_changed : Geometry → Geometry
    geometry_changed (point p) = point (option_map position_changed p)
    geometry_changed (line_string ps) = line_string (option_map positions_changed ps)
    geometry_changed (polygon rings) = polygon (map positions_changed rings)
    geometry_changed (multi_point ps) = multi_point (map (option_map position_changed) ps)
    geometry_changed (multi_line_string ls) = multi_line_string (map (option_map positions_changed) ls)
    geometry_changed (multi_polygon areas) = multi_polygon (map (map positions_changed) areas)
    geometry_changed (collection gs) = collection (geometries_changed gs)

    pub geometries_changed : Geometries → Geometries
    geometries_changed no_geometries = no_geometries
    geometries_changed (geometry_and g gs) = geometry_and (geometry_changed g) (geometries_changed gs)

abbrev pub position_moved : ℕ → Position → Position
position_moved d p = position_changed (λ i. d + i) p

abbrev pub positions_moved : ℕ → Positions → Positions
positions_moved d ps = positions_changed (λ i. d + i) ps

abbrev pub geometry_moved : ℕ → Geometry → Geometry
geometry_moved d g = geometry_changed (λ i. d + i) g

-- ---- lists

-- what is the same of each item is the same of all
pub map_same : {X Y : Type 0} (f : X → Y) (m : X → X) → ((x : X) → f (m x) ≡ f x) → (xs : List X) → map f (map m xs) ≡ map f xs
map_same f m same [] = refl
map_same f m same (x ∷ xs) = ap (λ z. z ∷ map f (map m xs)) (same x) ∙ ap (λ z. f x ∷ z) (map_same f m same xs)

pub flat_map_same : {X Y : Type 0} (f : X → List Y) (m : X → X) → ((x : X) → f (m x) ≡ f x) → (xs : List X) → flat_map f (map m xs) ≡ flat_map f xs
flat_map_same f m same [] = refl
flat_map_same f m same (x ∷ xs) = ap (λ z. z ++ flat_map f (map m xs)) (same x) ∙ ap (λ z. f x ++ z) (flat_map_same f m same xs)

pub flat_map_moved : {X : Type 0} (d : ℕ) (f : X → List Fault) (m : X → X) → ((x : X) → f (m x) ≡ map (fault_moved d) (f x)) → (xs : List X) → flat_map f (map m xs) ≡ map (fault_moved d) (flat_map f xs)
flat_map_moved d f m moves [] = refl
flat_map_moved d f m moves (x ∷ xs) = ap (λ z. z ++ flat_map f (map m xs)) (moves x) ∙ (ap (λ z. map (fault_moved d) (f x) ++ z) (flat_map_moved d f m moves xs) ∙ sym (map-append (fault_moved d) (f x) (flat_map f xs)))

pub list_moved : {X : Type 0} (m : X → X) (o : Option X) → option_to_list (option_map m o) ≡ map m (option_to_list o)
list_moved m None = refl
list_moved m (Some x) = refl

pub present_moved : {X : Type 0} (m : X → X) (xs : List (Option X)) → present (map (option_map m) xs) ≡ map m (present xs)
present_moved m [] = refl
present_moved m (None ∷ xs) = present_moved m xs
present_moved m (Some x ∷ xs) = ap (λ z. m x ∷ z) (present_moved m xs)

pub last_moved : {X : Type 0} (m : X → X) (a : X) (xs : List X) → last_of (m a) (map m xs) ≡ m (last_of a xs)
last_moved m a [] = refl
last_moved m a (b ∷ xs) = last_moved m b xs

-- ---- positions

module _ (d : ℕ) where
  in_moved : (r : Result ℤ FixedFault) (at : ℕ) → faults_in r (d + at) ≡ map (fault_moved d) (faults_in r at)
  in_moved (Ok z) at = refl
  in_moved (Err Scale) at = refl
  in_moved (Err Range) at = refl

  fault_by : (b : Bool) (f : Fault) → option_to_list (if b then Some (fault_moved d f) else None) ≡ map (fault_moved d) (option_to_list (if b then Some f else None))
  fault_by b f = grind arith

  no_faults : (fs : List Fault) → ◌≡◌ {A = Bool} (elim (map (fault_moved d) fs) [ [] ↦ true | f ∷ gs ↦ false ]) (elim fs [ [] ↦ true | f ∷ gs ↦ false ])
  no_faults [] = refl
  no_faults (f ∷ fs) = refl

module _ (d digits : ℕ) (how : Coords) where
  pub position_faults_moved : (p : Position) → position_faults digits how (position_moved d p) ≡ map (fault_moved d) (position_faults digits how p)
  position_faults_moved p = cc (in_moved d (fixed_of p.x digits how) p.x_at, in_moved d (fixed_of p.y digits how) p.y_at, map-append (fault_moved d) (number_fault digits how p.x p.x_at) (number_fault digits how p.y p.y_at))

  pub items_faults_moved : (ps : List Position) → items_faults digits how (map (position_moved d) ps) ≡ map (fault_moved d) (items_faults digits how ps)
  items_faults_moved ps = flat_map_moved d (position_faults digits how) (position_moved d) position_faults_moved ps

  pub path_moved : (ps : Positions) → path_of digits how (positions_moved d ps) ≡ path_of digits how ps
  path_moved ps = map_same (pos_of digits how) (position_moved d) (λ p. refl) ps.items

  faultless_moved : (p : Position) → is_faultless digits how (position_moved d p) ≡ is_faultless digits how p
  faultless_moved p = ap {B = Bool} (λ (fs : List Fault). elim fs [ [] ↦ true | f ∷ gs ↦ false ]) (position_faults_moved p) ∙ no_faults d (position_faults digits how p)

  closes_moved : (p q : Position) → closes_with digits how (position_moved d p) (position_moved d q) ≡ closes_with digits how p q
  closes_moved p q = cc (faultless_moved p, faultless_moved q)

  closed_moved : (ps : List Position) → is_closed digits how (map (position_moved d) ps) ≡ is_closed digits how ps
  closed_moved [] = refl
  closed_moved (p ∷ ps) = ap (closes_with digits how (position_moved d p)) (last_moved (position_moved d) p ps) ∙ closes_moved p (last_of p ps)

  line_faults_moved : (ps : Positions) → faults_of_line digits how (positions_moved d ps) ≡ map (fault_moved d) (faults_of_line digits how ps)
  line_faults_moved ps =
      let first = fault_by d (nat_lt (length ps.items) 2) (fault_at Short ps.at) in
      let both = map-append (fault_moved d) (option_to_list (line_fault (length ps.items) ps.at)) (items_faults digits how ps.items) in
      cc (length-map ps.items (position_moved d), first, items_faults_moved ps.items, both)

  ring_faults_moved : (ps : Positions) → faults_of_ring digits how (positions_moved d ps) ≡ map (fault_moved d) (faults_of_ring digits how ps)
  ring_faults_moved ps =
      let first = fault_by d (nat_lt (length ps.items) 4 || not (is_closed digits how ps.items)) (fault_at Ring ps.at) in
      let both = map-append (fault_moved d) (option_to_list (ring_fault (length ps.items) (is_closed digits how ps.items) ps.at)) (items_faults digits how ps.items) in
      cc (length-map ps.items (position_moved d), closed_moved ps.items, first, items_faults_moved ps.items, both)

  area_faults_moved : (rings : List Positions) → faults_of_area digits how (map (positions_moved d) rings) ≡ map (fault_moved d) (faults_of_area digits how rings)
  area_faults_moved rings = flat_map_moved d (faults_of_ring digits how) (positions_moved d) ring_faults_moved rings

  polygons_moved : (rings : List Positions) → polygons_of digits how (map (positions_moved d) rings) ≡ polygons_of digits how rings
  polygons_moved [] = refl
  polygons_moved (exterior ∷ holes) = ap (λ z. record { rings = z } ∷ []) (map_same (path_of digits how) (positions_moved d) path_moved (exterior ∷ holes))

  -- ---- geometries

  mutual
    pub shape_moved : (g : Geometry) → shape_of digits how (geometry_moved d g) ≡ shape_of digits how g
    shape_moved (point None) = refl
    shape_moved (point (Some p)) = refl
    shape_moved (line_string None) = refl
    shape_moved (line_string (Some ps)) = ap (λ z. of_lines (z ∷ [])) (path_moved ps)
    shape_moved (polygon rings) = ap of_polygons (polygons_moved rings)
    shape_moved (multi_point ps) = ap (λ z. of_points (map (pos_of digits how) z)) (present_moved (position_moved d) ps) ∙ ap of_points (map_same (pos_of digits how) (position_moved d) (λ p. refl) (present ps))
    shape_moved (multi_line_string ls) = ap (λ z. of_lines (map (path_of digits how) z)) (present_moved (positions_moved d) ls) ∙ ap of_lines (map_same (path_of digits how) (positions_moved d) path_moved (present ls))
    shape_moved (multi_polygon areas) = ap of_polygons (flat_map_same (polygons_of digits how) (map (positions_moved d)) polygons_moved areas)
    shape_moved (collection gs) = shapes_moved gs

    pub shapes_moved : (gs : Geometries) → shape_of_all digits how (geometries_changed (λ i. d + i) gs) ≡ shape_of_all digits how gs
    shapes_moved no_geometries = refl
    shapes_moved (geometry_and g gs) = ap (λ z. both z (shape_of_all digits how (geometries_changed (λ i. d + i) gs))) (shape_moved g) ∙ ap (both (shape_of digits how g)) (shapes_moved gs)

  mutual
    pub faults_moved : (g : Geometry) → faults_of digits how (geometry_moved d g) ≡ map (fault_moved d) (faults_of digits how g)
    faults_moved (point p) = ap (flat_map (position_faults digits how)) (list_moved (position_moved d) p) ∙ flat_map_moved d (position_faults digits how) (position_moved d) position_faults_moved (option_to_list p)
    faults_moved (line_string ps) = ap (flat_map (faults_of_line digits how)) (list_moved (positions_moved d) ps) ∙ flat_map_moved d (faults_of_line digits how) (positions_moved d) line_faults_moved (option_to_list ps)
    faults_moved (polygon rings) = area_faults_moved rings
    faults_moved (multi_point ps) = ap (flat_map (position_faults digits how)) (present_moved (position_moved d) ps) ∙ flat_map_moved d (position_faults digits how) (position_moved d) position_faults_moved (present ps)
    faults_moved (multi_line_string ls) = ap (flat_map (faults_of_line digits how)) (present_moved (positions_moved d) ls) ∙ flat_map_moved d (faults_of_line digits how) (positions_moved d) line_faults_moved (present ls)
    faults_moved (multi_polygon areas) = flat_map_moved d (faults_of_area digits how) (map (positions_moved d)) area_faults_moved areas
    faults_moved (collection gs) = all_faults_moved gs

    pub all_faults_moved : (gs : Geometries) → faults_of_all digits how (geometries_changed (λ i. d + i) gs) ≡ map (fault_moved d) (faults_of_all digits how gs)
    all_faults_moved no_geometries = refl
    all_faults_moved (geometry_and g gs) = cc (faults_moved g, all_faults_moved gs, map-append (fault_moved d) (faults_of digits how g) (faults_of_all digits how gs))
