-- What an atom is as the coordinates of each kind of geometry is what the definitions read of its tree.
-- For `object` and `value`.
use Rattle.std.proofs.Common.{◌≡◌, ℕ, Bool, true, false, if◌then◌else◌, List, [], ◌∷◌, length, map, flat_map, Option, Some, None, Result, Ok, Err, option_map, option_and_then, refl, sym, ◌∙◌, ap, subst, append-nil}
use Rattle.std.proofs.lemmas.Bool.{true≢false}
use Rattle.std.proofs.lemmas.List.Concat.{flat_map-cons}
use Rattle.std.proofs.lemmas.Option.{none-some}
use Rattle.at_text.specs.Faults.{first_of, fault_at}
use Rattle.at_text.specs.declared.faults.Fault.{Fault}
use Rattle.at_text.specs.declared.faults.FaultKind.TheVariants.{Form}
use Rattle.at_geom.specs.declared.positions.Pos.{Pos}
use Rattle.at_geom.specs.declared.shapes.Polygon.{Polygon}
use Rattle.at_geom.specs.declared.shapes.Shape.{Shape}
use Rattle.at_wkt.specs.Positions.{Positions, items_faults, position_faults, faults_of_line, faults_of_ring, pos_of, path_of}
use Rattle.at_wkt.specs.Geometry as wkt
use Rattle.at_geom.specs.Shapes.{empty_shape, of_points, of_lines, of_polygons}
use Rattle.at_wkt.specs.Meaning.{present, polygons_of, faults_of_area, shape_of, faults_of}
use Rattle.at_nest.specs.Tree.{Tree, array, object, Trees, no_trees, tree_and, offset_of}
use Rattle.at_scan.specs.declared.kinds.Kind.{Kind}
use Rattle.at_scan.specs.declared.kinds.Kind.TheVariants as kinds
use Rattle.at_query.specs.Keeping.{Asked, needs_shapes, kept, kept_shape}
use Rattle.at_geojson.specs.declared.atoms.atom.GeoAtom.{GeoAtom}
use Rattle.at_geojson.specs.declared.atoms.atom.GeoAtom.TheVariants as atoms
use Rattle.at_geojson.specs.Names.{items_of}
use Rattle.at_geojson.specs.Coordinates.{each, position_of, positions_of, lists_of, area_of, areas_of, if_some_items, geometry_of, geometry_of_form}
use Rattle.at_geojson.specs.Roles.{GeometryRead, not_geometry, coordinates_reading}
use Rattle.at_geojson.specs.Atoms.{no_roles, at_of, is_empty, as_position, as_points, as_lists, as_area, as_areas, PositionView, PointsView, ListsView, AreasView, array_trees, Alike, HasShape, IsPosition, IsPoints, IsLists, IsArea, IsAreas, IsRead}
use Rattle.at_geojson.specs.Gathering.{seen}
use Rattle.at_geojson.specs.Objects.{unless, shape_seen, point_shape, points_shape, line_shape, lines_shape, polygon_shape, polygons_shape}
use Rattle.at_geojson.proofs.Firsts.{none_first}
use Rattle.at_geojson.proofs.CoordinateFolds.{items_none}
use Rattle.at_geojson.proofs.ArrayFolds.{kept_empty}
use Rattle.at_geom.specs.Shapes.{line_fault}

-- ---- empty arrays

abbrev has_items : Option Trees → Bool
has_items (Some no_trees) = false
has_items (Some (tree_and t ts)) = true
has_items None = true

nil_lists : (t : Tree) → array_trees t ≡ Some no_trees → lists_of t ≡ Some []
nil_lists (array i no_trees) e = refl
nil_lists (array i (tree_and u us)) e = absurd (true≢false (ap has_items e))
nil_lists _ e = absurd (true≢false (ap has_items e))

nil_areas : (t : Tree) → array_trees t ≡ Some no_trees → areas_of t ≡ Some []
nil_areas (array i no_trees) e = refl
nil_areas (array i (tree_and u us)) e = absurd (true≢false (ap has_items e))
nil_areas _ e = absurd (true≢false (ap has_items e))

nil_geometry : (kind : Kind) (t : Tree) → array_trees t ≡ Some no_trees → geometry_of kind t ≡ Some (wkt.collection wkt.no_geometries)
nil_geometry kind (array i no_trees) e = refl
nil_geometry kind (array i (tree_and u us)) e = absurd (true≢false (ap has_items e))
nil_geometry kind _ e = absurd (true≢false (ap has_items e))

form_geometry : (kind : Kind) (t : Tree) → (array_trees t ≡ Some no_trees → ⊥) → geometry_of kind t ≡ geometry_of_form kind t
form_geometry kind (array i no_trees) n = absurd (n refl)
form_geometry kind (array i (tree_and u us)) n = refl
form_geometry kind _ n = refl

-- lists of positions of an array that isn't empty are an area
polygon_form : (t : Tree) → (array_trees t ≡ Some no_trees → ⊥) → geometry_of_form kinds.Polygon t ≡ option_map (λ rings. wkt.polygon rings) (area_of t)
polygon_form (array i no_trees) n = absurd (n refl)
polygon_form (array i (tree_and u us)) n = go (positions_of u) (each positions_of (items_of us)) where
  go : (p : Option Positions) (q : Option (List Positions)) → option_map (λ rings. wkt.polygon rings) (option_and_then (λ y. option_map (λ ys. y ∷ ys) q) p)
      ≡ option_map (λ rings. wkt.polygon rings) (option_and_then if_some_items (option_and_then (λ y. option_map (λ ys. y ∷ ys) q) p))
  go None q = refl
  go (Some y) None = refl
  go (Some y) (Some ys) = refl
polygon_form (object i ms) n = refl
polygon_form _ n = refl

-- ---- shapes

abbrev polygon_of : List (List Pos) → Polygon
polygon_of paths = record { rings = paths }

kept_points : (b : Bool) (xs : List Pos) → of_points (kept b xs) ≡ kept_shape b (of_points xs)
kept_points true xs = refl
kept_points false xs = refl

kept_lines : (b : Bool) (xs : List (List Pos)) → of_lines (kept b xs) ≡ kept_shape b (of_lines xs)
kept_lines true xs = refl
kept_lines false xs = refl

kept_polygons : (b : Bool) (xs : List Polygon) → of_polygons (kept b xs) ≡ kept_shape b (of_polygons xs)
kept_polygons true xs = refl
kept_polygons false xs = refl

-- a line of a path that is kept
kept_one : (b : Bool) (path xs : List Pos) → path ≡ kept b xs → kept b (path ∷ []) ≡ kept b (xs ∷ [])
kept_one true path xs e = ap (λ z. z ∷ []) e
kept_one false path xs e = refl

kept_rings : (b : Bool) (paths xs : List (List Pos)) → paths ≡ kept b xs → kept b (polygon_of paths ∷ []) ≡ kept b (polygon_of xs ∷ [])
kept_rings true paths xs e = ap (λ z. polygon_of z ∷ []) e
kept_rings false paths xs e = refl

unless_has : (b : Bool) (o : Option Fault) (fs : List Fault) (s u : Shape) → o ≡ first_of fs → (o ≡ None → s ≡ kept_shape b u) → HasShape b (unless o s) (record { shape = u; faults = fs })
unless_has b None fs s u e h = (none_first fs (sym e), h refl)
unless_has b (Some f) fs s u e h = sym e

present_some : {X : Type 0} (xs : List X) → present (map (λ x. Some x) xs) ≡ xs
present_some [] = refl
present_some (x ∷ xs) = ap (λ z. x ∷ z) (present_some xs)

one_flat : {X : Type 0} (f : X → List Fault) (x : X) → f x ≡ flat_map f (x ∷ [])
one_flat f x = sym (flat_map-cons f x [] ∙ append-nil (f x))

module _ (asked : Asked) where
  not_nil : (a : GeoAtom) (t : Tree) → IsRead asked a t → is_empty a ≡ false → array_trees t ≡ Some no_trees → ⊥
  not_nil (atoms.Empty k) t r n e = absurd (true≢false n)
  not_nil (atoms.Lists x) t r n e = subst (Alike (IsAreas asked) None) (nil_areas t e) r.coordinates.areas
  not_nil (atoms.Run x) t r n e = absurd (none-some x.value (sym r.single))
  not_nil (atoms.Series s) t r n e = absurd (none-some (no_roles s.at) (sym r.single))
  not_nil (atoms.Track x) t r n e = absurd (none-some (no_roles x.at) (sym r.single))
  not_nil _ t r n e = subst (Alike (IsLists asked) None) (nil_lists t e) r.coordinates.lists

  abbrev of_geometry : wkt.Geometry → GeometryRead
  of_geometry g = record { shape = shape_of asked.digits asked.how g; faults = faults_of asked.digits asked.how g }

  abbrev geometry_read : ℕ → Option wkt.Geometry → GeometryRead
  geometry_read at o = elim o [ None ↦ not_geometry at | Some g ↦ of_geometry g ]

  module _ {X Y : Type 0} (kind : Kind) (f : Tree → Option Y) (view : GeoAtom → Option X) (R : X → Y → Type 0) (tell : X → Result Shape Fault) (g : Y → wkt.Geometry)
      (form : (t : Tree) → (array_trees t ≡ Some no_trees → ⊥) → geometry_of_form kind t ≡ option_map g (f t)) (good : (x : X) (y : Y) → R x y → HasShape (needs_shapes asked.query) (tell x) (of_geometry (g y))) where
    by_view : (a : GeoAtom) (at : ℕ) (o : Option X) (p : Option Y) → at_of a ≡ at → Alike R o p → HasShape (needs_shapes asked.query) (seen (Err (fault_at Form (at_of a))) tell o) (geometry_read at (option_map g p))
    by_view a at (Some x) (Some y) e r = good x y r
    by_view a at None None e r = ap (λ n. Some (fault_at Form n)) (sym e)
    by_view a at _ _ e r = absurd r

    pub shape_is : (at : ℕ) (a : GeoAtom) (t : Tree) → IsRead asked a t → Alike R (view a) (f t) → HasShape (needs_shapes asked.query) (shape_seen a (view a) tell) (coordinates_reading asked.digits asked.how at kind (Some t))
    shape_is at a t r h = go (is_empty a) refl where
      go : (b : Bool) → is_empty a ≡ b → HasShape (needs_shapes asked.query) (shape_seen a (view a) tell) (coordinates_reading asked.digits asked.how at kind (Some t))
      go true e =
          let q : geometry_of kind t ≡ Some (wkt.collection wkt.no_geometries) = nil_geometry kind t (r.scalar.is_empty e) in
          subst (λ b. HasShape (needs_shapes asked.query) (if b then Ok empty_shape else seen (Err (fault_at Form (at_of a))) tell (view a)) (geometry_read (offset_of t) (geometry_of kind t))) (sym e)
          (subst (λ o. HasShape (needs_shapes asked.query) (Ok empty_shape) (geometry_read (offset_of t) o)) (sym q) (refl, kept_empty (needs_shapes asked.query)))
      go false e =
          let q : geometry_of kind t ≡ option_map g (f t) = form_geometry kind t (not_nil a t r e) ∙ form t (not_nil a t r e) in
          subst (λ b. HasShape (needs_shapes asked.query) (if b then Ok empty_shape else seen (Err (fault_at Form (at_of a))) tell (view a)) (geometry_read (offset_of t) (geometry_of kind t))) (sym e)
          (subst (λ o. HasShape (needs_shapes asked.query) (seen (Err (fault_at Form (at_of a))) tell (view a)) (geometry_read (offset_of t) o)) (sym q) (by_view a (offset_of t) (view a) (f t) r.at h))

  abbrev IsShapeOf : Result Shape Fault → ℕ → Kind → Tree → Type 0
  IsShapeOf r at kind t = HasShape (needs_shapes asked.query) r (coordinates_reading asked.digits asked.how at kind (Some t))

  pub point_is : (at : ℕ) (a : GeoAtom) (t : Tree) → IsRead asked a t → IsShapeOf (point_shape (needs_shapes asked.query) a) at kinds.Point t
  point_is at a t r = shape_is kinds.Point position_of as_position (IsPosition asked) (λ (v : PositionView). unless v.fault (of_points (kept (needs_shapes asked.query) (v.pos ∷ [])))) (λ p. wkt.point (Some p)) (λ t n. refl)
      (λ v p h. unless_has (needs_shapes asked.query) v.fault (flat_map (position_faults asked.digits asked.how) (p ∷ [])) (of_points (kept (needs_shapes asked.query) (v.pos ∷ []))) (of_points (pos_of asked.digits asked.how p ∷ []))
      (h.0 ∙ ap first_of (one_flat (position_faults asked.digits asked.how) p)) (λ e. ap (λ z. of_points (kept (needs_shapes asked.query) (z ∷ []))) (h.1 e) ∙ kept_points (needs_shapes asked.query) (pos_of asked.digits asked.how p ∷ [])))
      at a t r r.coordinates.position

  pub points_is : (at : ℕ) (a : GeoAtom) (t : Tree) → IsRead asked a t → IsShapeOf (points_shape a) at kinds.MultiPoint t
  points_is at a t r = shape_is kinds.MultiPoint positions_of as_points (IsPoints asked) (λ (v : PointsView). unless v.as_points (of_points v.path)) (λ (ps : Positions). wkt.multi_point (map (λ p. Some p) ps.items)) (λ t n. refl)
      (λ v ps h. subst (λ z. HasShape (needs_shapes asked.query) (unless v.as_points (of_points v.path)) (record { shape = of_points (map (pos_of asked.digits asked.how) z); faults = flat_map (position_faults asked.digits asked.how) z })) (sym (present_some ps.items))
      (unless_has (needs_shapes asked.query) v.as_points (flat_map (position_faults asked.digits asked.how) ps.items) (of_points v.path) (of_points (map (pos_of asked.digits asked.how) ps.items))
      h.as_points (λ e. ap of_points (h.path e) ∙ kept_points (needs_shapes asked.query) (map (pos_of asked.digits asked.how) ps.items))))
      at a t r r.coordinates.points

  line_path : (v : PointsView) (ps : Positions) → IsPoints asked v ps → v.as_line ≡ None → v.path ≡ kept (needs_shapes asked.query) (path_of asked.digits asked.how ps)
  line_path v ps h e = h.path (h.as_points ∙ items_none (line_fault (length ps.items) ps.at) (items_faults asked.digits asked.how ps.items) (sym h.as_line ∙ e))

  pub line_is : (at : ℕ) (a : GeoAtom) (t : Tree) → IsRead asked a t → IsShapeOf (line_shape (needs_shapes asked.query) a) at kinds.LineString t
  line_is at a t r = shape_is kinds.LineString positions_of as_points (IsPoints asked) (λ (v : PointsView). unless v.as_line (of_lines (kept (needs_shapes asked.query) (v.path ∷ [])))) (λ ps. wkt.line_string (Some ps)) (λ t n. refl)
      (λ v ps h. unless_has (needs_shapes asked.query) v.as_line (flat_map (faults_of_line asked.digits asked.how) (ps ∷ [])) (of_lines (kept (needs_shapes asked.query) (v.path ∷ []))) (of_lines (path_of asked.digits asked.how ps ∷ []))
      (h.as_line ∙ ap first_of (one_flat (faults_of_line asked.digits asked.how) ps)) (λ e. ap of_lines (kept_one (needs_shapes asked.query) v.path (path_of asked.digits asked.how ps) (line_path v ps h e)) ∙ kept_lines (needs_shapes asked.query) (path_of asked.digits asked.how ps ∷ [])))
      at a t r r.coordinates.points

  pub lines_is : (at : ℕ) (a : GeoAtom) (t : Tree) → IsRead asked a t → IsShapeOf (lines_shape a) at kinds.MultiLineString t
  lines_is at a t r = shape_is kinds.MultiLineString lists_of as_lists (IsLists asked) (λ (v : ListsView). unless v.as_lines (of_lines v.paths)) (λ ls. wkt.multi_line_string (map (λ l. Some l) ls)) (λ t n. refl)
      (λ v ls h. subst (λ z. HasShape (needs_shapes asked.query) (unless v.as_lines (of_lines v.paths)) (record { shape = of_lines (map (path_of asked.digits asked.how) z); faults = flat_map (faults_of_line asked.digits asked.how) z })) (sym (present_some ls))
      (unless_has (needs_shapes asked.query) v.as_lines (flat_map (faults_of_line asked.digits asked.how) ls) (of_lines v.paths) (of_lines (map (path_of asked.digits asked.how) ls))
      h.as_lines (λ e. ap of_lines (h.lines e) ∙ kept_lines (needs_shapes asked.query) (map (path_of asked.digits asked.how) ls))))
      at a t r r.coordinates.lists

  area_good : (v : ListsView) (ls : List Positions) → IsArea asked v ls → HasShape (needs_shapes asked.query) (unless v.as_rings (of_polygons (kept (needs_shapes asked.query) (polygon_of v.paths ∷ [])))) (of_geometry (wkt.polygon ls))
  area_good v [] h = absurd h
  area_good v (p ∷ ls) h = unless_has (needs_shapes asked.query) v.as_rings (flat_map (faults_of_ring asked.digits asked.how) (p ∷ ls)) (of_polygons (kept (needs_shapes asked.query) (polygon_of v.paths ∷ []))) (of_polygons (polygon_of (map (path_of asked.digits asked.how) (p ∷ ls)) ∷ []))
      h.as_rings (λ e. ap of_polygons (kept_rings (needs_shapes asked.query) v.paths (map (path_of asked.digits asked.how) (p ∷ ls)) (h.rings e)) ∙ kept_polygons (needs_shapes asked.query) (polygon_of (map (path_of asked.digits asked.how) (p ∷ ls)) ∷ []))

  pub polygon_is : (at : ℕ) (a : GeoAtom) (t : Tree) → IsRead asked a t → IsShapeOf (polygon_shape (needs_shapes asked.query) a) at kinds.Polygon t
  polygon_is at a t r = shape_is kinds.Polygon area_of as_area (IsArea asked) (λ (v : ListsView). unless v.as_rings (of_polygons (kept (needs_shapes asked.query) (polygon_of v.paths ∷ [])))) (λ rings. wkt.polygon rings) polygon_form area_good
      at a t r r.coordinates.area

  pub polygons_is : (at : ℕ) (a : GeoAtom) (t : Tree) → IsRead asked a t → IsShapeOf (polygons_shape a) at kinds.MultiPolygon t
  polygons_is at a t r = shape_is kinds.MultiPolygon areas_of as_areas (IsAreas asked) (λ (v : AreasView). unless v.fault (of_polygons v.polygons)) (λ areas. wkt.multi_polygon areas) (λ t n. refl)
      (λ v areas h. unless_has (needs_shapes asked.query) v.fault (flat_map (faults_of_area asked.digits asked.how) areas) (of_polygons v.polygons) (of_polygons (flat_map (polygons_of asked.digits asked.how) areas))
      h.fault (λ e. ap of_polygons (h.polygons e) ∙ kept_polygons (needs_shapes asked.query) (flat_map (polygons_of asked.digits asked.how) areas)))
      at a t r r.coordinates.areas
