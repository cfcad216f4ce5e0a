-- What an object is made of is the algebra's own.
-- For `object` and `value`.
use Rattle.std.proofs.Common.{◌≡◌, ℕ, Bool, true, false, if◌then◌else◌, bytes_eq, List, [], ◌∷◌, Option, Some, None, Result, Ok, Err, All, refl, sym, ap, subst}
use Rattle.std.proofs.lemmas.List.Elements.{All-nil, All-cons, All-head, All-tail}
use Rattle.at_text.specs.Faults.{fault_at}
use Rattle.at_text.specs.declared.faults.Fault.{Fault}
use Rattle.at_text.specs.declared.faults.FaultKind.TheVariants.{Form}
use Rattle.at_geom.specs.declared.positions.Pos.{Pos}
use Rattle.at_geom.specs.declared.shapes.Polygon.{Polygon}
use Rattle.at_geom.specs.declared.shapes.Shape.{Shape}
use Rattle.at_geom.specs.Segments.{IsInRange}
use Rattle.at_geom.specs.Shapes.{ArePathsInRange, ArePolygonsInRange, IsShapeInRange}
use Rattle.at_query.specs.declared.answer.parts.Part.{Part}
use Rattle.at_query.specs.Keeping.{Asked, needs_shapes, kept}
use Rattle.at_query.proofs.ShapeRanges.{nothing_in, points_in, lines_in, polygons_in}
use Rattle.at_geom.specs.Shapes.{empty_shape, of_points, of_lines, of_polygons}
use Rattle.at_nest.specs.declared.algebra.Member.{Member}
use Rattle.at_scan.specs.declared.kinds.Kind.{Kind}
use Rattle.at_scan.specs.declared.kinds.Kind.TheVariants as kinds
use Rattle.at_geojson.specs.declared.atoms.atom.GeoAtom.{GeoAtom}
use Rattle.at_geojson.specs.declared.atoms.atom.GeoAtom.TheVariants as atoms
use Rattle.at_geojson.specs.Fields.{IfOwnValue}
use Rattle.at_geojson.specs.Atoms.{nowhere, at_of, is_empty, is_null, role_of, role_geometry, as_position, as_points, as_lists, as_area, as_areas, as_geometries, as_features, PositionView, PointsView, ListsView, AreasView, IfOwnShape, IfOwnPart, IsOwn}
use Rattle.at_geojson.specs.Gathering.{seen}
use Rattle.at_geojson.specs.Objects.{value_named, unless, shape_seen, kind_shape, coordinates_shape, geometries_shape, feature_shape, FeaturesSeen}
use Rattle.at_geojson.proofs.OwnFolds.{all_kept, position_in, path_in_range, rings_in_range, own_geometry}

one : {X : Type 0} (P : X → Type 0) (b : Bool) (x : X) → P x → All P (kept b (x ∷ []))
one P b x h = all_kept P b (x ∷ []) (All-cons P x [] h (All-nil P))

abbrev lists_in_atom : GeoAtom → List (List Pos)
lists_in_atom a = seen [] (λ (v : ListsView). v.paths) (as_lists a)

abbrev areas_in : GeoAtom → List Polygon
areas_in a = seen [] (λ (v : AreasView). v.polygons) (as_areas a)

module _ (asked : Asked) where
  abbrev pub IfOwn : Option GeoAtom → Type 0
  IfOwn o = IfOwnValue asked o

  pub own_named : (name : List ℕ) (xs : List (Member GeoAtom)) → All (λ (m : Member GeoAtom). IsOwn asked m.value) xs → IfOwn (value_named name xs)
  own_named name [] h = tt
  own_named name (x ∷ xs) h = go (bytes_eq x.name name) refl (own_named name xs (All-tail (λ (m : Member GeoAtom). IsOwn asked m.value) x xs h)) where
    go : (b : Bool) → bytes_eq x.name name ≡ b → IfOwn (value_named name xs) → IfOwn (value_named name (x ∷ xs))
    go true e more = subst (λ c. IfOwn (if c then Some x.value else value_named name xs)) (sym e) (All-head (λ (m : Member GeoAtom). IsOwn asked m.value) x xs h)
    go false e more = subst (λ c. IfOwn (if c then Some x.value else value_named name xs)) (sym e) more

  unless_own : (o : Option Fault) (s : Shape) → IsShapeInRange s → IfOwnShape asked (unless o s)
  unless_own None s h = h
  unless_own (Some f) s h = tt

  shape_own : (X : Type 0) (a : GeoAtom) (view : Option X) (f : X → Result Shape Fault) → ((x : X) → view ≡ Some x → IfOwnShape asked (f x)) → IfOwnShape asked (shape_seen a view f)
  shape_own X a view f each = pick (is_empty a) view refl where
    told : (o : Option X) → view ≡ o → IfOwnShape asked (seen (Err (fault_at Form (at_of a))) f o)
    told None e = tt
    told (Some x) e = each x e

    pick : (b : Bool) (o : Option X) → view ≡ o → IfOwnShape asked (if b then Ok empty_shape else seen (Err (fault_at Form (at_of a))) f o)
    pick true o e = nothing_in
    pick false o e = told o e

  lists_own_in : (a : GeoAtom) → IsOwn asked a → ArePathsInRange (lists_in_atom a)
  lists_own_in (atoms.Lists x) h = h
  lists_own_in _ h = All-nil (All IsInRange)

  areas_own_in : (a : GeoAtom) → IsOwn asked a → ArePolygonsInRange (areas_in a)
  areas_own_in (atoms.Areas x) h = h
  areas_own_in _ h = All-nil (λ (polygon : Polygon). ArePathsInRange polygon.rings)

  geometries_own : (at : ℕ) (a : GeoAtom) → IsOwn asked a → IfOwnShape asked (seen (Err (fault_at Form at)) (λ r. r) (as_geometries a))
  geometries_own at (atoms.Empty n) h = nothing_in
  geometries_own at (atoms.Items x) h = h.0
  geometries_own at _ h = tt

  features_own : (at : ℕ) (a : GeoAtom) → IsOwn asked a → IfOwnPart asked (seen (Err (fault_at Form at)) (λ p. p) (as_features a))
  features_own at (atoms.Items x) h = h.1
  features_own at _ h = tt

  point_own : (a : GeoAtom) → IsOwn asked a → (v : PositionView) → as_position a ≡ Some v → IfOwnShape asked (unless v.fault (of_points (kept (needs_shapes asked.query) (v.pos ∷ []))))
  point_own a h v e = unless_own v.fault _ (points_in _ (one IsInRange (needs_shapes asked.query) v.pos (subst IsInRange (ap (seen nowhere (λ (w : PositionView). w.pos)) e) (position_in asked a h))))

  path_own : (a : GeoAtom) → IsOwn asked a → (v : PointsView) → as_points a ≡ Some v → All IsInRange v.path
  path_own a h v e = subst (All IsInRange) (ap (seen [] (λ (w : PointsView). w.path)) e) (path_in_range asked a h)

  kind_own : (kind : Kind) (a : GeoAtom) → IsOwn asked a → IfOwnShape asked (kind_shape (needs_shapes asked.query) kind a)
  kind_own kinds.Point a h = shape_own PositionView a (as_position a) (λ (v : PositionView). unless v.fault (of_points (kept (needs_shapes asked.query) (v.pos ∷ [])))) (point_own a h)
  kind_own kinds.MultiPoint a h = shape_own PointsView a (as_points a) (λ (v : PointsView). unless v.as_points (of_points v.path)) (λ v e. unless_own v.as_points (of_points v.path) (points_in v.path (path_own a h v e)))
  kind_own kinds.LineString a h = shape_own PointsView a (as_points a) (λ (v : PointsView). unless v.as_line (of_lines (kept (needs_shapes asked.query) (v.path ∷ [])))) (λ v e. unless_own v.as_line _ (lines_in _ (one (All IsInRange) (needs_shapes asked.query) v.path (path_own a h v e))))
  kind_own kinds.MultiLineString a h = shape_own ListsView a (as_lists a) (λ (v : ListsView). unless v.as_lines (of_lines v.paths)) (λ v e. unless_own v.as_lines (of_lines v.paths) (lines_in v.paths (subst ArePathsInRange (ap (seen [] (λ (w : ListsView). w.paths)) e) (lists_own_in a h))))
  kind_own kinds.Polygon a h = shape_own ListsView a (as_area a) (λ (v : ListsView). unless v.as_rings (of_polygons (kept (needs_shapes asked.query) (record { rings = v.paths } ∷ [])))) (λ v e. unless_own v.as_rings _ (polygons_in _ (one (λ (polygon : Polygon). ArePathsInRange polygon.rings) (needs_shapes asked.query) (record { rings = v.paths })
      (subst ArePathsInRange (ap (seen [] (λ (w : ListsView). w.paths)) e) (rings_in_range asked a h)))))
  kind_own kinds.MultiPolygon a h = shape_own AreasView a (as_areas a) (λ (v : AreasView). unless v.fault (of_polygons v.polygons)) (λ v e. unless_own v.fault (of_polygons v.polygons) (polygons_in v.polygons (subst ArePolygonsInRange (ap (seen [] (λ (w : AreasView). w.polygons)) e) (areas_own_in a h))))
  kind_own _ a h = tt

  pub own_coordinates : (at : ℕ) (kind : Kind) (o : Option GeoAtom) → IfOwn o → IfOwnShape asked (coordinates_shape (needs_shapes asked.query) at kind o)
  own_coordinates at kind None h = tt
  own_coordinates at kind (Some a) h = kind_own kind a h

  pub own_geometries : (at : ℕ) (o : Option GeoAtom) → IfOwn o → IfOwnShape asked (geometries_shape at o)
  own_geometries at None h = tt
  own_geometries at (Some a) h = geometries_own at a h

  pub own_feature_shape : (o : Option GeoAtom) → IfOwn o → IfOwnShape asked (feature_shape o)
  own_feature_shape None h = nothing_in
  own_feature_shape (Some a) h = pick (is_null a) where
    pick : (b : Bool) → IfOwnShape asked (if b then Ok empty_shape else role_geometry (at_of a) (role_of a))
    pick true = nothing_in
    pick false = own_geometry asked a h

  pub own_features : (at : ℕ) (o : Option GeoAtom) (r : Result Part Fault) → FeaturesSeen asked.query at o r → IfOwn o → IfOwnPart asked r
  own_features at None r e h = subst (IfOwnPart asked) (sym e) tt
  own_features at (Some a) r f h = go (is_empty a) refl where
    go : (b : Bool) → is_empty a ≡ b → IfOwnPart asked r
    go true e = let (part, q, p) = f.0 e in subst (IfOwnPart asked) (sym q) ([], p)
    go false e = subst (IfOwnPart asked) (sym (f.1 e)) (features_own at a h)
