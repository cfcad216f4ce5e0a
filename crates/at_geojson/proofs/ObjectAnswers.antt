-- The atom of an object, by the kind that it says it is.
-- For `object` and `value`.
use Rattle.std.proofs.Common.{◌≡◌, ℕ, codes, List, Option, Some, None, Result, refl, sym, subst}
use Rattle.at_text.specs.Faults.{first_of, fault_at}
use Rattle.at_text.specs.declared.faults.Fault.{Fault}
use Rattle.at_text.specs.declared.faults.FaultKind.TheVariants.{Form}
use Rattle.at_geom.specs.declared.shapes.Shape.{Shape}
use Rattle.at_nest.specs.declared.algebra.Member.{Member}
use Rattle.at_nest.specs.Folds.{AreMemberFolds}
use Rattle.at_nest.specs.Tree.{Members}
use Rattle.at_scan.specs.declared.kinds.Kind.{Kind}
use Rattle.at_scan.specs.declared.kinds.Kind.TheVariants as kinds
use Rattle.at_query.specs.Keeping.{Asked, needs_shapes}
use Rattle.at_geojson.specs.declared.atoms.atom.GeoAtom.{GeoAtom}
use Rattle.at_geojson.specs.declared.atoms.atom.Role.{Role}
use Rattle.at_geojson.specs.declared.atoms.atom.Role.TheVariants as roles
use Rattle.at_geojson.specs.Names.{member_named}
use Rattle.at_geojson.specs.Roles.{GeometryRead, Features, kind_reading, collection_reading, if_feature}
use Rattle.at_geojson.specs.Atoms.{Alike, HasShape, HasPart, role_geometry, role_item, IsRead}
use Rattle.at_geojson.specs.Objects.{value_named, coordinates_shape, IsRoleOf}
use Rattle.at_geojson.proofs.MemberFolds.{named}
use Rattle.at_geojson.proofs.GeometryFolds.{point_is, points_is, line_is, lines_is, polygon_is, polygons_is}
use Rattle.at_geojson.proofs.ObjectFolds.{coordinates_is, collection_is, feature_is}

module _ (asked : Asked) (at : ℕ) (xs : List (Member GeoAtom)) (ms : Members) (h : AreMemberFolds (IsRead asked) xs ms) where
  abbrev read_as : Option Kind → GeometryRead
  read_as kind = kind_reading asked.digits asked.how at ms (collection_reading asked.digits asked.how at ms) kind

  coordinates : (kind : Kind) (role : Role) → role ≡ roles.Geometry (coordinates_shape (needs_shapes asked.query) at kind (value_named (codes "coordinates") xs)) → (r : GeometryRead)
      → HasShape (needs_shapes asked.query) (coordinates_shape (needs_shapes asked.query) at kind (value_named (codes "coordinates") xs)) r → HasShape (needs_shapes asked.query) (role_geometry at role) r
  coordinates kind role e r k = subst (λ z. HasShape (needs_shapes asked.query) (role_geometry at z) r) (sym e) k

  abbrev value : Alike (IsRead asked) (value_named (codes "coordinates") xs) (member_named (codes "coordinates") ms)
  value = named asked (codes "coordinates") xs ms h

  -- as a geometry
  pub geometry_of_role : (kind : Option Kind) (role : Role) → IsRoleOf asked.query at kind xs role → HasShape (needs_shapes asked.query) (role_geometry at role) (read_as kind)
  geometry_of_role None role e = subst (λ z. HasShape (needs_shapes asked.query) (role_geometry at z) (read_as None)) (sym e) refl
  geometry_of_role (Some kinds.FeatureCollection) role (p, e, f) = subst (λ z. HasShape (needs_shapes asked.query) (role_geometry at z) (read_as (Some kinds.FeatureCollection))) (sym e) refl
  geometry_of_role (Some kinds.Feature) role (p, e, f) = subst (λ z. HasShape (needs_shapes asked.query) (role_geometry at z) (read_as (Some kinds.Feature))) (sym e) refl
  geometry_of_role (Some kinds.GeometryCollection) role e = subst (λ z. HasShape (needs_shapes asked.query) (role_geometry at z) (read_as (Some kinds.GeometryCollection))) (sym e)
      (collection_is asked at ms (value_named (codes "geometries") xs) (named asked (codes "geometries") xs ms h))
  geometry_of_role (Some kinds.Point) role e = coordinates kinds.Point role e (read_as (Some kinds.Point)) (coordinates_is asked at kinds.Point (point_is asked at) (value_named (codes "coordinates") xs) (member_named (codes "coordinates") ms) value)
  geometry_of_role (Some kinds.MultiPoint) role e = coordinates kinds.MultiPoint role e (read_as (Some kinds.MultiPoint)) (coordinates_is asked at kinds.MultiPoint (points_is asked at) (value_named (codes "coordinates") xs) (member_named (codes "coordinates") ms) value)
  geometry_of_role (Some kinds.LineString) role e = coordinates kinds.LineString role e (read_as (Some kinds.LineString)) (coordinates_is asked at kinds.LineString (line_is asked at) (value_named (codes "coordinates") xs) (member_named (codes "coordinates") ms) value)
  geometry_of_role (Some kinds.MultiLineString) role e = coordinates kinds.MultiLineString role e (read_as (Some kinds.MultiLineString)) (coordinates_is asked at kinds.MultiLineString (lines_is asked at) (value_named (codes "coordinates") xs) (member_named (codes "coordinates") ms) value)
  geometry_of_role (Some kinds.Polygon) role e = coordinates kinds.Polygon role e (read_as (Some kinds.Polygon)) (coordinates_is asked at kinds.Polygon (polygon_is asked at) (value_named (codes "coordinates") xs) (member_named (codes "coordinates") ms) value)
  geometry_of_role (Some kinds.MultiPolygon) role e = coordinates kinds.MultiPolygon role e (read_as (Some kinds.MultiPolygon)) (coordinates_is asked at kinds.MultiPolygon (polygons_is asked at) (value_named (codes "coordinates") xs) (member_named (codes "coordinates") ms) value)

  -- as an item of a collection of features
  abbrev item_as : Option Kind → Features
  item_as kind = if_feature asked.digits asked.how at ms kind

  no_item : (kind : Option Kind) (role : Role) (g : Result Shape Fault) → role ≡ roles.Geometry g → first_of (item_as kind).faults ≡ Some (fault_at Form at) → HasPart asked.query (role_item at role) (item_as kind)
  no_item kind role g e k = subst (λ z. HasPart asked.query (role_item at z) (item_as kind)) (sym e) k

  pub item_of_role : (kind : Option Kind) (role : Role) → IsRoleOf asked.query at kind xs role → HasPart asked.query (role_item at role) (item_as kind)
  item_of_role None role e = subst (λ z. HasPart asked.query (role_item at z) (item_as None)) (sym e) refl
  item_of_role (Some kinds.FeatureCollection) role (p, e, f) = subst (λ z. HasPart asked.query (role_item at z) (item_as (Some kinds.FeatureCollection))) (sym e) refl
  item_of_role (Some kinds.Feature) role (p, e, f) = subst (λ z. HasPart asked.query (role_item at z) (item_as (Some kinds.Feature))) (sym e)
      (feature_is asked at xs ms p (named asked (codes "geometry") xs ms h) (named asked (codes "properties") xs ms h) f)
  item_of_role kind role e = no_item kind role _ e refl
