-- The members for which some kind of object asks: of each name the first, and what is made of them is what is made of all members.
-- For `object` and `value`.
use Rattle.std.proofs.Common.{◌≡◌, inl, inr, ℕ, Bool, true, false, if◌then◌else◌, bytes_eq, codes, List, [], ◌∷◌, ◌++◌, All, Option, Some, None, refl, sym, ◌∙◌, ap, subst}
use Rattle.std.proofs.lemmas.Slice.Eq.{bytes_eq-Decides}
use Rattle.std.proofs.lemmas.Bool.{true≢false, or_from}
use Rattle.std.proofs.lemmas.Bool.Decides.{not_from_Decides}
use Rattle.std.proofs.lemmas.Option.{none-some}
use Rattle.at_text.specs.declared.faults.Fault.{Fault}
use Rattle.std.specs.Prelude.{Result, Ok, Err}
use Rattle.at_nest.specs.declared.algebra.Member.{Member}
use Rattle.at_query.specs.declared.features.TextPair.{TextPair}
use Rattle.at_query.specs.declared.query.queries.Query.{Query}
use Rattle.at_query.specs.declared.answer.parts.Part.{Part}
use Rattle.at_query.specs.Keeping.{Asked, needs_shapes}
use Rattle.at_scan.specs.declared.kinds.Kind.{Kind}
use Rattle.at_scan.specs.declared.fields.Field.{Field}
use Rattle.at_scan.specs.declared.kinds.Kind.TheVariants as kinds
use Rattle.at_scan.specs.declared.fields.Field.TheVariants as names
use Rattle.at_scan.specs.Fields.{field_of, is_no_field, is_kind, is_coordinates, is_geometry, is_properties, is_features, is_geometries}
use Rattle.at_scan.proofs.FieldNames.{kind_field, coordinates_field, geometry_field, properties_field, features_field, geometries_field}
use Rattle.at_geojson.specs.declared.atoms.atom.GeoAtom.{GeoAtom}
use Rattle.at_geojson.specs.declared.atoms.atom.Role.{Role}
use Rattle.at_geojson.specs.declared.atoms.atom.Role.TheVariants as roles
use Rattle.at_geojson.specs.declared.objects.fields.Fields.{Fields}
use Rattle.at_geom.specs.declared.shapes.Shape.{Shape}
use Rattle.at_geojson.specs.Atoms.{as_kind, IsOwn, IsOwnRole, IfOwnPart}
use Rattle.at_geojson.specs.Gathering.{seen, is_among}
use Rattle.at_geojson.specs.Objects.{value_named, kind_in, coordinates_shape, geometries_shape, feature_shape, texts_named, kept_texts, FeaturesSeen, JoinsFeature, IsRoleOf, MakesObject}
use Rattle.at_geojson.specs.Fields.{value_in, put_if, AreFields, AreOwnFields, kind_in_fields, IfOwnValue, IsRoleIn, MakesFields}
use Rattle.at_geojson.proofs.ObjectOwns.{own_named, own_coordinates, own_geometries, own_features}

-- ---- one member more

kept_value : {X : Type 0} (b : Bool) (x y : X) → Some x ≡ put_if b (Some x) y
kept_value true x y = refl
kept_value false x y = refl

value_more : (wanted : List ℕ) (ms : List (Member GeoAtom)) (m : Member GeoAtom) → value_named wanted (ms ++ m ∷ []) ≡ put_if (bytes_eq m.name wanted) (value_named wanted ms) m.value
value_more wanted [] m = go (bytes_eq m.name wanted) where
  go : (b : Bool) → (if b then Some m.value else None) ≡ put_if b None m.value
  go true = refl
  go false = refl
value_more wanted (x ∷ ms) m = go (bytes_eq x.name wanted) (value_more wanted ms m) where
  go : (b : Bool) → value_named wanted (ms ++ m ∷ []) ≡ put_if (bytes_eq m.name wanted) (value_named wanted ms) m.value
      → (if b then Some x.value else value_named wanted (ms ++ m ∷ [])) ≡ put_if (bytes_eq m.name wanted) (if b then Some x.value else value_named wanted ms) m.value
  go true e = kept_value (bytes_eq m.name wanted) x.value m.value
  go false e = e

-- ---- a name that no member before has

-- of a member for which some kind asks: its value isn't there
unlike : (wanted name other : List ℕ) → bytes_eq name wanted ≡ true → bytes_eq other wanted ≡ false → bytes_eq name other ≡ false
unlike wanted name other e f = go (bytes_eq name other) refl where
  go : (b : Bool) → bytes_eq name other ≡ b → b ≡ false
  go false q = refl
  go true q = absurd (not_from_Decides (bytes_eq other wanted) (bytes_eq-Decides other wanted) f (sym ((bytes_eq-Decides name other).0 q) ∙ (bytes_eq-Decides name wanted).0 e))

unnamed : (wanted name : List ℕ) (ms : List (Member GeoAtom)) → bytes_eq name wanted ≡ true → value_named wanted ms ≡ None → is_among ms name ≡ false
unnamed wanted name [] e none = refl
unnamed wanted name (m ∷ ms) e none = go (bytes_eq m.name wanted) refl none (unnamed wanted name ms e) where
  go : (b : Bool) → bytes_eq m.name wanted ≡ b → (if b then Some m.value else value_named wanted ms) ≡ None → (value_named wanted ms ≡ None → is_among ms name ≡ false) → is_among (m ∷ ms) name ≡ false
  go true q n more = absurd (none-some m.value (sym n))
  go false q n more = or_from (bytes_eq name m.name) (is_among ms name) (unlike wanted name m.name e q) (more n)

pub field_absent : (field : Field) (f : Fields) (ms : List (Member GeoAtom)) (name : List ℕ) → field ≡ field_of name → is_no_field field ≡ false → AreFields f ms → value_in field f ≡ None → is_among ms name ≡ false
field_absent names.Kind f ms name e b h none = unnamed (codes "type") name ms (sym (kind_field name) ∙ ap is_kind (sym e)) (sym h.kind ∙ none)
field_absent names.Coordinates f ms name e b h none = unnamed (codes "coordinates") name ms (sym (coordinates_field name) ∙ ap is_coordinates (sym e)) (sym h.coordinates ∙ none)
field_absent names.Geometry f ms name e b h none = unnamed (codes "geometry") name ms (sym (geometry_field name) ∙ ap is_geometry (sym e)) (sym h.geometry ∙ none)
field_absent names.Properties f ms name e b h none = unnamed (codes "properties") name ms (sym (properties_field name) ∙ ap is_properties (sym e)) (sym h.properties ∙ none)
field_absent names.Features f ms name e b h none = unnamed (codes "features") name ms (sym (features_field name) ∙ ap is_features (sym e)) (sym h.features ∙ none)
field_absent names.Geometries f ms name e b h none = unnamed (codes "geometries") name ms (sym (geometries_field name) ∙ ap is_geometries (sym e)) (sym h.geometries ∙ none)
field_absent names.Other f ms name e b h none = absurd (true≢false b)

-- one member more
pub fields_more : (f g : Fields) (ms : List (Member GeoAtom)) (m : Member GeoAtom) (field : Field) → field ≡ field_of m.name → AreFields f ms
    → g.kind ≡ put_if (is_kind field) f.kind m.value
    → g.coordinates ≡ put_if (is_coordinates field) f.coordinates m.value
    → g.geometry ≡ put_if (is_geometry field) f.geometry m.value
    → g.properties ≡ put_if (is_properties field) f.properties m.value
    → g.features ≡ put_if (is_features field) f.features m.value
    → g.geometries ≡ put_if (is_geometries field) f.geometries m.value
    → AreFields g (ms ++ m ∷ [])
fields_more f g ms m field same h e0 e1 e2 e3 e4 e5 = record {
  kind = e0 ∙ (ap (λ b. put_if b f.kind m.value) (ap is_kind same ∙ kind_field m.name) ∙ (ap (λ o. put_if (bytes_eq m.name (codes "type")) o m.value) h.kind ∙ sym (value_more (codes "type") ms m)));
  coordinates = e1 ∙ (ap (λ b. put_if b f.coordinates m.value) (ap is_coordinates same ∙ coordinates_field m.name) ∙ (ap (λ o. put_if (bytes_eq m.name (codes "coordinates")) o m.value) h.coordinates ∙ sym (value_more (codes "coordinates") ms m)));
  geometry = e2 ∙ (ap (λ b. put_if b f.geometry m.value) (ap is_geometry same ∙ geometry_field m.name) ∙ (ap (λ o. put_if (bytes_eq m.name (codes "geometry")) o m.value) h.geometry ∙ sym (value_more (codes "geometry") ms m)));
  properties = e3 ∙ (ap (λ b. put_if b f.properties m.value) (ap is_properties same ∙ properties_field m.name) ∙ (ap (λ o. put_if (bytes_eq m.name (codes "properties")) o m.value) h.properties ∙ sym (value_more (codes "properties") ms m)));
  features = e4 ∙ (ap (λ b. put_if b f.features m.value) (ap is_features same ∙ features_field m.name) ∙ (ap (λ o. put_if (bytes_eq m.name (codes "features")) o m.value) h.features ∙ sym (value_more (codes "features") ms m)));
  geometries = e5 ∙ (ap (λ b. put_if b f.geometries m.value) (ap is_geometries same ∙ geometries_field m.name) ∙ (ap (λ o. put_if (bytes_eq m.name (codes "geometries")) o m.value) h.geometries ∙ sym (value_more (codes "geometries") ms m)));
}

-- ---- what is made of them

pub own_fields : (asked : Asked) (f : Fields) (ms : List (Member GeoAtom)) → AreFields f ms → All (λ (m : Member GeoAtom). IsOwn asked m.value) ms → AreOwnFields asked f
own_fields asked f ms h own = record {
  coordinates = subst (IfOwnValue asked) (sym h.coordinates) (own_named asked (codes "coordinates") ms own);
  geometry = subst (IfOwnValue asked) (sym h.geometry) (own_named asked (codes "geometry") ms own);
  features = subst (IfOwnValue asked) (sym h.features) (own_named asked (codes "features") ms own);
  geometries = subst (IfOwnValue asked) (sym h.geometries) (own_named asked (codes "geometries") ms own);
}

pub kind_of_fields : (f : Fields) (ms : List (Member GeoAtom)) → AreFields f ms → kind_in_fields f ≡ kind_in ms
kind_of_fields f ms h = ap (seen None as_kind) h.kind

coordinates_role : (query : Query) (at : ℕ) (kind : Kind) (f : Fields) (ms : List (Member GeoAtom)) (role : Role) → AreFields f ms → role ≡ roles.Geometry (coordinates_shape (needs_shapes query) at kind f.coordinates)
    → role ≡ roles.Geometry (coordinates_shape (needs_shapes query) at kind (value_named (codes "coordinates") ms))
coordinates_role query at kind f ms role h e = e ∙ ap (λ o. roles.Geometry (coordinates_shape (needs_shapes query) at kind o)) h.coordinates

pub role_of_fields : (query : Query) (at : ℕ) (kind : Option Kind) (f : Fields) (ms : List (Member GeoAtom)) (role : Role) → AreFields f ms → IsRoleIn query at kind f role → IsRoleOf query at kind ms role
role_of_fields query at None f ms role h e = e
role_of_fields query at (Some kinds.FeatureCollection) f ms role h (p, e, s) = (p, e, subst (λ o. FeaturesSeen query at o p) h.features s)
role_of_fields query at (Some kinds.Feature) f ms role h (p, e, j) = (p, e, subst (λ o. JoinsFeature query at (feature_shape o) (texts_named (value_named (codes "properties") ms)) p) h.geometry (subst (λ o. JoinsFeature query at (feature_shape f.geometry) (texts_named o) p) h.properties j))
role_of_fields query at (Some kinds.GeometryCollection) f ms role h e = e ∙ ap (λ o. roles.Geometry (geometries_shape at o)) h.geometries
role_of_fields query at (Some kinds.Point) f ms role h e = coordinates_role query at kinds.Point f ms role h e
role_of_fields query at (Some kinds.MultiPoint) f ms role h e = coordinates_role query at kinds.MultiPoint f ms role h e
role_of_fields query at (Some kinds.LineString) f ms role h e = coordinates_role query at kinds.LineString f ms role h e
role_of_fields query at (Some kinds.MultiLineString) f ms role h e = coordinates_role query at kinds.MultiLineString f ms role h e
role_of_fields query at (Some kinds.Polygon) f ms role h e = coordinates_role query at kinds.Polygon f ms role h e
role_of_fields query at (Some kinds.MultiPolygon) f ms role h e = coordinates_role query at kinds.MultiPolygon f ms role h e

pub object_of_fields : (query : Query) (at : ℕ) (f : Fields) (ms : List (Member GeoAtom)) (texts : List TextPair) (r : GeoAtom) → AreFields f ms → texts ≡ kept_texts query.tests ms → MakesFields query at f texts r → MakesObject query at ms r
object_of_fields query at f ms texts r h t (inl (k, e, q)) = inl (sym (kind_of_fields f ms h) ∙ k, sym t ∙ e, q)
object_of_fields query at f ms texts r h t (inr (o, q, a, e, i)) = inr (o, q, a, e ∙ t, role_of_fields query at (kind_in ms) f ms o.roles.value.role h (subst (λ k. IsRoleIn query at k f o.roles.value.role) (kind_of_fields f ms h) i))

pub own_feature : (asked : Asked) (at : ℕ) (shape : Result Shape Fault) (texts : Result (List TextPair) Fault) (r : Result Part Fault) → JoinsFeature asked.query at shape texts r → IfOwnPart asked r
own_feature asked at (Ok shape) (Ok texts) r (part, e, p) = subst (IfOwnPart asked) (sym e) (record { at = at; shape = shape; texts = texts } ∷ [], p)
own_feature asked at (Ok shape) (Err g) r e = subst (IfOwnPart asked) (sym e) tt
own_feature asked at (Err f) (Ok texts) r e = subst (IfOwnPart asked) (sym e) tt
own_feature asked at (Err f) (Err g) r (first, e, n) = subst (IfOwnPart asked) (sym e) tt

pub own_role : (asked : Asked) (at : ℕ) (kind : Option Kind) (f : Fields) (role : Role) → AreOwnFields asked f → IsRoleIn asked.query at kind f role → IsOwnRole asked role
own_role asked at None f role own e = subst (IsOwnRole asked) (sym e) tt
own_role asked at (Some kinds.FeatureCollection) f role own (p, e, s) = subst (IsOwnRole asked) (sym e) (own_features asked at f.features p s own.features)
own_role asked at (Some kinds.Feature) f role own (p, e, j) = subst (IsOwnRole asked) (sym e) (own_feature asked at (feature_shape f.geometry) (texts_named f.properties) p j)
own_role asked at (Some kinds.GeometryCollection) f role own e = subst (IsOwnRole asked) (sym e) (own_geometries asked at f.geometries own.geometries)
own_role asked at (Some kinds.Point) f role own e = subst (IsOwnRole asked) (sym e) (own_coordinates asked at kinds.Point f.coordinates own.coordinates)
own_role asked at (Some kinds.MultiPoint) f role own e = subst (IsOwnRole asked) (sym e) (own_coordinates asked at kinds.MultiPoint f.coordinates own.coordinates)
own_role asked at (Some kinds.LineString) f role own e = subst (IsOwnRole asked) (sym e) (own_coordinates asked at kinds.LineString f.coordinates own.coordinates)
own_role asked at (Some kinds.MultiLineString) f role own e = subst (IsOwnRole asked) (sym e) (own_coordinates asked at kinds.MultiLineString f.coordinates own.coordinates)
own_role asked at (Some kinds.Polygon) f role own e = subst (IsOwnRole asked) (sym e) (own_coordinates asked at kinds.Polygon f.coordinates own.coordinates)
own_role asked at (Some kinds.MultiPolygon) f role own e = subst (IsOwnRole asked) (sym e) (own_coordinates asked at kinds.MultiPolygon f.coordinates own.coordinates)
