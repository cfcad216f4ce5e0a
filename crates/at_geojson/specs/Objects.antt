-- What the private functions make of the members of an object. Only contracts of private functions cite this.
use Rattle.std.specs.Prelude.{◌≡◌, ◌⊎◌, ℕ, Bool, true, false, if◌then◌else◌, bytes_eq, codes, List, [], ◌∷◌, Option}
use Rattle.std.specs.Prelude.{Some, None, Result, Ok, Err}
use Rattle.at_text.specs.Faults.{fault_at}
use Rattle.at_text.specs.declared.faults.Fault.{Fault}
use Rattle.at_text.specs.declared.faults.FaultKind.TheVariants.{Form}
use Rattle.at_geom.specs.declared.shapes.Shape.{Shape}
use Rattle.at_geom.specs.Shapes.{empty_shape, of_points, of_lines, of_polygons}
use Rattle.at_nest.specs.declared.algebra.Member.{Member}
use Rattle.at_query.specs.declared.features.TextPair.{TextPair}
use Rattle.at_query.specs.declared.query.queries.Query.{Query}
use Rattle.at_query.specs.declared.query.queries.Test.{Test}
use Rattle.at_query.specs.declared.answer.parts.Part.{Part}
use Rattle.at_query.specs.Parts.{IsPart}
use Rattle.at_query.specs.Keeping.{kept, needs_shapes, asks_pair}
use Rattle.at_scan.specs.declared.kinds.Kind.{Kind}
use Rattle.at_scan.specs.declared.kinds.Kind.TheVariants as kinds
use Rattle.at_geojson.specs.declared.atoms.atom.GeoAtom.{GeoAtom}
use Rattle.at_geojson.specs.declared.atoms.atom.GeoAtom.TheVariants as atoms
use Rattle.at_geojson.specs.declared.atoms.atom.ObjectAtom.{ObjectAtom}
use Rattle.at_geojson.specs.declared.atoms.atom.Role.{Role}
use Rattle.at_geojson.specs.declared.atoms.atom.Role.TheVariants as roles
use Rattle.at_geojson.specs.Atoms.{at_of, is_empty, is_null, as_position, as_points, as_lists, as_area, as_areas}
use Rattle.at_geojson.specs.Atoms.{as_kind, as_text, as_texts, as_geometries, as_features, role_geometry, role_of}
use Rattle.at_geojson.specs.Atoms.{PositionView, PointsView, ListsView, AreasView}
use Rattle.at_geojson.specs.Gathering.{seen, IsFirst}

-- the value of the first member of the name
abbrev pub value_named : List ℕ → List (Member GeoAtom) → Option GeoAtom
value_named name [] = None
value_named name (m ∷ ms) = if bytes_eq m.name name then Some m.value else value_named name ms

abbrev pub kind_in : List (Member GeoAtom) → Option Kind
kind_in ms = seen None as_kind (value_named (codes "type") ms)

-- the shape, unless there is a fault
abbrev pub unless : Option Fault → Shape → Result Shape Fault
unless None shape = Ok shape
unless (Some fault) shape = Err fault

-- an atom as coordinates: nothing of an empty array, Form where it has not the role, and else what the role is
abbrev pub shape_seen : {X : Type 0} → GeoAtom → Option X → (X → Result Shape Fault) → Result Shape Fault
shape_seen a view f = if is_empty a then Ok empty_shape else seen (Err (fault_at Form (at_of a))) f view

abbrev pub point_shape : Bool → GeoAtom → Result Shape Fault
point_shape needs a = shape_seen a (as_position a) (λ (v : PositionView).
    unless v.fault (of_points (kept needs (v.pos ∷ []))))

abbrev pub points_shape : GeoAtom → Result Shape Fault
points_shape a = shape_seen a (as_points a) (λ (v : PointsView). unless v.as_points (of_points v.path))

abbrev pub line_shape : Bool → GeoAtom → Result Shape Fault
line_shape needs a = shape_seen a (as_points a)
    (λ (v : PointsView). unless v.as_line (of_lines (kept needs (v.path ∷ []))))

abbrev pub lines_shape : GeoAtom → Result Shape Fault
lines_shape a = shape_seen a (as_lists a) (λ (v : ListsView). unless v.as_lines (of_lines v.paths))

abbrev pub polygon_shape : Bool → GeoAtom → Result Shape Fault
polygon_shape needs a = shape_seen a (as_area a)
    (λ (v : ListsView). unless v.as_rings (of_polygons (kept needs (record { rings = v.paths } ∷ []))))

abbrev pub polygons_shape : GeoAtom → Result Shape Fault
polygons_shape a = shape_seen a (as_areas a) (λ (v : AreasView). unless v.fault (of_polygons v.polygons))

-- the texts of properties, and Form where the value has not the role
abbrev pub texts_in : GeoAtom → Result (List TextPair) Fault
texts_in a = if is_null a then Ok [] else seen (Err (fault_at Form (at_of a))) (λ pairs. Ok pairs) (as_texts a)

abbrev pub texts_named : Option GeoAtom → Result (List TextPair) Fault
texts_named o = seen (Ok []) texts_in o

abbrev pub kind_shape : Bool → Kind → GeoAtom → Result Shape Fault
kind_shape needs kinds.Point a = point_shape needs a
kind_shape needs kinds.MultiPoint a = points_shape a
kind_shape needs kinds.LineString a = line_shape needs a
kind_shape needs kinds.MultiLineString a = lines_shape a
kind_shape needs kinds.Polygon a = polygon_shape needs a
kind_shape needs kinds.MultiPolygon a = polygons_shape a
kind_shape needs _ a = Err (fault_at Form (at_of a))

-- a geometry at the offset, of its member `coordinates`; a collection, of its member `geometries`
abbrev pub coordinates_shape : Bool → ℕ → Kind → Option GeoAtom → Result Shape Fault
coordinates_shape needs at kind o = seen (Err (fault_at Form at)) (kind_shape needs kind) o

abbrev pub geometries_shape : ℕ → Option GeoAtom → Result Shape Fault
geometries_shape at o = seen (Err (fault_at Form at)) (λ a. seen (Err (fault_at Form at)) (λ r. r) (as_geometries a)) o

-- a feature's shape, of its member `geometry`
abbrev pub feature_shape : Option GeoAtom → Result Shape Fault
feature_shape o = seen (Ok empty_shape) (λ a. if is_null a then Ok empty_shape else role_geometry (at_of a) (role_of a))
    o

-- the features of an array at the offset, or Form where the value is none
abbrev pub FeaturesSeen : Query → ℕ → Option GeoAtom → Result Part Fault → Type 0
FeaturesSeen query at None r = r ≡ Err (fault_at Form at)
FeaturesSeen query at (Some a) r = (is_empty a ≡ true → (part : Part) × (r ≡ Ok part) × IsPart query [] part)
    × (is_empty a ≡ false → r ≡ seen (Err (fault_at Form at)) (λ p. p) (as_features a))

-- the part of a feature at the offset, of its shape and its texts, or the first fault of the two
abbrev pub JoinsFeature : Query → ℕ → Result Shape Fault → Result (List TextPair) Fault → Result Part Fault → Type 0
JoinsFeature query at (Ok shape) (Ok texts) r = (part : Part) × (r ≡ Ok part)
    × IsPart query (record { at = at; shape = shape; texts = texts } ∷ []) part
JoinsFeature query at (Ok shape) (Err g) r = r ≡ Err g
JoinsFeature query at (Err f) (Ok texts) r = r ≡ Err f
JoinsFeature query at (Err f) (Err g) r = IsFirst f g r

-- a role by the kind, of the members
abbrev pub IsRoleOf : Query → ℕ → Option Kind → List (Member GeoAtom) → Role → Type 0
IsRoleOf query at None ms role = role ≡ roles.Nothing
IsRoleOf query at (Some kinds.FeatureCollection) ms role = (p : Result Part Fault) × (role ≡ roles.Collection p)
    × FeaturesSeen query at (value_named (codes "features") ms) p
IsRoleOf query at (Some kinds.Feature) ms role = (p : Result Part Fault) × (role ≡ roles.Feature p)
    × JoinsFeature query at (feature_shape (value_named (codes "geometry") ms))
    (texts_named (value_named (codes "properties") ms)) p
IsRoleOf query at (Some kinds.GeometryCollection) ms role =
    role ≡ roles.Geometry (geometries_shape at (value_named (codes "geometries") ms))
IsRoleOf query at (Some kind) ms role =
    role ≡ roles.Geometry (coordinates_shape (needs_shapes query) at kind (value_named (codes "coordinates") ms))

-- a text before others, where the query asks for it
abbrev pub pair_kept : List Test → List ℕ → Option (List ℕ) → List TextPair → List TextPair
pair_kept tests name None rest = rest
pair_kept tests name (Some value) rest = if asks_pair tests name value then record {
  name = name;
  value = value;
} ∷ rest else rest

-- the texts of members for which the query asks, as they are kept
abbrev pub kept_texts : List Test → List (Member GeoAtom) → List TextPair
kept_texts tests [] = []
kept_texts tests (m ∷ ms) = pair_kept tests m.name (as_text m.value) (kept_texts tests ms)

-- no kind and no texts, or both of them
abbrev pub MakesObject : Query → ℕ → List (Member GeoAtom) → GeoAtom → Type 0
MakesObject query at ms r = ((kind_in ms ≡ None) × (kept_texts query.tests ms ≡ []) × (r ≡ atoms.Void at))
    ⊎ ((o : ObjectAtom) × (r ≡ atoms.Object o) × (o.at ≡ at) × (o.roles.value.texts ≡ kept_texts query.tests ms)
    × IsRoleOf query at (kind_in ms) ms o.roles.value.role)
