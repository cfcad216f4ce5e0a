-- The members of an object for which some kind asks. Only contracts of private functions cite this.
use Rattle.std.specs.Prelude.{◌≡◌, ◌⊎◌, ℕ, Bool, true, false, codes, List, [], Option, Some}
use Rattle.std.specs.Prelude.{None, Result}
use Rattle.std.specs.Bool.{⊤}
use Rattle.at_text.specs.declared.faults.Fault.{Fault}
use Rattle.at_geom.specs.declared.shapes.Shape.{Shape}
use Rattle.at_nest.specs.declared.algebra.Member.{Member}
use Rattle.at_query.specs.declared.features.TextPair.{TextPair}
use Rattle.at_query.specs.declared.query.queries.Query.{Query}
use Rattle.at_query.specs.declared.answer.parts.Part.{Part}
use Rattle.at_query.specs.Keeping.{Asked, needs_shapes}
use Rattle.at_scan.specs.declared.kinds.Kind.{Kind}
use Rattle.at_scan.specs.declared.fields.Field.{Field}
use Rattle.at_scan.specs.declared.kinds.Kind.TheVariants as kinds
use Rattle.at_scan.specs.declared.fields.Field.TheVariants as names
use Rattle.at_geojson.specs.declared.atoms.atom.GeoAtom.{GeoAtom}
use Rattle.at_geojson.specs.declared.atoms.atom.GeoAtom.TheVariants as atoms
use Rattle.at_geojson.specs.declared.atoms.atom.ObjectAtom.{ObjectAtom}
use Rattle.at_geojson.specs.declared.atoms.atom.Role.{Role}
use Rattle.at_geojson.specs.declared.atoms.atom.Role.TheVariants as roles
use Rattle.at_geojson.specs.declared.objects.fields.Fields.{Fields}
use Rattle.at_geojson.specs.Atoms.{as_kind, IsOwn}
use Rattle.at_geojson.specs.Gathering.{seen}
use Rattle.at_geojson.specs.Objects.{value_named, coordinates_shape, geometries_shape, feature_shape, texts_named}
use Rattle.at_geojson.specs.Objects.{FeaturesSeen, JoinsFeature}

-- the value of the member
abbrev pub value_in : Field → Fields → Option GeoAtom
value_in names.Kind f = f.kind
value_in names.Coordinates f = f.coordinates
value_in names.Geometry f = f.geometry
value_in names.Properties f = f.properties
value_in names.Features f = f.features
value_in names.Geometries f = f.geometries
value_in names.Other f = None

-- the value that was there, or this one
abbrev pub put_first : {X : Type 0} → Option X → X → Option X
put_first None x = Some x
put_first (Some y) x = Some y

abbrev pub put_if : {X : Type 0} → Bool → Option X → X → Option X
put_if true o x = put_first o x
put_if false o x = o

-- the first members of these names
pub record AreFields (f : Fields) (ms : List (Member GeoAtom)) : Type 0 where
  pub kind : f.kind ≡ value_named (codes "type") ms
  pub coordinates : f.coordinates ≡ value_named (codes "coordinates") ms
  pub geometry : f.geometry ≡ value_named (codes "geometry") ms
  pub properties : f.properties ≡ value_named (codes "properties") ms
  pub features : f.features ≡ value_named (codes "features") ms
  pub geometries : f.geometries ≡ value_named (codes "geometries") ms

abbrev pub kind_in_fields : Fields → Option Kind
kind_in_fields f = seen None as_kind f.kind

abbrev pub IfOwnValue : Asked → Option GeoAtom → Type 0
IfOwnValue asked None = ⊤
IfOwnValue asked (Some a) = IsOwn asked a

pub record AreOwnFields (asked : Asked) (f : Fields) : Type 0 where
  pub coordinates : IfOwnValue asked f.coordinates
  pub geometry : IfOwnValue asked f.geometry
  pub features : IfOwnValue asked f.features
  pub geometries : IfOwnValue asked f.geometries

-- the role of a feature at the offset, of its shape and its texts
abbrev pub IsFeatureOf : Query → ℕ → Result Shape Fault → Result (List TextPair) Fault → Role → Type 0
IsFeatureOf query at shape texts role = (p : Result Part Fault) × (role ≡ roles.Feature p)
    × JoinsFeature query at shape texts p

-- a role by the kind
abbrev pub IsRoleIn : Query → ℕ → Option Kind → Fields → Role → Type 0
IsRoleIn query at None f role = role ≡ roles.Nothing
IsRoleIn query at (Some kinds.FeatureCollection) f role = (p : Result Part Fault) × (role ≡ roles.Collection p)
    × FeaturesSeen query at f.features p
IsRoleIn query at (Some kinds.Feature) f role =
    IsFeatureOf query at (feature_shape f.geometry) (texts_named f.properties) role
IsRoleIn query at (Some kinds.GeometryCollection) f role = role ≡ roles.Geometry (geometries_shape at f.geometries)
IsRoleIn query at (Some kind) f role =
    role ≡ roles.Geometry (coordinates_shape (needs_shapes query) at kind f.coordinates)

-- no kind and no texts, or both of them
abbrev pub MakesFields : Query → ℕ → Fields → List TextPair → GeoAtom → Type 0
MakesFields query at f texts r = ((kind_in_fields f ≡ None) × (texts ≡ []) × (r ≡ atoms.Void at))
    ⊎ ((o : ObjectAtom) × (r ≡ atoms.Object o) × (o.at ≡ at) × (o.roles.value.texts ≡ texts)
    × IsRoleIn query at (kind_in_fields f) f o.roles.value.role)
