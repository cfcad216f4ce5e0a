-- What the values of a GeoJSON text mean by the roles in which they stand, from the root down, and what is wrong with
-- them (RFC 7946 sections 2, 3.1, 3.2 and 3.3). Members that a role doesn't name are passed over, also those that
-- section 7.1 forbids there; a feature's geometry and properties may be missing.
use Rattle.std.specs.Prelude.{ℕ, if◌then◌else◌, codes, List, [], ◌∷◌, ◌++◌, map, Option, Some, None}
use Rattle.at_text.specs.declared.faults.Fault.{Fault}
use Rattle.at_text.specs.declared.faults.FaultKind.TheVariants.{Form}
use Rattle.at_text.specs.Faults.{fault_at}
use Rattle.at_fixed.specs.declared.rounding.Coords.{Coords}
use Rattle.at_geom.specs.declared.shapes.Shape.{Shape}
use Rattle.at_lex.specs.Strings.{units_of}
use Rattle.at_lex.specs.Runs.{the_null}
use Rattle.at_geom.specs.Shapes.{empty_shape, both}
use Rattle.at_wkt.specs.Meaning.{shape_of, faults_of}
use Rattle.at_nest.specs.Tree.{Tree, literal, number, text, array, object, Trees, no_trees, tree_and, Members}
use Rattle.at_nest.specs.Tree.{no_members, member_and, offset_of}
use Rattle.at_query.specs.declared.features.TextPair.{TextPair}
use Rattle.at_query.specs.declared.features.Feature.{Feature}
use Rattle.at_scan.specs.declared.kinds.Kind.{Kind}
use Rattle.at_scan.specs.declared.kinds.Kind.TheVariants as kinds
use Rattle.at_geojson.specs.Names.{is_named, member_named, kind_of, items_of}
use Rattle.at_geojson.specs.Coordinates.{geometry_of}

-- the shape of a value in the role of a geometry, and its faults
pub record GeometryRead : Type 0 where
  pub shape : Shape
  pub faults : List Fault

-- the features of a value, and its faults
pub record Features : Type 0 where
  pub features : List Feature
  pub faults : List Fault

-- Form at the offset, and no other fault
abbrev pub not_geometry : ℕ → GeometryRead
not_geometry at = record { shape = empty_shape; faults = fault_at Form at ∷ [] }

abbrev pub not_features : ℕ → Features
not_features at = record { features = []; faults = fault_at Form at ∷ [] }

abbrev pub both_read : GeometryRead → GeometryRead → GeometryRead
both_read a b = record { shape = both a.shape b.shape; faults = a.faults ++ b.faults }

abbrev pub all_features : List Features → Features
all_features [] = record { features = []; faults = [] }
all_features (a ∷ rest) =
    let b = all_features rest in
    record { features = a.features ++ b.features; faults = a.faults ++ b.faults }

-- the members whose value is a string, as pairs of units
abbrev pub texts_of : Members → List TextPair
texts_of no_members = []
texts_of (member_and name i (text j cs) ms) = record { name = units_of name; value = units_of cs } ∷ texts_of ms
texts_of (member_and name i t ms) = texts_of ms

-- the member `properties` of a feature: missing, null or an object
abbrev pub properties_texts : Option Tree → List TextPair
properties_texts (Some (object at ms)) = texts_of ms
properties_texts _ = []

abbrev pub properties_faults : Option Tree → List Fault
properties_faults None = []
properties_faults (Some (literal at the_null)) = []
properties_faults (Some (object at ms)) = []
properties_faults (Some t) = fault_at Form (offset_of t) ∷ []

abbrev pub feature_of : ℕ → GeometryRead → List TextPair → Feature
feature_of at geometry texts = record { at = at; shape = geometry.shape; texts = texts }

-- a root geometry is one feature without texts
abbrev pub lone_geometry : ℕ → GeometryRead → Features
lone_geometry at geometry = record { features = feature_of at geometry [] ∷ []; faults = geometry.faults }

module _ (digits : ℕ) (how : Coords) where
  -- coordinates of the kind: Form at the geometry where they are missing, Form at the coordinates where they have not
  -- its form, else the faults inside them
  abbrev pub coordinates_reading : ℕ → Kind → Option Tree → GeometryRead
  coordinates_reading at kind None = not_geometry at
  coordinates_reading at kind (Some t) = elim (geometry_of kind t) [
    | None ↦ not_geometry (offset_of t)
    | Some g ↦ record { shape = shape_of digits how g; faults = faults_of digits how g }
  ]

  -- an object in the role of a geometry, by the kind that it says it is; collected is its reading as a collection
  abbrev pub kind_reading : ℕ → Members → GeometryRead → Option Kind → GeometryRead
  kind_reading at ms collected None = not_geometry at
  kind_reading at ms collected (Some kinds.FeatureCollection) = not_geometry at
  kind_reading at ms collected (Some kinds.Feature) = not_geometry at
  kind_reading at ms collected (Some kinds.GeometryCollection) = collected
  kind_reading at ms collected (Some kind) = coordinates_reading at kind (member_named (codes "coordinates") ms)

  abbrev mutual
    -- a value in the role of a geometry
    pub geometry_reading : Tree → GeometryRead
    geometry_reading (object at ms) = kind_reading at ms (collection_reading at ms) (kind_of ms)
    geometry_reading (array at ts) = not_geometry at
    geometry_reading (text at cs) = not_geometry at
    geometry_reading (number at n) = not_geometry at
    geometry_reading (literal at l) = not_geometry at

    -- the members of a geometry collection at the offset: its member `geometries` is an array of geometries, else Form
    -- at the collection
    pub collection_reading : ℕ → Members → GeometryRead
    collection_reading at no_members = not_geometry at
    collection_reading at (member_and name i t ms) = if is_named (codes "geometries") name then geometries_reading at t
        else collection_reading at ms

    pub geometries_reading : ℕ → Tree → GeometryRead
    geometries_reading at (array i ts) = items_reading ts
    geometries_reading at (object i ms) = not_geometry at
    geometries_reading at (text i cs) = not_geometry at
    geometries_reading at (number i n) = not_geometry at
    geometries_reading at (literal i l) = not_geometry at

    pub items_reading : Trees → GeometryRead
    items_reading no_trees = record { shape = empty_shape; faults = [] }
    items_reading (tree_and t ts) = both_read (geometry_reading t) (items_reading ts)

  -- the member `geometry` of a feature: missing or null, or a geometry
  abbrev pub geometry_member_reading : Option Tree → GeometryRead
  geometry_member_reading None = record { shape = empty_shape; faults = [] }
  geometry_member_reading (Some (literal at the_null)) = record { shape = empty_shape; faults = [] }
  geometry_member_reading (Some t) = geometry_reading t

  -- an object in the role of a feature
  abbrev pub feature_reading : ℕ → Members → Features
  feature_reading at ms =
      let geometry = geometry_member_reading (member_named (codes "geometry") ms) in
      let properties = member_named (codes "properties") ms in
      record {
        features = feature_of at geometry (properties_texts properties) ∷ [];
        faults = geometry.faults ++ properties_faults properties;
      }

  abbrev pub if_feature : ℕ → Members → Option Kind → Features
  if_feature at ms (Some kinds.Feature) = feature_reading at ms
  if_feature at ms _ = not_features at

  -- an item of a feature collection
  abbrev pub item_reading : Tree → Features
  item_reading (object at ms) = if_feature at ms (kind_of ms)
  item_reading t = not_features (offset_of t)

  -- the member `features` of a collection at the offset: an array of features, else Form at the collection
  abbrev pub features_reading : ℕ → Option Tree → Features
  features_reading at (Some (array i ts)) = all_features (map item_reading (items_of ts))
  features_reading at _ = not_features at

  abbrev pub root_of_kind : ℕ → Members → Option Kind → Features
  root_of_kind at ms None = not_features at
  root_of_kind at ms (Some kinds.FeatureCollection) = features_reading at (member_named (codes "features") ms)
  root_of_kind at ms (Some kinds.Feature) = feature_reading at ms
  root_of_kind at ms (Some kind) = lone_geometry at (geometry_reading (object at ms))

  -- the whole text
  abbrev pub root_reading : Tree → Features
  root_reading (object at ms) = root_of_kind at ms (kind_of ms)
  root_reading t = not_features (offset_of t)

  -- all features of a tree, and all its Form, Short, Ring, Scale and Range faults
  abbrev pub features_of : Tree → List Feature
  features_of t = (root_reading t).features

  abbrev pub role_faults_of : Tree → List Fault
  role_faults_of t = (root_reading t).faults
