-- What is kept of a value of a text in each role, and that it is what the definitions read of the value in that role.
use Rattle.std.specs.Prelude.{◌≡◌, ◌⊎◌, ℕ, ℤ, pos, Bool, true, false, if◌then◌else◌, nat_lt, List, [], ◌∷◌, All, map}
use Rattle.std.specs.Prelude.{flat_map, length, Option, Some, None, is_some, option_and_then, Result, Ok, Err}
use Rattle.std.specs.Bool.{⊤}
use Rattle.std.specs.List.{list_any}
use Rattle.std.specs.declared.boxed.Box.{Box}
use Rattle.std.specs.declared.alloc.Global.{Global}
use Rattle.at_text.specs.Faults.{fault_at, first_of}
use Rattle.at_text.specs.declared.faults.Fault.{Fault}
use Rattle.at_text.specs.declared.faults.FaultKind.TheVariants.{Form}
use Rattle.at_fixed.specs.Numerals.{Numeral}
use Rattle.at_geom.specs.declared.positions.Pos.{Pos}
use Rattle.at_geom.specs.declared.shapes.Polygon.{Polygon}
use Rattle.at_geom.specs.declared.shapes.Shape.{Shape}
use Rattle.at_geom.specs.Segments.{IsInRange}
use Rattle.at_geom.specs.Shapes.{line_fault, ring_fault, ArePathsInRange, ArePolygonsInRange, IsShapeInRange}
use Rattle.at_geom.specs.Closed.{last_of}
use Rattle.at_wkt.specs.Positions.{Position, Positions, is_faultless, number_fault, value_of, position_faults}
use Rattle.at_wkt.specs.Positions.{items_faults, faults_of_line, faults_of_ring, pos_of, path_of}
use Rattle.at_geom.specs.Shapes.{empty_shape}
use Rattle.at_wkt.specs.Meaning.{polygons_of, faults_of_area}
use Rattle.at_nest.specs.Tree.{Tree, literal, array, object, Trees, Members, offset_of}
use Rattle.at_nest.specs.Folds.{trees}
use Rattle.at_nest.specs.KeptItems.{Content, OwnAtom}
use Rattle.at_nest.specs.Twins.{twins_of, twins_of_items}
use Rattle.at_lex.specs.Runs.{the_null}
use Rattle.at_query.specs.declared.query.queries.Query.{Query}
use Rattle.at_query.specs.declared.query.queries.Test.{Test}
use Rattle.at_query.specs.declared.features.TextPair.{TextPair}
use Rattle.at_query.specs.declared.features.Feature.{Feature}
use Rattle.at_query.specs.declared.answer.parts.Part.{Part}
use Rattle.at_query.specs.Parts.{IsPart}
use Rattle.at_query.specs.Keeping.{Asked, needs_shapes, asks_value, asked_texts, kept, kept_shape}
use Rattle.at_scan.specs.declared.kinds.Kind.{Kind}
use Rattle.at_scan.specs.Names.{kind_of_text}
use Rattle.at_geojson.specs.declared.atoms.atom.GeoAtom.{GeoAtom}
use Rattle.at_geojson.specs.declared.atoms.atom.GeoAtom.TheVariants as atoms
use Rattle.at_geojson.specs.declared.atoms.atom.Role.{Role}
use Rattle.at_geojson.specs.declared.atoms.atom.Role.TheVariants as roles
use Rattle.at_geojson.specs.declared.atoms.atom.Items.{Items}
use Rattle.at_geojson.specs.declared.atoms.atom.Lists.{Lists}
use Rattle.at_geojson.specs.declared.atoms.atom.SeriesAtom.{SeriesAtom}
use Rattle.at_geojson.specs.declared.atoms.atom.Track.{Track}
use Rattle.at_geojson.specs.declared.atoms.atom.TrackAtom.{TrackAtom}
use Rattle.at_geojson.specs.Names.{units_of_text, items_of}
use Rattle.at_geojson.specs.Coordinates.{each, number_at, position_of, positions_of, lists_of, areas_of, area_of}
use Rattle.at_geojson.specs.Roles.{GeometryRead, Features, geometry_reading, items_reading, item_reading, all_features}
use Rattle.at_geojson.specs.Roles.{root_reading, texts_of}

-- ---- what an atom keeps, by roles

-- the first fault of equal names
abbrev pub twin_of : GeoAtom → Option Fault
twin_of (atoms.Twin fault) = Some fault
twin_of _ = None

abbrev pub at_of : GeoAtom → ℕ
at_of (atoms.Twin fault) = fault.at
at_of (atoms.Null at) = at
at_of (atoms.Plain at) = at
at_of (atoms.Text a) = a.at
at_of (atoms.Number a) = a.at
at_of (atoms.BadNumber fault) = fault.at
at_of (atoms.Empty at) = at
at_of (atoms.Position a) = a.at
at_of (atoms.BadPosition a) = a.at
at_of (atoms.Points a) = a.at
at_of (atoms.Lists a) = a.at
at_of (atoms.Areas a) = a.at
at_of (atoms.Other a) = a.at
at_of (atoms.Items a) = a.at
at_of (atoms.Void at) = at
at_of (atoms.Object a) = a.at
at_of (atoms.Run items) = 0
at_of (atoms.Series s) = s.at
at_of (atoms.Track t) = t.at

-- values with their first fault: what the values are counts only where there is none
pub record NumberView : Type 0 where
  pub value : ℤ
  pub fault : Option Fault

pub record PositionView : Type 0 where
  pub pos : Pos
  pub fault : Option Fault

pub record PointsView : Type 0 where
  pub path : List Pos
  pub as_points : Option Fault
  pub as_line : Option Fault
  pub as_ring : Option Fault

pub record ListsView : Type 0 where
  pub paths : List (List Pos)
  pub as_lines : Option Fault
  pub as_rings : Option Fault

pub record TrackView : Type 0 where
  pub first : Option Pos
  pub last : Option Pos
  pub count : ℕ
  pub fault : Option Fault
  pub path : List Pos

pub record AreasView : Type 0 where
  pub polygons : List Polygon
  pub fault : Option Fault

abbrev pub lists_view : Lists → ListsView
lists_view l = record { paths = l.paths.items; as_lines = l.as_lines; as_rings = l.as_rings }

abbrev pub track_view : Track → TrackView
track_view t = record { first = t.first; last = t.last; count = t.count; fault = t.fault; path = t.path.items }

-- a count, up to four
abbrev pub to_four : ℕ → ℕ
to_four n = if nat_lt n 4 then n else 4

abbrev pub nowhere : Pos
nowhere = record { x = pos 0; y = pos 0 }

abbrev pub as_number : GeoAtom → Option NumberView
as_number (atoms.Number a) = Some (record { value = a.value; fault = None })
as_number (atoms.BadNumber fault) = Some (record { value = pos 0; fault = Some fault })
as_number _ = None

abbrev pub as_position : GeoAtom → Option PositionView
as_position (atoms.Position a) = Some (record { pos = a.pos; fault = None })
as_position (atoms.BadPosition a) = Some (record { pos = nowhere; fault = Some a.fault })
as_position _ = None

-- no positions: a line that is short, and no ring
abbrev pub no_points : ℕ → PointsView
no_points at = record { path = []; as_points = None; as_line = line_fault 0 at; as_ring = ring_fault 0 true at }

abbrev pub as_points : GeoAtom → Option PointsView
as_points (atoms.Empty at) = Some (no_points at)
as_points (atoms.Points a) =
    let p = a.points.value in
    Some (record { path = p.path.items; as_points = p.as_points; as_line = p.as_line; as_ring = p.as_ring })
as_points _ = None

abbrev pub as_lists : GeoAtom → Option ListsView
as_lists (atoms.Empty at) = Some (record { paths = []; as_lines = None; as_rings = None })
as_lists (atoms.Lists a) = Some (lists_view a.lists.value)
as_lists _ = None

-- an area: lists of positions, at least one
abbrev pub as_area : GeoAtom → Option ListsView
as_area (atoms.Lists a) = as_lists (atoms.Lists a)
as_area _ = None

abbrev pub as_areas : GeoAtom → Option AreasView
as_areas (atoms.Empty at) = Some (record { polygons = []; fault = None })
as_areas (atoms.Areas a) = let s = a.areas.value in Some (record { polygons = s.polygons.items; fault = s.fault })
as_areas _ = None

-- the array's items one behind another: as geometries, and as features
abbrev pub both_forms : {X : Type 0} → ℕ → Result X Fault
both_forms least = Err (fault_at Form least)

abbrev pub as_geometries : GeoAtom → Option (Result Shape Fault)
as_geometries (atoms.Empty at) = Some (Ok empty_shape)
as_geometries (atoms.Position a) = Some (both_forms a.least)
as_geometries (atoms.BadPosition a) = Some (both_forms a.least)
as_geometries (atoms.Points a) = Some (both_forms a.least)
as_geometries (atoms.Lists a) = Some (both_forms a.least)
as_geometries (atoms.Areas a) = Some (both_forms a.least)
as_geometries (atoms.Other a) = Some (both_forms a.least)
as_geometries (atoms.Items a) = Some a.items.value.geometries
as_geometries _ = None

-- the features of an array that isn't empty
abbrev pub as_features : GeoAtom → Option (Result Part Fault)
as_features (atoms.Position a) = Some (both_forms a.least)
as_features (atoms.BadPosition a) = Some (both_forms a.least)
as_features (atoms.Points a) = Some (both_forms a.least)
as_features (atoms.Lists a) = Some (both_forms a.least)
as_features (atoms.Areas a) = Some (both_forms a.least)
as_features (atoms.Other a) = Some (both_forms a.least)
as_features (atoms.Items a) = Some a.items.value.features
as_features _ = None

abbrev pub is_null : GeoAtom → Bool
is_null (atoms.Null at) = true
is_null _ = false

abbrev pub is_empty : GeoAtom → Bool
is_empty (atoms.Empty at) = true
is_empty _ = false

abbrev pub as_kind : GeoAtom → Option Kind
as_kind (atoms.Text a) = a.kind
as_kind _ = None

abbrev pub unboxed : {X : Type 0} → Option (Box X Global) → Option X
unboxed None = None
unboxed (Some b) = Some b.value

-- the units of a string, where a test asks for them
abbrev pub as_text : GeoAtom → Option (List ℕ)
as_text (atoms.Text a) = unboxed a.units
as_text _ = None

abbrev pub as_texts : GeoAtom → Option (List TextPair)
as_texts (atoms.Void at) = Some []
as_texts (atoms.Object a) = Some a.roles.value.texts
as_texts _ = None

abbrev pub role_of : GeoAtom → Role
role_of (atoms.Object a) = a.roles.value.role
role_of _ = roles.Nothing

abbrev pub role_geometry : ℕ → Role → Result Shape Fault
role_geometry at (roles.Geometry g) = g
role_geometry at _ = both_forms at

abbrev pub role_item : ℕ → Role → Result Part Fault
role_item at (roles.Feature p) = p
role_item at _ = both_forms at

-- Form at the offset in both roles
abbrev pub no_roles : ℕ → Items
no_roles at = record { geometries = both_forms at; features = both_forms at }

-- what values one behind another in an array are, joined: no value has this
abbrev pub as_run : GeoAtom → Option Items
as_run (atoms.Run items) = Some items.value
as_run (atoms.Series s) = Some (no_roles s.at)
as_run (atoms.Track t) = Some (no_roles t.at)
as_run _ = None

-- ---- the same of trees

abbrev pub is_null_tree : Tree → Bool
is_null_tree (literal at the_null) = true
is_null_tree _ = false

abbrev pub array_trees : Tree → Option Trees
array_trees (array at ts) = Some ts
array_trees _ = None

abbrev pub object_members : Tree → Option Members
object_members (object at ms) = Some ms
object_members _ = None

abbrev pub is_object_tree : Tree → Bool
is_object_tree t = is_some (object_members t)

-- ---- and that they agree

-- both are there and agree, or neither is
abbrev pub Alike : {X Y : Type 0} → (X → Y → Type 0) → Option X → Option Y → Type 0
Alike R (Some x) (Some y) = R x y
Alike R None None = ⊤
Alike R _ _ = ⊥

-- the shape where there is no fault, and else the first fault
abbrev pub HasShape : Bool → Result Shape Fault → GeometryRead → Type 0
HasShape needs (Ok shape) r = (r.faults ≡ []) × (shape ≡ kept_shape needs r.shape)
HasShape needs (Err fault) r = first_of r.faults ≡ Some fault

-- the part of the features where there is no fault, and else the first fault
abbrev pub HasPart : Query → Result Part Fault → Features → Type 0
HasPart query (Ok part) fs = (fs.faults ≡ []) × IsPart query fs.features part
HasPart query (Err fault) fs = first_of fs.faults ≡ Some fault

-- the units, where a test asks for them
abbrev pub asked_units : List Test → List ℕ → Option (List ℕ)
asked_units tests units = if asks_value tests units then Some units else None

module _ (asked : Asked) where
  abbrev needs : Bool
  needs = needs_shapes asked.query

  abbrev pub IsNumber : NumberView → Numeral × ℕ → Type 0
  IsNumber v n = (v.fault ≡ first_of (number_fault asked.digits asked.how n.0 n.1))
      × (v.fault ≡ None → v.value ≡ value_of asked.digits asked.how n.0)

  abbrev pub IsPosition : PositionView → Position → Type 0
  IsPosition v p = (v.fault ≡ first_of (position_faults asked.digits asked.how p))
      × (v.fault ≡ None → v.pos ≡ pos_of asked.digits asked.how p)

  pub record IsPoints (v : PointsView) (ps : Positions) : Type 0 where
    pub as_points : v.as_points ≡ first_of (items_faults asked.digits asked.how ps.items)
    pub as_line : v.as_line ≡ first_of (faults_of_line asked.digits asked.how ps)
    pub as_ring : v.as_ring ≡ first_of (faults_of_ring asked.digits asked.how ps)
    pub path : v.as_points ≡ None → v.path ≡ kept needs (path_of asked.digits asked.how ps)

  pub record IsLists (v : ListsView) (ls : List Positions) : Type 0 where
    pub as_lines : v.as_lines ≡ first_of (flat_map (faults_of_line asked.digits asked.how) ls)
    pub as_rings : v.as_rings ≡ first_of (flat_map (faults_of_ring asked.digits asked.how) ls)
    pub lines : v.as_lines ≡ None → v.paths ≡ kept needs (map (path_of asked.digits asked.how) ls)
    pub rings : v.as_rings ≡ None → v.paths ≡ kept needs (map (path_of asked.digits asked.how) ls)

  -- where a position is, if it has no fault
  abbrev pub place_of : Position → Option Pos
  place_of p = if is_faultless asked.digits asked.how p then Some (pos_of asked.digits asked.how p) else None

  -- a position and those behind it
  pub record IsTrack (v : TrackView) (p : Position) (ps : List Position) : Type 0 where
    pub first : v.first ≡ place_of p
    pub last : v.last ≡ place_of (last_of p ps)
    pub count : v.count ≡ to_four (length (p ∷ ps))
    pub fault : v.fault ≡ first_of (items_faults asked.digits asked.how (p ∷ ps))
    pub path : v.fault ≡ None → v.path ≡ kept needs (map (pos_of asked.digits asked.how) (p ∷ ps))

  -- lists of which there is at least one
  abbrev pub IsArea : ListsView → List Positions → Type 0
  IsArea v [] = ⊥
  IsArea v (ps ∷ ls) = IsLists v (ps ∷ ls)

  pub record IsAreas (v : AreasView) (areas : List (List Positions)) : Type 0 where
    pub fault : v.fault ≡ first_of (flat_map (faults_of_area asked.digits asked.how) areas)
    pub polygons : v.fault ≡ None → v.polygons ≡ kept needs (flat_map (polygons_of asked.digits asked.how) areas)

  -- as coordinates
  pub record AreCoordinates (a : GeoAtom) (t : Tree) : Type 0 where
    pub number : Alike IsNumber (as_number a) (number_at t)
    pub position : Alike IsPosition (as_position a) (position_of t)
    pub points : Alike IsPoints (as_points a) (positions_of t)
    pub lists : Alike IsLists (as_lists a) (lists_of t)
    pub area : Alike IsArea (as_area a) (area_of t)
    pub areas : Alike IsAreas (as_areas a) (areas_of t)

  abbrev pub items_features : Trees → Features
  items_features ts = all_features (map (item_reading asked.digits asked.how) (items_of ts))

  -- an array's items as geometries and as features; of an empty one nothing is kept as features
  pub record AreItems (a : GeoAtom) (t : Tree) : Type 0 where
    pub geometries : Alike (λ r ts. HasShape needs r (items_reading asked.digits asked.how ts)) (as_geometries a)
        (array_trees t)
    pub features : is_empty a ≡ false
        → Alike (λ r ts. HasPart asked.query r (items_features ts)) (as_features a) (array_trees t)

  -- by the role, what the object is as the whole text
  abbrev pub IsRoot : ℕ → Role → Tree → Type 0
  IsRoot at roles.Nothing t = (root_reading asked.digits asked.how t).faults ≡ fault_at Form at ∷ []
  IsRoot at (roles.Geometry (Ok shape)) t = (feature : Feature)
      × (root_reading asked.digits asked.how t ≡ record { features = feature ∷ []; faults = [] })
      × (feature.at ≡ at) × (shape ≡ kept_shape needs feature.shape) × (feature.texts ≡ [])
  IsRoot at (roles.Geometry (Err fault)) t = first_of (root_reading asked.digits asked.how t).faults ≡ Some fault
  IsRoot at (roles.Feature p) t = HasPart asked.query p (root_reading asked.digits asked.how t)
  IsRoot at (roles.Collection p) t = HasPart asked.query p (root_reading asked.digits asked.how t)

  -- as a geometry, as an item of a collection of features, as properties and as the whole text
  pub record IsObject (a : GeoAtom) (t : Tree) : Type 0 where
    pub geometry : HasShape needs (role_geometry (at_of a) (role_of a)) (geometry_reading asked.digits asked.how t)
    pub item : HasPart asked.query (role_item (at_of a) (role_of a)) (item_reading asked.digits asked.how t)
    pub texts : Alike (λ kept_texts ms. kept_texts ≡ asked_texts asked.query.tests (texts_of ms)) (as_texts a)
        (object_members t)
    pub root : IsRoot (at_of a) (role_of a) t

  -- the string where a test asks for it
  abbrev pub asked_text : Option (List ℕ) → Option (List ℕ)
  asked_text (Some units) = asked_units asked.query.tests units
  asked_text None = None

  -- as a scalar
  pub record IsScalar (a : GeoAtom) (t : Tree) : Type 0 where
    pub is_null : is_null a ≡ is_null_tree t
    pub is_empty : is_empty a ≡ true → (array_trees t ≡ Some Trees.no_trees)
    pub kind : as_kind a ≡ option_and_then kind_of_text (units_of_text t)
    pub text : as_text a ≡ asked_text (units_of_text t)

  -- one value, in every role
  pub record IsRead (a : GeoAtom) (t : Tree) : Type 0 where
    pub at : at_of a ≡ offset_of t
    pub single : as_run a ≡ None
    pub scalar : IsScalar a t
    pub coordinates : AreCoordinates a t
    pub items : AreItems a t
    pub object : IsObject a t

  -- the atom is what the algebra makes of the tree: its first fault of equal names, or what it is in each role
  pub record IsFold (a : GeoAtom) (t : Tree) : Type 0 where
    pub twins : twin_of a ≡ first_of (twins_of t)
    pub read : twin_of a ≡ None → IsRead a t

  -- ---- the algebra's own atoms: coordinates are in range, and parts are of the query

  abbrev pub IsOwnPart : Part → Type 0
  IsOwnPart part = (fs : List Feature) × IsPart asked.query fs part

  abbrev pub IfOwnShape : Result Shape Fault → Type 0
  IfOwnShape (Ok shape) = IsShapeInRange shape
  IfOwnShape (Err fault) = ⊤

  abbrev pub IfOwnPart : Result Part Fault → Type 0
  IfOwnPart (Ok part) = IsOwnPart part
  IfOwnPart (Err fault) = ⊤

  abbrev pub IsOwnRole : Role → Type 0
  IsOwnRole roles.Nothing = ⊤
  IsOwnRole (roles.Geometry g) = IfOwnShape g
  IsOwnRole (roles.Feature p) = IfOwnPart p
  IsOwnRole (roles.Collection p) = IfOwnPart p

  -- what items are in both roles
  abbrev pub AreOwnItems : Items → Type 0
  AreOwnItems items = IfOwnShape items.geometries × IfOwnPart items.features

  abbrev pub IsOwn : GeoAtom → Type 0
  IsOwn (atoms.Number a) = IsInRange (record { x = a.value; y = pos 0 })
  IsOwn (atoms.Position a) = IsInRange a.pos
  IsOwn (atoms.Points a) = All IsInRange a.points.value.path.items
  IsOwn (atoms.Lists a) = ArePathsInRange a.lists.value.paths.items
  IsOwn (atoms.Areas a) = ArePolygonsInRange a.areas.value.polygons.items
  IsOwn (atoms.Items a) = AreOwnItems a.items.value
  IsOwn (atoms.Object a) = IsOwnRole a.roles.value.role
  IsOwn (atoms.Run items) = AreOwnItems items.value
  IsOwn (atoms.Series s) = ArePathsInRange s.lists.value.paths.items
  IsOwn (atoms.Track t) = All IsInRange t.track.value.path.items
  IsOwn _ = ⊤

  abbrev pub HaveItems : Items → Trees → Type 0
  HaveItems items ts = HasShape needs items.geometries (items_reading asked.digits asked.how ts)
      × HasPart asked.query items.features (items_features ts)

  -- ---- several values one behind another in an array

  -- no object of them has equal names, and some of them is an object, so that an array in which they stand is no
  -- coordinates
  pub record AreJoined (items : Items) (ts : List Tree) : Type 0 where
    pub twins : first_of (twins_of_items (trees ts)) ≡ None
    pub some : list_any is_object_tree ts ≡ true
    pub have : HaveItems items (trees ts)

  -- lists of positions, at least one, which are no items but Form from the offset on
  pub record AreSeries (at : ℕ) (v : ListsView) (ts : List Tree) : Type 0 where
    pub twins : first_of (twins_of_items (trees ts)) ≡ None
    pub lists : List Positions
    pub are : each positions_of ts ≡ Some lists
    pub area : IsArea v lists
    pub have : HaveItems (no_roles at) (trees ts)

  -- positions, at least one, which are no items but Form from the offset on
  pub record AreTracked (at : ℕ) (v : TrackView) (ts : List Tree) : Type 0 where
    pub twins : first_of (twins_of_items (trees ts)) ≡ None
    pub first : Position
    pub rest : List Position
    pub are : each position_of ts ≡ Some (first ∷ rest)
    pub track : IsTrack v first rest
    pub have : HaveItems (no_roles at) (trees ts)

  -- the atom is a run, a series or a track, and is what the algebra makes of these trees
  abbrev pub IsRun : GeoAtom → List Tree → Type 0
  IsRun a ts = ((items : Box Items Global) × (a ≡ atoms.Run items) × AreJoined items.value ts)
      ⊎ (((s : SeriesAtom) × (a ≡ atoms.Series s) × AreSeries s.at (lists_view s.lists.value) ts)
      ⊎ ((t : TrackAtom) × (a ≡ atoms.Track t) × AreTracked t.at (track_view t.track.value) ts))

  -- an atom of the algebra's own that stands for the tree, or the trees
  abbrev pub IsGeoAtom : GeoAtom → Content → Type 0
  IsGeoAtom = OwnAtom IsOwn IsFold IsRun
