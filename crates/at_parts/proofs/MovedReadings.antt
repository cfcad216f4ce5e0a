-- What the tree with all its offsets moved says is what the tree says, with the offsets of features and faults moved.
-- For `sequence_features`, `sequence_faults`, `sound_parts` and `first_syntax_fault`.
use Rattle.std.proofs.Common.{◌≡◌, ℕ, ◌+◌, Bool, if◌then◌else◌, List, [], ◌∷◌, ◌++◌, map, Option, Some, None, option_map, option_and_then, codes, refl, ◌∙◌, ap, arith}
use Rattle.std.proofs.lemmas.List.{map-append}
use Rattle.at_text.specs.declared.faults.Fault.{Fault}
use Rattle.at_text.specs.declared.faults.FaultKind.TheVariants.{Twin}
use Rattle.at_text.specs.Faults.{fault_at}
use Rattle.at_fixed.specs.declared.rounding.Coords.{Coords}
use Rattle.at_fixed.specs.Numerals.{Numeral}
use Rattle.at_lex.specs.Strings.{units_of}
use Rattle.at_lex.specs.Runs.{the_null}
use Rattle.at_wkt.specs.Positions.{Position, Positions}
use Rattle.at_wkt.specs.Geometry as wkt
use Rattle.at_wkt.specs.Meaning.{shape_of, faults_of}
use Rattle.at_nest.specs.Tree.{Tree, literal, text, array, object, Trees, no_trees, tree_and, Members, no_members, member_and, offset_of}
use Rattle.at_nest.specs.Twins.{is_among, twins_of, twins_of_items, twins_of_members}
use Rattle.at_scan.specs.declared.kinds.Kind.{Kind}
use Rattle.at_scan.specs.declared.kinds.Kind.TheVariants as kinds
use Rattle.at_geojson.specs.Names.{member_named, units_of_text, kind_of, items_of}
use Rattle.at_scan.specs.Names.{kind_of_text}
use Rattle.at_geojson.specs.Coordinates.{each, array_items, number_at, position_of_numbers, position_of, positions_of, lists_of, if_some_items, area_of, areas_of, geometry_of_form, geometry_of}
use Rattle.at_geojson.specs.Roles.{GeometryRead, Features, not_geometry, both_read, all_features, texts_of, properties_texts, properties_faults, lone_geometry, coordinates_reading, kind_reading, geometry_reading, collection_reading, geometries_reading, items_reading, geometry_member_reading, feature_reading, if_feature, item_reading, features_reading, root_of_kind, root_reading, features_of, role_faults_of}
use Rattle.at_geojson.specs.Wholes as wholes
use Rattle.at_parts.specs.Moved.{feature_moved, fault_moved}
use Rattle.at_parts.proofs.MovedTrees.{moved, moved_items, moved_members}
use Rattle.at_parts.proofs.MovedGeometries.{position_moved, positions_moved, geometry_moved, shape_moved, faults_moved}

-- ---- readings, moved

abbrev pub read_moved : ℕ → GeometryRead → GeometryRead
read_moved d r = record { shape = r.shape; faults = map (fault_moved d) r.faults }

abbrev pub reading_moved : ℕ → Features → Features
reading_moved d r = record { features = map (feature_moved d) r.features; faults = map (fault_moved d) r.faults }

-- ---- options and lists

-- what f gives of a moved value is what it gives of the value, moved
into_geometry : {X : Type 0} {p : Option X} (d : ℕ) (f : X → wkt.Geometry) (m : X → X) → ((x : X) → f (m x) ≡ geometry_moved d (f x)) → (o : Option X) → p ≡ option_map m o → option_map f p ≡ option_map (geometry_moved d) (option_map f o)
into_geometry d f m moves None e = ap (option_map f) e
into_geometry d f m moves (Some x) e = ap (option_map f) e ∙ ap Some (moves x)

then_moves : {X Y : Type 0} (f : X → Option Y) (m : X → X) (n : Y → Y) → ((x : X) → f (m x) ≡ option_map n (f x)) → (o : Option X) → option_and_then f (option_map m o) ≡ option_map n (option_and_then f o)
then_moves f m n moves None = refl
then_moves f m n moves (Some x) = moves x

each_moves : {X Y : Type 0} (f : X → Option Y) (m : X → X) (n : Y → Y) → ((x : X) → f (m x) ≡ option_map n (f x)) → (xs : List X) → each f (map m xs) ≡ option_map (map n) (each f xs)
each_moves f m n moves [] = refl
each_moves f m n moves (x ∷ xs) = grind (arith, moves x, each_moves f m n moves xs)

map_some : {X : Type 0} (m : X → X) (xs : List X) → map (λ x. Some x) (map m xs) ≡ map (option_map m) (map (λ x. Some x) xs)
map_some m [] = refl
map_some m (x ∷ xs) = ap (λ z. Some (m x) ∷ z) (map_some m xs)

module _ (d : ℕ) where
  -- ---- equal names

  joined_moved : (a b u v : List Fault) → u ≡ map (fault_moved d) a → v ≡ map (fault_moved d) b → u ++ v ≡ map (fault_moved d) (a ++ b)
  joined_moved a b u v e f = cc (map-append (fault_moved d) a b)

  twin_moved : (b : Bool) (i : ℕ) → (if b then fault_at Twin (d + i) ∷ [] else []) ≡ map (fault_moved d) (if b then fault_at Twin i ∷ [] else [])
  twin_moved b i = grind arith

  mutual
    pub twins_moved : (t : Tree) → twins_of (moved d t) ≡ map (fault_moved d) (twins_of t)
    twins_moved (array i ts) = item_twins_moved ts
    twins_moved (object i ms) = member_twins_moved [] ms
    twins_moved _ = refl

    pub item_twins_moved : (ts : Trees) → twins_of_items (moved_items d ts) ≡ map (fault_moved d) (twins_of_items ts)
    item_twins_moved no_trees = refl
    item_twins_moved (tree_and t ts) = joined_moved (twins_of t) (twins_of_items ts) _ _ (twins_moved t) (item_twins_moved ts)

    pub member_twins_moved : (earlier : List (List ℕ)) (ms : Members) → twins_of_members earlier (moved_members d ms) ≡ map (fault_moved d) (twins_of_members earlier ms)
    member_twins_moved earlier no_members = refl
    member_twins_moved earlier (member_and name i t ms) =
        joined_moved _ (twins_of t ++ twins_of_members (units_of name ∷ earlier) ms) _ _ (twin_moved (is_among earlier (units_of name)) i)
        (joined_moved (twins_of t) (twins_of_members (units_of name ∷ earlier) ms) _ _ (twins_moved t) (member_twins_moved (units_of name ∷ earlier) ms))

  -- ---- members, items and offsets

  pub offset_moved : (t : Tree) → offset_of (moved d t) ≡ d + offset_of t
  offset_moved (literal i l) = refl
  offset_moved _ = refl

  pub items_of_moved : (ts : Trees) → items_of (moved_items d ts) ≡ map (moved d) (items_of ts)
  items_of_moved no_trees = refl
  items_of_moved (tree_and t ts) = ap (λ z. moved d t ∷ z) (items_of_moved ts)

  pub member_named_moved : (name : List ℕ) (ms : Members) → member_named name (moved_members d ms) ≡ option_map (moved d) (member_named name ms)
  member_named_moved name no_members = refl
  member_named_moved name (member_and n i t ms) = grind (arith, member_named_moved name ms)

  pub units_moved : (o : Option Tree) → option_and_then units_of_text (option_map (moved d) o) ≡ option_and_then units_of_text o
  units_moved (Some (text i cs)) = refl
  units_moved _ = refl

  pub kind_of_moved : (ms : Members) → kind_of (moved_members d ms) ≡ kind_of ms
  kind_of_moved ms = ap (λ o. option_and_then kind_of_text (option_and_then units_of_text o)) (member_named_moved (codes "type") ms) ∙ ap (option_and_then kind_of_text) (units_moved (member_named (codes "type") ms))

  pub texts_moved : (ms : Members) → texts_of (moved_members d ms) ≡ texts_of ms
  texts_moved no_members = refl
  texts_moved (member_and name i (text j cs) ms) = ap (λ z. record { name = units_of name; value = units_of cs } ∷ z) (texts_moved ms)
  texts_moved (member_and name i _ ms) = texts_moved ms

  -- ---- coordinates

  array_items_moved : (t : Tree) → array_items (moved d t) ≡ option_map (map (moved d)) (array_items t)
  array_items_moved (array i ts) = ap Some (items_of_moved ts)
  array_items_moved _ = refl

  -- what f gives of each item of an array
  of_each_moved : {Y : Type 0} (f : Tree → Option Y) (n : Y → Y) → ((t : Tree) → f (moved d t) ≡ option_map n (f t)) → (t : Tree) → option_and_then (each f) (array_items (moved d t)) ≡ option_map (map n) (option_and_then (each f) (array_items t))
  of_each_moved f n moves t = ap (option_and_then (each f)) (array_items_moved t) ∙ then_moves (each f) (map (moved d)) (map n) (each_moves f (moved d) n moves) (array_items t)

  abbrev pair_moved : Numeral × ℕ → Numeral × ℕ
  pair_moved p = (p.0, d + p.1)

  number_at_moved : (t : Tree) → number_at (moved d t) ≡ option_map pair_moved (number_at t)
  number_at_moved (literal i l) = refl
  number_at_moved _ = refl

  position_of_numbers_moved : (ps : List (Numeral × ℕ)) → position_of_numbers (map pair_moved ps) ≡ option_map (position_moved d) (position_of_numbers ps)
  position_of_numbers_moved (x ∷ y ∷ further) = refl
  position_of_numbers_moved _ = refl

  position_of_moved : (t : Tree) → position_of (moved d t) ≡ option_map (position_moved d) (position_of t)
  position_of_moved t = rw (of_each_moved number_at pair_moved number_at_moved t) (then_moves position_of_numbers (map pair_moved) (position_moved d) position_of_numbers_moved (option_and_then (each number_at) (array_items t)))

  list_at_moved : (at : ℕ) (o : Option (List Position))
      → option_map (λ items. record { at = d + at; items = items }) (option_map (map (position_moved d)) o) ≡ option_map (positions_moved d) (option_map (λ items. record { at = at; items = items }) o)
  list_at_moved at o = grind arith

  positions_of_moved : (t : Tree) → positions_of (moved d t) ≡ option_map (positions_moved d) (positions_of t)
  positions_of_moved t = rw (offset_moved t, of_each_moved position_of (position_moved d) position_of_moved t) (list_at_moved (offset_of t) (option_and_then (each position_of) (array_items t)))

  lists_of_moved : (t : Tree) → lists_of (moved d t) ≡ option_map (map (positions_moved d)) (lists_of t)
  lists_of_moved t = of_each_moved positions_of (positions_moved d) positions_of_moved t

  some_items_moved : {X : Type 0} (m : X → X) (xs : List X) → if_some_items (map m xs) ≡ option_map (map m) (if_some_items xs)
  some_items_moved m [] = refl
  some_items_moved m (x ∷ xs) = refl

  area_of_moved : (t : Tree) → area_of (moved d t) ≡ option_map (map (positions_moved d)) (area_of t)
  area_of_moved t = ap (option_and_then if_some_items) (lists_of_moved t) ∙ then_moves if_some_items (map (positions_moved d)) (map (positions_moved d)) (some_items_moved (positions_moved d)) (lists_of t)

  areas_of_moved : (t : Tree) → areas_of (moved d t) ≡ option_map (map (map (positions_moved d))) (areas_of t)
  areas_of_moved t = of_each_moved area_of (map (positions_moved d)) area_of_moved t

  pub form_moved : (kind : Kind) (t : Tree) → geometry_of_form kind (moved d t) ≡ option_map (geometry_moved d) (geometry_of_form kind t)
  form_moved kinds.Point t = into_geometry d (λ p. wkt.point (Some p)) (position_moved d) (λ p. refl) (position_of t) (position_of_moved t)
  form_moved kinds.MultiPoint t = into_geometry d (λ (ps : Positions). wkt.multi_point (map (λ p. Some p) ps.items)) (positions_moved d) (λ ps. ap wkt.multi_point (map_some (position_moved d) ps.items)) (positions_of t) (positions_of_moved t)
  form_moved kinds.LineString t = into_geometry d (λ ps. wkt.line_string (Some ps)) (positions_moved d) (λ ps. refl) (positions_of t) (positions_of_moved t)
  form_moved kinds.MultiLineString t = into_geometry d (λ ls. wkt.multi_line_string (map (λ l. Some l) ls)) (map (positions_moved d)) (λ ls. ap wkt.multi_line_string (map_some (positions_moved d) ls)) (lists_of t) (lists_of_moved t)
  form_moved kinds.Polygon t = into_geometry d (λ rings. wkt.polygon rings) (map (positions_moved d)) (λ rings. refl) (lists_of t) (lists_of_moved t)
  form_moved kinds.MultiPolygon t = into_geometry d (λ areas. wkt.multi_polygon areas) (map (map (positions_moved d))) (λ areas. refl) (areas_of t) (areas_of_moved t)
  form_moved _ t = refl

  pub geometry_of_moved : (kind : Kind) (t : Tree) → geometry_of kind (moved d t) ≡ option_map (geometry_moved d) (geometry_of kind t)
  geometry_of_moved kind (array i no_trees) = refl
  geometry_of_moved kind t = form_moved kind t

module _ (d digits : ℕ) (how : Coords) where
  -- ---- geometries

  abbrev by_geometry : ℕ → Option wkt.Geometry → GeometryRead
  by_geometry at None = not_geometry at
  by_geometry at (Some g) = record { shape = shape_of digits how g; faults = faults_of digits how g }

  by_geometry_is : (at : ℕ) (kind : Kind) (t : Tree) → coordinates_reading digits how at kind (Some t) ≡ by_geometry (offset_of t) (geometry_of kind t)
  by_geometry_is at kind t = grind arith

  by_geometry_moved : (at : ℕ) (o : Option wkt.Geometry) → by_geometry (d + at) (option_map (geometry_moved d) o) ≡ read_moved d (by_geometry at o)
  by_geometry_moved at None = refl
  by_geometry_moved at (Some g) = cc (shape_moved d digits how g, faults_moved d digits how g)

  coordinates_moved : (at : ℕ) (kind : Kind) (o : Option Tree) → coordinates_reading digits how (d + at) kind (option_map (moved d) o) ≡ read_moved d (coordinates_reading digits how at kind o)
  coordinates_moved at kind None = refl
  coordinates_moved at kind (Some t) = cc (by_geometry_is (d + at) kind (moved d t), offset_moved d t, geometry_of_moved d kind t, by_geometry_moved (offset_of t) (geometry_of kind t), by_geometry_is at kind t)

  named_coordinates_moved : (at : ℕ) (ms : Members) (kind : Kind) → coordinates_reading digits how (d + at) kind (member_named (codes "coordinates") (moved_members d ms)) ≡ read_moved d (coordinates_reading digits how at kind (member_named (codes "coordinates") ms))
  named_coordinates_moved at ms kind = ap (coordinates_reading digits how (d + at) kind) (member_named_moved d (codes "coordinates") ms) ∙ coordinates_moved at kind (member_named (codes "coordinates") ms)

  kind_moved : (at : ℕ) (ms : Members) (a b : GeometryRead) → b ≡ read_moved d a → (o : Option Kind) → kind_reading digits how (d + at) (moved_members d ms) b o ≡ read_moved d (kind_reading digits how at ms a o)
  kind_moved at ms a b e None = refl
  kind_moved at ms a b e (Some kinds.FeatureCollection) = refl
  kind_moved at ms a b e (Some kinds.Feature) = refl
  kind_moved at ms a b e (Some kinds.GeometryCollection) = e
  kind_moved at ms a b e (Some kind) = named_coordinates_moved at ms kind

  both_moved : (a b : GeometryRead) → both_read (read_moved d a) (read_moved d b) ≡ read_moved d (both_read a b)
  both_moved a b = cc (map-append (fault_moved d) a.faults b.faults)

  mutual
    pub geometry_reading_moved : (t : Tree) → geometry_reading digits how (moved d t) ≡ read_moved d (geometry_reading digits how t)
    geometry_reading_moved (object i ms) = cc (kind_of_moved d ms, kind_moved i ms (collection_reading digits how i ms) (collection_reading digits how (d + i) (moved_members d ms)) (collection_moved i ms) (kind_of ms))
    geometry_reading_moved _ = refl

    collection_moved : (at : ℕ) (ms : Members) → collection_reading digits how (d + at) (moved_members d ms) ≡ read_moved d (collection_reading digits how at ms)
    collection_moved at no_members = refl
    collection_moved at (member_and name i t ms) = grind (arith, geometries_moved at t, collection_moved at ms)

    geometries_moved : (at : ℕ) (t : Tree) → geometries_reading digits how (d + at) (moved d t) ≡ read_moved d (geometries_reading digits how at t)
    geometries_moved at (array i ts) = items_reading_moved ts
    geometries_moved at _ = refl

    items_reading_moved : (ts : Trees) → items_reading digits how (moved_items d ts) ≡ read_moved d (items_reading digits how ts)
    items_reading_moved no_trees = refl
    items_reading_moved (tree_and t ts) = cc (geometry_reading_moved t, items_reading_moved ts, both_moved (geometry_reading digits how t) (items_reading digits how ts))

  -- ---- features

  geometry_member_moved : (o : Option Tree) → geometry_member_reading digits how (option_map (moved d) o) ≡ read_moved d (geometry_member_reading digits how o)
  geometry_member_moved None = refl
  geometry_member_moved (Some (literal i the_null)) = refl
  geometry_member_moved (Some t) = geometry_reading_moved t

  properties_texts_moved : (o : Option Tree) → properties_texts (option_map (moved d) o) ≡ properties_texts o
  properties_texts_moved (Some (object i ms)) = texts_moved d ms
  properties_texts_moved _ = refl

  properties_faults_moved : (o : Option Tree) → properties_faults (option_map (moved d) o) ≡ map (fault_moved d) (properties_faults o)
  properties_faults_moved (Some (literal i the_null)) = refl
  properties_faults_moved _ = refl

  pub feature_reading_moved : (at : ℕ) (ms : Members) → feature_reading digits how (d + at) (moved_members d ms) ≡ reading_moved d (feature_reading digits how at ms)
  feature_reading_moved at ms =
      let both = map-append (fault_moved d) (geometry_member_reading digits how (member_named (codes "geometry") ms)).faults (properties_faults (member_named (codes "properties") ms)) in
      rw (member_named_moved d (codes "geometry") ms, member_named_moved d (codes "properties") ms)
      (cc (geometry_member_moved (member_named (codes "geometry") ms), properties_texts_moved (member_named (codes "properties") ms), properties_faults_moved (member_named (codes "properties") ms), both))

  if_feature_moved : (at : ℕ) (ms : Members) (o : Option Kind) → if_feature digits how (d + at) (moved_members d ms) o ≡ reading_moved d (if_feature digits how at ms o)
  if_feature_moved at ms (Some kinds.Feature) = feature_reading_moved at ms
  if_feature_moved at ms _ = refl

  pub item_reading_moved : (t : Tree) → item_reading digits how (moved d t) ≡ reading_moved d (item_reading digits how t)
  item_reading_moved (object i ms) = ap (if_feature digits how (d + i) (moved_members d ms)) (kind_of_moved d ms) ∙ if_feature_moved i ms (kind_of ms)
  item_reading_moved _ = refl

  -- of the items of an array
  pub item_readings_moved : (ts : Trees) → map (item_reading digits how) (items_of (moved_items d ts)) ≡ map (reading_moved d) (map (item_reading digits how) (items_of ts))
  item_readings_moved no_trees = refl
  item_readings_moved (tree_and t ts) = ap (λ z. z ∷ map (item_reading digits how) (items_of (moved_items d ts))) (item_reading_moved t) ∙ ap (λ z. reading_moved d (item_reading digits how t) ∷ z) (item_readings_moved ts)

  pub all_features_moved : (rs : List Features) → all_features (map (reading_moved d) rs) ≡ reading_moved d (all_features rs)
  all_features_moved [] = refl
  all_features_moved (r ∷ rs) = cc (all_features_moved rs, map-append (feature_moved d) r.features (all_features rs).features, map-append (fault_moved d) r.faults (all_features rs).faults)

  pub features_reading_moved : (at : ℕ) (o : Option Tree) → features_reading digits how (d + at) (option_map (moved d) o) ≡ reading_moved d (features_reading digits how at o)
  features_reading_moved at (Some (array i ts)) = ap all_features (item_readings_moved ts) ∙ all_features_moved (map (item_reading digits how) (items_of ts))
  features_reading_moved at _ = refl

  root_of_kind_moved : (at : ℕ) (ms : Members) (o : Option Kind) → root_of_kind digits how (d + at) (moved_members d ms) o ≡ reading_moved d (root_of_kind digits how at ms o)
  root_of_kind_moved at ms None = refl
  root_of_kind_moved at ms (Some kinds.FeatureCollection) = ap (features_reading digits how (d + at)) (member_named_moved d (codes "features") ms) ∙ features_reading_moved at (member_named (codes "features") ms)
  root_of_kind_moved at ms (Some kinds.Feature) = feature_reading_moved at ms
  root_of_kind_moved at ms (Some _) = ap (lone_geometry (d + at)) (geometry_reading_moved (object at ms))

  pub root_reading_moved : (t : Tree) → root_reading digits how (moved d t) ≡ reading_moved d (root_reading digits how t)
  root_reading_moved (object i ms) = ap (root_of_kind digits how (d + i) (moved_members d ms)) (kind_of_moved d ms) ∙ root_of_kind_moved i ms (kind_of ms)
  root_reading_moved _ = refl

  pub features_of_moved : (t : Tree) → features_of digits how (moved d t) ≡ map (feature_moved d) (features_of digits how t)
  features_of_moved t = ap (λ (r : Features). r.features) (root_reading_moved t)

  pub role_faults_moved : (t : Tree) → role_faults_of digits how (moved d t) ≡ map (fault_moved d) (role_faults_of digits how t)
  role_faults_moved t = ap (λ (r : Features). r.faults) (root_reading_moved t)

  pub tree_faults_moved : (t : Tree) → wholes.faults_of digits how (moved d t) ≡ map (fault_moved d) (wholes.faults_of digits how t)
  tree_faults_moved t = joined_moved d (twins_of t) (role_faults_of digits how t) (twins_of (moved d t)) (role_faults_of digits how (moved d t)) (twins_moved d t) (role_faults_moved t)
