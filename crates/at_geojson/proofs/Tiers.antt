-- Faults of equal names are of the third tier and faults of roles of the fourth: of both, the first is the first of equal names where there is one.
-- For `root_part`.
use Rattle.std.proofs.Common.{◌≡◌, ℕ, Bool, true, false, ◌||◌, nat_lt, if◌then◌else◌, codes, List, [], ◌∷◌, ◌++◌, map, Option, Some, None, IfSome, refl, ◌∙◌, ap, subst}
use Rattle.std.specs.List.{AllByRecursion}
use Rattle.at_text.specs.Faults.{comes_first, first_fault, first_of, tier_of, fault_at}
use Rattle.at_text.specs.declared.faults.Fault.{Fault}
use Rattle.at_text.specs.declared.faults.FaultKind.TheVariants.{Twin}
use Rattle.at_fixed.specs.declared.rounding.Coords.{Coords}
use Rattle.at_wkt.specs.Geometry.{Geometry}
use Rattle.at_wkt.specs.Meaning.{faults_of, shape_of}
use Rattle.at_text.proofs.FaultOrder.{first_of-append}
use Rattle.at_lex.specs.Strings.{units_of}
use Rattle.at_lex.specs.Runs.{the_null, the_true, the_false}
use Rattle.at_query.proofs.QueryParts.{fourth_of}
use Rattle.at_nest.specs.Tree.{Tree, literal, number, text, array, object, Trees, no_trees, tree_and, Members, no_members, member_and, offset_of}
use Rattle.at_nest.specs.Twins.{is_among, twins_of, twins_of_items, twins_of_members}
use Rattle.at_scan.specs.declared.kinds.Kind.{Kind}
use Rattle.at_scan.specs.declared.kinds.Kind.TheVariants as kinds
use Rattle.at_geojson.specs.Names.{is_named, member_named, kind_of, items_of}
use Rattle.at_geojson.specs.Coordinates.{geometry_of}
use Rattle.at_geojson.specs.Roles.{GeometryRead, not_geometry, properties_faults, coordinates_reading, kind_reading, geometry_reading, collection_reading, geometries_reading, items_reading, geometry_member_reading, feature_reading, if_feature, item_reading, all_features, features_reading, root_of_kind, role_faults_of}

-- every fault is of the tier
abbrev AreOf : ℕ → List Fault → Type 0
AreOf n fs = AllByRecursion (λ (f : Fault). tier_of f.kind ≡ n) fs

of_append : (n : ℕ) (fs gs : List Fault) → AreOf n fs → AreOf n gs → AreOf n (fs ++ gs)
of_append n [] gs h k = k
of_append n (f ∷ fs) gs (h, hs) k = (h, of_append n fs gs hs k)

-- ---- equal names

own_name : (b : Bool) (at : ℕ) → AreOf 3 (if b then fault_at Twin at ∷ [] else [])
own_name true at = (refl, tt)
own_name false at = tt

mutual
  pub twins_third : (t : Tree) → AreOf 3 (twins_of t)
  twins_third (array i ts) = items_third ts
  twins_third (object i ms) = members_third [] ms
  twins_third _ = tt

  items_third : (ts : Trees) → AreOf 3 (twins_of_items ts)
  items_third no_trees = tt
  items_third (tree_and t ts) = of_append 3 (twins_of t) (twins_of_items ts) (twins_third t) (items_third ts)

  members_third : (earlier : List (List ℕ)) (ms : Members) → AreOf 3 (twins_of_members earlier ms)
  members_third earlier no_members = tt
  members_third earlier (member_and name i t ms) =
      of_append 3 (if is_among earlier (units_of name) then fault_at Twin i ∷ [] else []) (twins_of t ++ twins_of_members (units_of name ∷ earlier) ms) (own_name (is_among earlier (units_of name)) i)
      (of_append 3 (twins_of t) (twins_of_members (units_of name ∷ earlier) ms) (twins_third t) (members_third (units_of name ∷ earlier) ms))

-- ---- geometries

module _ (digits : ℕ) (how : Coords) where
  abbrev made : ℕ → Option Geometry → GeometryRead
  made at o = elim o [ None ↦ not_geometry at | Some g ↦ record { shape = shape_of digits how g; faults = faults_of digits how g } ]

  made_fourth : (at : ℕ) (o : Option Geometry) → AreOf 4 (made at o).faults
  made_fourth at None = (refl, tt)
  made_fourth at (Some g) = fourth_of digits how g

  coordinates_fourth : (at : ℕ) (kind : Kind) (o : Option Tree) → AreOf 4 (coordinates_reading digits how at kind o).faults
  coordinates_fourth at kind None = (refl, tt)
  coordinates_fourth at kind (Some t) = made_fourth (offset_of t) (geometry_of kind t)

  -- ---- roles

  kind_fourth : (at : ℕ) (ms : Members) (collected : GeometryRead) (o : Option Kind) → AreOf 4 collected.faults → AreOf 4 (kind_reading digits how at ms collected o).faults
  kind_fourth at ms collected None h = (refl, tt)
  kind_fourth at ms collected (Some kinds.FeatureCollection) h = (refl, tt)
  kind_fourth at ms collected (Some kinds.Feature) h = (refl, tt)
  kind_fourth at ms collected (Some kinds.GeometryCollection) h = h
  kind_fourth at ms collected (Some kinds.Point) h = coordinates_fourth at kinds.Point (member_named (codes "coordinates") ms)
  kind_fourth at ms collected (Some kinds.MultiPoint) h = coordinates_fourth at kinds.MultiPoint (member_named (codes "coordinates") ms)
  kind_fourth at ms collected (Some kinds.LineString) h = coordinates_fourth at kinds.LineString (member_named (codes "coordinates") ms)
  kind_fourth at ms collected (Some kinds.MultiLineString) h = coordinates_fourth at kinds.MultiLineString (member_named (codes "coordinates") ms)
  kind_fourth at ms collected (Some kinds.Polygon) h = coordinates_fourth at kinds.Polygon (member_named (codes "coordinates") ms)
  kind_fourth at ms collected (Some kinds.MultiPolygon) h = coordinates_fourth at kinds.MultiPolygon (member_named (codes "coordinates") ms)

  found_fourth : (b : Bool) (r s : GeometryRead) → AreOf 4 r.faults → AreOf 4 s.faults → AreOf 4 (if b then r else s).faults
  found_fourth true r s h k = h
  found_fourth false r s h k = k

  mutual
    geometry_fourth : (t : Tree) → AreOf 4 (geometry_reading digits how t).faults
    geometry_fourth (object at ms) = kind_fourth at ms (collection_reading digits how at ms) (kind_of ms) (collection_fourth at ms)
    geometry_fourth _ = (refl, tt)

    collection_fourth : (at : ℕ) (ms : Members) → AreOf 4 (collection_reading digits how at ms).faults
    collection_fourth at no_members = (refl, tt)
    collection_fourth at (member_and name i t ms) = found_fourth (is_named (codes "geometries") name) (geometries_reading digits how at t) (collection_reading digits how at ms) (geometries_fourth at t) (collection_fourth at ms)

    geometries_fourth : (at : ℕ) (t : Tree) → AreOf 4 (geometries_reading digits how at t).faults
    geometries_fourth at (array i ts) = items_fourth ts
    geometries_fourth at _ = (refl, tt)

    items_fourth : (ts : Trees) → AreOf 4 (items_reading digits how ts).faults
    items_fourth no_trees = tt
    items_fourth (tree_and t ts) = of_append 4 (geometry_reading digits how t).faults (items_reading digits how ts).faults (geometry_fourth t) (items_fourth ts)

  member_fourth : (o : Option Tree) → AreOf 4 (geometry_member_reading digits how o).faults
  member_fourth None = tt
  member_fourth (Some (literal i the_null)) = tt
  member_fourth (Some (literal i the_true)) = (refl, tt)
  member_fourth (Some (literal i the_false)) = (refl, tt)
  member_fourth (Some (number i n)) = (refl, tt)
  member_fourth (Some (text i cs)) = (refl, tt)
  member_fourth (Some (array i ts)) = (refl, tt)
  member_fourth (Some (object i ms)) = geometry_fourth (object i ms)

  properties_fourth : (o : Option Tree) → AreOf 4 (properties_faults o)
  properties_fourth None = tt
  properties_fourth (Some (literal i the_null)) = tt
  properties_fourth (Some (literal i the_true)) = (refl, tt)
  properties_fourth (Some (literal i the_false)) = (refl, tt)
  properties_fourth (Some (number i n)) = (refl, tt)
  properties_fourth (Some (text i cs)) = (refl, tt)
  properties_fourth (Some (array i ts)) = (refl, tt)
  properties_fourth (Some (object i ms)) = tt

  feature_fourth : (at : ℕ) (ms : Members) → AreOf 4 (feature_reading digits how at ms).faults
  feature_fourth at ms = of_append 4 (geometry_member_reading digits how (member_named (codes "geometry") ms)).faults (properties_faults (member_named (codes "properties") ms))
      (member_fourth (member_named (codes "geometry") ms)) (properties_fourth (member_named (codes "properties") ms))

  if_fourth : (at : ℕ) (ms : Members) (o : Option Kind) → AreOf 4 (if_feature digits how at ms o).faults
  if_fourth at ms None = (refl, tt)
  if_fourth at ms (Some kinds.FeatureCollection) = (refl, tt)
  if_fourth at ms (Some kinds.Feature) = feature_fourth at ms
  if_fourth at ms (Some kinds.GeometryCollection) = (refl, tt)
  if_fourth at ms (Some kinds.Point) = (refl, tt)
  if_fourth at ms (Some kinds.MultiPoint) = (refl, tt)
  if_fourth at ms (Some kinds.LineString) = (refl, tt)
  if_fourth at ms (Some kinds.MultiLineString) = (refl, tt)
  if_fourth at ms (Some kinds.Polygon) = (refl, tt)
  if_fourth at ms (Some kinds.MultiPolygon) = (refl, tt)

  item_fourth : (t : Tree) → AreOf 4 (item_reading digits how t).faults
  item_fourth (object at ms) = if_fourth at ms (kind_of ms)
  item_fourth _ = (refl, tt)

  all_fourth : (ts : List Tree) → AreOf 4 (all_features (map (item_reading digits how) ts)).faults
  all_fourth [] = tt
  all_fourth (t ∷ ts) = of_append 4 (item_reading digits how t).faults (all_features (map (item_reading digits how) ts)).faults (item_fourth t) (all_fourth ts)

  features_fourth : (at : ℕ) (o : Option Tree) → AreOf 4 (features_reading digits how at o).faults
  features_fourth at None = (refl, tt)
  features_fourth at (Some (array i ts)) = all_fourth (items_of ts)
  features_fourth at (Some (object i ms)) = (refl, tt)
  features_fourth at (Some (text i cs)) = (refl, tt)
  features_fourth at (Some (number i n)) = (refl, tt)
  features_fourth at (Some (literal i l)) = (refl, tt)

  root_fourth : (at : ℕ) (ms : Members) (o : Option Kind) → AreOf 4 (root_of_kind digits how at ms o).faults
  root_fourth at ms None = (refl, tt)
  root_fourth at ms (Some kinds.FeatureCollection) = features_fourth at (member_named (codes "features") ms)
  root_fourth at ms (Some kinds.Feature) = feature_fourth at ms
  root_fourth at ms (Some kinds.GeometryCollection) = geometry_fourth (object at ms)
  root_fourth at ms (Some kinds.Point) = geometry_fourth (object at ms)
  root_fourth at ms (Some kinds.MultiPoint) = geometry_fourth (object at ms)
  root_fourth at ms (Some kinds.LineString) = geometry_fourth (object at ms)
  root_fourth at ms (Some kinds.MultiLineString) = geometry_fourth (object at ms)
  root_fourth at ms (Some kinds.Polygon) = geometry_fourth (object at ms)
  root_fourth at ms (Some kinds.MultiPolygon) = geometry_fourth (object at ms)

  pub roles_fourth : (t : Tree) → AreOf 4 (role_faults_of digits how t)
  roles_fourth (object at ms) = root_fourth at ms (kind_of ms)
  roles_fourth _ = (refl, tt)

-- ---- the first of both

chosen : (n : ℕ) (f g : Fault) (b : Bool) → tier_of f.kind ≡ n → tier_of g.kind ≡ n → IfSome (if b then Some f else Some g) (λ (x : Fault). tier_of x.kind ≡ n)
chosen n f g true h k = h
chosen n f g false h k = k

first_tier : (n : ℕ) (f : Fault) (o : Option Fault) → tier_of f.kind ≡ n → IfSome o (λ (x : Fault). tier_of x.kind ≡ n) → IfSome (first_fault (Some f) o) (λ (x : Fault). tier_of x.kind ≡ n)
first_tier n f None h k = h
first_tier n f (Some g) h k = chosen n f g (comes_first f g) h k

first_of_tier : (n : ℕ) (fs : List Fault) → AreOf n fs → IfSome (first_of fs) (λ (x : Fault). tier_of x.kind ≡ n)
first_of_tier n [] h = tt
first_of_tier n (f ∷ fs) (h, hs) = first_tier n f (first_of fs) h (first_of_tier n fs hs)

lesser_tier : (m n : ℕ) (more : Bool) → m ≡ 3 → n ≡ 4 → (nat_lt m n || more) ≡ true
lesser_tier m n more h k = ap (λ z. nat_lt z n || more) h ∙ ap (λ z. nat_lt 3 z || more) k

third_first : (f : Fault) (o : Option Fault) → tier_of f.kind ≡ 3 → IfSome o (λ (x : Fault). tier_of x.kind ≡ 4) → first_fault (Some f) o ≡ Some f
third_first f None h k = refl
third_first f (Some g) h k = let first : comes_first f g ≡ true = lesser_tier (tier_of f.kind) (tier_of g.kind) _ h k in ap (λ b. if b then Some f else Some g) first

pub twins_first : (digits : ℕ) (how : Coords) (t : Tree) (fault : Fault) → first_of (twins_of t) ≡ Some fault → first_of (twins_of t ++ role_faults_of digits how t) ≡ Some fault
twins_first digits how t fault e =
    let third : tier_of fault.kind ≡ 3 = subst (λ o. IfSome o (λ (x : Fault). tier_of x.kind ≡ 3)) e (first_of_tier 3 (twins_of t) (twins_third t)) in
    first_of-append (twins_of t) (role_faults_of digits how t)
    ∙ (ap (λ o. first_fault o (first_of (role_faults_of digits how t))) e
    ∙ third_first fault (first_of (role_faults_of digits how t)) third (first_of_tier 4 (role_faults_of digits how t) (roles_fourth digits how t)))
