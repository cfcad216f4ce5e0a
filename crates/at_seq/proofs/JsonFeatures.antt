-- The features of a JSON text have coordinates in range, and those of one without a fault are proper: rings are closed, and offsets rise.
-- For `part_seq`, and for `answer` and `answer_join` of at_run.
use Rattle.std.proofs.Common.{◌≡◌, ℕ, ◌+◌, ◌≤◌, Bool, true, false, if◌then◌else◌, codes, List, [], ◌∷◌, ◌++◌, length, map, Option, Some, None, refl, sym, ap, ◌∙◌, subst, arith, length-append}
use Rattle.std.specs.List.{AllByRecursion}
use Rattle.std.proofs.lemmas.List.{map-append}
use Rattle.std.proofs.lemmas.List.Elements.{All-nil, All-cons, All-append}
use Rattle.std.proofs.ByRecursion.{All-append as all_joined}
use Rattle.at_text.specs.declared.faults.Fault.{Fault}
use Rattle.at_text.specs.declared.faults.FaultKind.TheVariants.{Form}
use Rattle.at_text.specs.Faults.{fault_at}
use Rattle.at_fixed.specs.declared.rounding.Coords.{Coords}
use Rattle.at_geom.specs.Shapes.{IsShapeInRange}
use Rattle.at_lex.specs.Runs.{the_null}
use Rattle.at_lex.specs.Strings.{Character}
use Rattle.at_wkt.specs.Geometry as wkt
use Rattle.at_wkt.specs.Meaning.{shape_of, faults_of as geometry_faults}
use Rattle.at_nest.specs.Tree.{Tree, literal, array, object, Trees, no_trees, tree_and, Members, no_members, member_and, offset_of, Spells, SpellsItems, SpellsFurtherItems, SpellsMembers, SpellsFurtherMembers, IsTextOf}
use Rattle.at_nest.specs.Twins.{twins_of}
use Rattle.at_nest.proofs.TreeParts.{items_parts, members_parts, after_parts, array_parts, object_parts, text_parts}
use Rattle.at_query.specs.declared.features.Feature.{Feature}
use Rattle.at_query.specs.Ranges.{IsFeatureInRange, AreFeaturesInRange}
use Rattle.at_query.specs.Parts.{AreRingsClosed, AreRising, IsProperFeature}
use Rattle.at_query.proofs.ShapeRanges.{nothing_in, both_in, shape_in}
use Rattle.at_scan.specs.declared.kinds.Kind.{Kind}
use Rattle.at_scan.specs.declared.kinds.Kind.TheVariants as kinds
use Rattle.at_geojson.specs.Names.{is_named, member_named, kind_of, items_of}
use Rattle.at_geojson.specs.Coordinates.{geometry_of}
use Rattle.at_geojson.specs.Roles.{GeometryRead, not_geometry, both_read, Features, not_features, all_features, coordinates_reading, kind_reading, geometry_reading, collection_reading, geometries_reading, items_reading, geometry_member_reading, feature_reading, if_feature, item_reading, features_reading, root_of_kind, root_reading, features_of, role_faults_of}
use Rattle.at_geojson.specs.Wholes.{faults_of}
use Rattle.at_query.proofs.ProperShapes.{empties, not_empty, no_first, HasClosedRings, geometry_closed, at_of}

-- ---- what is read of geometries

-- the coordinates are in range, and the rings are closed where nothing is wrong
abbrev IsProper : GeometryRead → Type 0
IsProper r = IsShapeInRange r.shape × (r.faults ≡ [] → AreRingsClosed r.shape)

no_geometry : (at : ℕ) → IsProper (not_geometry at)
no_geometry at = (nothing_in, λ e. tt)

both_proper : (r q : GeometryRead) → IsProper r → IsProper q → IsProper (both_read r q)
both_proper r q (in_range, closed) (also, shut) = (
  both_in r.shape q.shape in_range also,
  λ e. let (a, b) = empties r.faults q.faults e in all_joined HasClosedRings r.shape.polygons q.shape.polygons (closed a) (shut b),
)

either_proper : (b : Bool) (r q : GeometryRead) → IsProper r → IsProper q → IsProper (if b then r else q)
either_proper true r q h k = h
either_proper false r q h k = k

module _ (digits : ℕ) (how : Coords) where
  spelled_proper : (o : Option wkt.Geometry) (at : ℕ) → IsProper (elim o [ None ↦ not_geometry at | Some g ↦ record { shape = shape_of digits how g; faults = geometry_faults digits how g } ])
  spelled_proper None at = no_geometry at
  spelled_proper (Some g) at = (shape_in digits how g, geometry_closed digits how g)

  coordinates_proper : (at : ℕ) (kind : Kind) (o : Option Tree) → IsProper (coordinates_reading digits how at kind o)
  coordinates_proper at kind None = no_geometry at
  coordinates_proper at kind (Some t) = spelled_proper (geometry_of kind t) (offset_of t)

  kind_proper : (at : ℕ) (ms : Members) (collected : GeometryRead) (kind : Option Kind) → IsProper collected → IsProper (kind_reading digits how at ms collected kind)
  kind_proper at ms collected None h = no_geometry at
  kind_proper at ms collected (Some kinds.FeatureCollection) h = no_geometry at
  kind_proper at ms collected (Some kinds.Feature) h = no_geometry at
  kind_proper at ms collected (Some kinds.GeometryCollection) h = h
  kind_proper at ms collected (Some kind) h = coordinates_proper at kind (member_named (codes "coordinates") ms)

  mutual
    reading_proper : (t : Tree) → IsProper (geometry_reading digits how t)
    reading_proper (object at ms) = kind_proper at ms (collection_reading digits how at ms) (kind_of ms) (collection_proper at ms)
    reading_proper t = no_geometry (offset_of t)

    collection_proper : (at : ℕ) (ms : Members) → IsProper (collection_reading digits how at ms)
    collection_proper at no_members = no_geometry at
    collection_proper at (member_and name i t ms) = either_proper (is_named (codes "geometries") name) (geometries_reading digits how at t) (collection_reading digits how at ms) (geometries_proper at t) (collection_proper at ms)

    geometries_proper : (at : ℕ) (t : Tree) → IsProper (geometries_reading digits how at t)
    geometries_proper at (array i ts) = items_proper ts
    geometries_proper at _ = no_geometry at

    items_proper : (ts : Trees) → IsProper (items_reading digits how ts)
    items_proper no_trees = (nothing_in, λ e. tt)
    items_proper (tree_and t ts) = both_proper (geometry_reading digits how t) (items_reading digits how ts) (reading_proper t) (items_proper ts)

  member_proper : (o : Option Tree) → IsProper (geometry_member_reading digits how o)
  member_proper None = (nothing_in, λ e. tt)
  member_proper (Some (literal i the_null)) = (nothing_in, λ e. tt)
  member_proper (Some t) = reading_proper t

  -- ---- features

  -- the coordinates are in range, and the features are proper where nothing is wrong
  abbrev AreProper : Features → Type 0
  AreProper f = AreFeaturesInRange f.features × (f.faults ≡ [] → AllByRecursion IsProperFeature f.features)

  no_features : (at : ℕ) → AreProper (not_features at)
  no_features at = (All-nil IsFeatureInRange, λ e. tt)

  one_proper : (f : Feature) (r : GeometryRead) (faults : List Fault) → f.shape ≡ r.shape → IsProper r → (faults ≡ [] → r.faults ≡ []) → AreProper (record { features = f ∷ []; faults = faults })
  one_proper f r faults same (in_range, closed) none =
      let here : IsShapeInRange f.shape = subst IsShapeInRange (sym same) in_range in (
        All-cons IsFeatureInRange f [] here (All-nil IsFeatureInRange),
        λ e. (record { closed = subst AreRingsClosed (sym same) (closed (none e)); in_range = here }, tt),
      )

  feature_proper : (at : ℕ) (ms : Members) → AreProper (feature_reading digits how at ms)
  feature_proper at ms =
      let geometry = geometry_member_reading digits how (member_named (codes "geometry") ms) in
      one_proper _ geometry _ refl (member_proper (member_named (codes "geometry") ms)) (λ e. (empties geometry.faults _ e).0)

  if_feature_proper : (at : ℕ) (ms : Members) (kind : Option Kind) → AreProper (if_feature digits how at ms kind)
  if_feature_proper at ms (Some kinds.Feature) = feature_proper at ms
  if_feature_proper at ms _ = no_features at

  item_proper : (t : Tree) → AreProper (item_reading digits how t)
  item_proper (object at ms) = if_feature_proper at ms (kind_of ms)
  item_proper t = no_features (offset_of t)

  all_proper : (ts : Trees) → AreProper (all_features (map (item_reading digits how) (items_of ts)))
  all_proper no_trees = (All-nil IsFeatureInRange, λ e. tt)
  all_proper (tree_and t ts) =
      let a = item_reading digits how t in
      let b = all_features (map (item_reading digits how) (items_of ts)) in
      let (in_range, good) = item_proper t in
      let (also, sound) = all_proper ts in (
        All-append IsFeatureInRange a.features b.features in_range also,
        λ e. let (x, y) = empties a.faults b.faults e in all_joined IsProperFeature a.features b.features (good x) (sound y),
      )

  listed_proper : (at : ℕ) (o : Option Tree) → AreProper (features_reading digits how at o)
  listed_proper at (Some (array i ts)) = all_proper ts
  listed_proper at _ = no_features at

  root_proper : (at : ℕ) (ms : Members) (kind : Option Kind) → AreProper (root_of_kind digits how at ms kind)
  root_proper at ms None = no_features at
  root_proper at ms (Some kinds.FeatureCollection) = listed_proper at (member_named (codes "features") ms)
  root_proper at ms (Some kinds.Feature) = feature_proper at ms
  root_proper at ms (Some kind) = one_proper _ (geometry_reading digits how (object at ms)) _ refl (reading_proper (object at ms)) (λ e. e)

  features_proper : (t : Tree) → AreProper (root_reading digits how t)
  features_proper (object at ms) = root_proper at ms (kind_of ms)
  features_proper t = no_features (offset_of t)

  pub json_features_in_range : (t : Tree) → AreFeaturesInRange (features_of digits how t)
  json_features_in_range t = (features_proper t).0

-- ---- offsets

-- offsets that rise, from one place up to another
abbrev pub Climbs : ℕ → ℕ → List ℕ → Type 0
Climbs low high [] = Unit {0}
Climbs low high (n ∷ rest) = (low ≤ n) × (n ≤ high) × Climbs (n + 1) high rest

pub climbs_rise : (low high : ℕ) (xs : List ℕ) → Climbs low high xs → AreRising xs
climbs_rise low high [] h = tt
climbs_rise low high (n ∷ []) h = tt
climbs_rise low high (n ∷ m ∷ rest) (a, b, (c, d, e)) = ((omega (arith, c)), climbs_rise (n + 1) high (m ∷ rest) (c, d, e))

-- between places further apart
pub climbs_wider : (low high least most : ℕ) (xs : List ℕ) → least ≤ low → high ≤ most → Climbs low high xs → Climbs least most xs
climbs_wider low high least most [] le ge h = tt
climbs_wider low high least most (n ∷ xs) le ge (a, b, c) = ((omega (arith, le, a)), (omega (arith, ge, b)), climbs_wider (n + 1) high (n + 1) most xs (omega arith) ge c)

-- and further on behind the place where they end
pub climbs_on : (low mid high : ℕ) (xs ys : List ℕ) → low ≤ mid + 1 → mid ≤ high → Climbs low mid xs → Climbs (mid + 1) high ys → Climbs low high (xs ++ ys)
climbs_on low mid high [] ys le ge h k = climbs_wider (mid + 1) high low high ys le (omega arith) k
climbs_on low mid high (n ∷ xs) ys le ge (a, b, c) k = (a, (omega (arith, b, ge)), climbs_on (n + 1) mid high xs ys (omega (arith, b)) ge c k)

-- a value that is spelled somewhere from one place up to another
abbrev IsSpelled : ℕ → ℕ → Option Tree → Type 0
IsSpelled low high None = Unit {0}
IsSpelled low high (Some t) = (at : ℕ) × (w : List ℕ) × (low ≤ at) × (at + length w ≤ high) × Spells at w t

spelled_at : (t : Tree) (at : ℕ) (w : List ℕ) → Spells at w t → offset_of t ≡ at
spelled_at (literal i l) at w h = h.0
spelled_at _ at w h = h.0

either_spelled : (low high : ℕ) (b : Bool) (o p : Option Tree) → IsSpelled low high o → IsSpelled low high p → IsSpelled low high (if b then o else p)
either_spelled low high true o p h k = h
either_spelled low high false o p h k = k

module _ (name : List ℕ) (low high : ℕ) where
  abbrev AreSpelled : Members → (ℕ → List ℕ → Members → Type 0) → Type 0
  AreSpelled ms Spelled = (at : ℕ) (w : List ℕ) → low ≤ at → at + length w ≤ high → Spelled at w ms → IsSpelled low high (member_named name ms)

  -- a member before others
  one_spelled : (n : List Character) (i : ℕ) (t : Tree) (ms : Members) → AreSpelled ms SpellsFurtherMembers → AreSpelled (member_and n i t ms) SpellsMembers
  one_spelled n i t ms further at w le ge h =
      let (a, v, b, r, e, ha, hb, hv, (w2, e2, (c, x, d, q, f, hc, hd, hx, hq))) = members_parts n i t ms at w h in
      let whole : length w ≡ length a + length v + length b + 1 + length c + length x + length d + length q = omega (arith, ap length e, ap length e2, ap length f, length-append {A = ℕ}) in
      either_spelled low high (is_named name n) (Some t) (member_named name ms)
      (at + length a + length v + length b + 1 + length c, x, (omega (arith, le)), (omega (arith, ge, whole)), hx)
      (further (at + length a + length v + length b + 1 + length c + length x + length d) q (omega (arith, le)) (omega (arith, ge, whole)) hq)

  further_spelled : (ms : Members) → AreSpelled ms SpellsFurtherMembers
  further_spelled no_members at w le ge h = tt
  further_spelled (member_and n i t ms) at w le ge h =
      let (v, e, k) = after_parts 0x2C (λ j v. SpellsMembers j v (member_and n i t ms)) at w h in
      one_spelled n i t ms (further_spelled ms) (at + 1) v (omega (arith, le)) (omega (arith, ge, ap length e)) k

  member_spelled : (ms : Members) → AreSpelled ms SpellsMembers
  member_spelled no_members at w le ge h = tt
  member_spelled (member_and n i t ms) at w le ge h = one_spelled n i t ms (further_spelled ms) at w le ge h

-- items lie one behind another
abbrev AreClimbing : ℕ → ℕ → Trees → (ℕ → List ℕ → Trees → Type 0) → Type 0
AreClimbing before high ts Spelled = (at : ℕ) (w : List ℕ) (low : ℕ) → low ≤ at + before → at + length w ≤ high → Spelled at w ts → Climbs low high (map offset_of (items_of ts))

one_climbs : (t : Tree) (ts : Trees) (high : ℕ) → AreClimbing 1 high ts SpellsFurtherItems → AreClimbing 0 high (tree_and t ts) SpellsItems
one_climbs t ts high further at w low le ge h =
    let (a, v, b, r, e, ha, hb, hv, hr) = items_parts t ts at w h in
    let o = spelled_at t (at + length a) v hv in
    let parts : length w ≡ length a + length v + length b + length r = omega (arith, ap length e, length-append {A = ℕ}) in
    ((omega (arith, le, o)), (omega (arith, ge, o, parts)), further (at + length a + length v + length b) r (offset_of t + 1) (omega (arith, o)) (omega (arith, ge, parts)) hr)

further_climb : (ts : Trees) (high : ℕ) → AreClimbing 1 high ts SpellsFurtherItems
further_climb no_trees high at w low le ge h = tt
further_climb (tree_and t ts) high at w low le ge h =
    let (v, e, k) = after_parts 0x2C (λ j v. SpellsItems j v (tree_and t ts)) at w h in
    one_climbs t ts high (further_climb ts high) (at + 1) v low (omega (arith, le)) (omega (arith, ge, ap length e)) k

items_climb : (ts : Trees) (high : ℕ) → AreClimbing 0 high ts SpellsItems
items_climb no_trees high at w low le ge h = tt
items_climb (tree_and t ts) high at w low le ge h = one_climbs t ts high (further_climb ts high) at w low le ge h

module _ (digits : ℕ) (how : Coords) where
  no_feature_at : (at : ℕ) (xs : List ℕ) → fault_at Form at ∷ [] ≡ [] → [] ≡ xs
  no_feature_at at xs e = absurd (not_empty (fault_at Form at) [] e)

  kind_at : (at : ℕ) (ms : Members) (kind : Option Kind) → (if_feature digits how at ms kind).faults ≡ [] → map at_of (if_feature digits how at ms kind).features ≡ at ∷ []
  kind_at at ms (Some kinds.Feature) e = refl
  kind_at at ms _ e = no_feature_at at (at ∷ []) e

  -- an item that is a feature lies where the item does
  item_at : (t : Tree) → (item_reading digits how t).faults ≡ [] → map at_of (item_reading digits how t).features ≡ offset_of t ∷ []
  item_at (object at ms) e = kind_at at ms (kind_of ms) e
  item_at t e = no_feature_at (offset_of t) (offset_of t ∷ []) e

  items_at : (ts : Trees) → (all_features (map (item_reading digits how) (items_of ts))).faults ≡ [] → map at_of (all_features (map (item_reading digits how) (items_of ts))).features ≡ map offset_of (items_of ts)
  items_at no_trees e = refl
  items_at (tree_and t ts) e =
      let a = item_reading digits how t in
      let b = all_features (map (item_reading digits how) (items_of ts)) in
      let (x, y) = empties a.faults b.faults e in
      map-append at_of a.features b.features ∙ (ap (λ z. z ++ map at_of b.features) (item_at t x) ∙ ap (λ z. offset_of t ∷ z) (items_at ts y))

  listed_climbs : (at low high : ℕ) (o : Option Tree) → IsSpelled low high o → (features_reading digits how at o).faults ≡ [] → Climbs low high (map at_of (features_reading digits how at o).features)
  listed_climbs at low high (Some (array i ts)) (j, w, le, ge, k) e =
      let (o, (v, same, h)) = array_parts ts i j w k in
      subst (Climbs low high) (sym (items_at ts e)) (items_climb ts high (j + 1) v low (omega (arith, le)) (omega (arith, ge, ap length same, length-append v (0x5D ∷ []))) h)
  listed_climbs at low high _ h e = tt

  module _ (at low high : ℕ) (ms : Members) (le : low ≤ at) (ge : at ≤ high) where
    root_climbs : (kind : Option Kind) → IsSpelled low high (member_named (codes "features") ms) → (root_of_kind digits how at ms kind).faults ≡ [] → Climbs low high (map at_of (root_of_kind digits how at ms kind).features)
    root_climbs None h e = tt
    root_climbs (Some kinds.FeatureCollection) h e = listed_climbs at low high (member_named (codes "features") ms) h e
    root_climbs (Some kinds.Feature) h e = (le, ge, tt)
    root_climbs (Some kind) h e = (le, ge, tt)

  tree_climbs : (t : Tree) (at low high : ℕ) (w : List ℕ) → low ≤ at → at + length w ≤ high → Spells at w t → role_faults_of digits how t ≡ [] → Climbs low high (map at_of (features_of digits how t))
  tree_climbs (object i ms) at low high w le ge k e =
      let (o, (v, same, h)) = object_parts ms i at w k in
      let inside : at + 1 + length v ≤ high = omega (arith, ge, ap length same, length-append v (0x7D ∷ [])) in
      root_climbs i low high ms (omega (arith, le, o)) (omega (arith, ge, o)) (kind_of ms) (member_spelled (codes "features") low high ms (at + 1) v (omega (arith, le)) inside h) e
  tree_climbs _ at low high w le ge h e = tt

  -- ---- a text

  -- the features of a text without a fault lie within it, one behind another
  pub text_climbs : (t : Tree) (at : ℕ) (w : List ℕ) → IsTextOf at w t → faults_of digits how t ≡ [] → Climbs at (at + length w) (map at_of (features_of digits how t))
  text_climbs t at w h none =
      let (a, v, b, r, e, ha, hb, hv, hr) = text_parts t at w h in
      tree_climbs t (at + length a) at (at + length w) v (omega arith) (omega (arith, ap length e, length-append {A = ℕ})) hv (empties (twins_of t) (role_faults_of digits how t) none).1

  -- and each is proper
  pub text_features_proper : (t : Tree) → faults_of digits how t ≡ [] → AllByRecursion IsProperFeature (features_of digits how t)
  text_features_proper t none = (features_proper digits how t).1 (empties (twins_of t) (role_faults_of digits how t) none).1
