-- A file of GeoJSON has no more features and positions than its bytes have room for: a position takes at least four bytes, with its brackets.
-- For `part_seq`, and for `answer` of at_run.
use Rattle.std.proofs.Common.{◌≡◌, ℕ, ◌+◌, ◌*◌, ◌≤◌, Bool, true, false, if◌then◌else◌, codes, List, [], ◌∷◌, ◌++◌, length, map, Option, Some, None, option_map, option_and_then, refl, ap, subst, arith, length-append, length-drop}
use Rattle.std.proofs.lemmas.Option.{none-some, same_Some}
use Rattle.std.proofs.lemmas.Grind.{flat_map-append}
use Rattle.at_text.specs.Parts.{Nothing, Exactly, ◌▸◌, At}
use Rattle.at_text.specs.Texts.{base_of}
use Rattle.at_fixed.specs.declared.rounding.Coords.{Coords}
use Rattle.at_fixed.specs.Numerals.{Numeral}
use Rattle.at_fixed.proofs.Spelled.{json_is_wkt}
use Rattle.at_geom.specs.Shapes.{positions}
use Rattle.at_lex.specs.Strings.{Character, SpellsString}
use Rattle.at_lex.specs.Runs.{the_null}
use Rattle.at_wkt.specs.Positions.{Position, Positions}
use Rattle.at_wkt.specs.Geometry as wkt
use Rattle.at_wkt.specs.Meaning.{shape_of, faults_of}
use Rattle.at_nest.specs.Tree.{Tree, literal, number, array, object, Trees, no_trees, tree_and, Members, no_members, member_and, offset_of, Padded, WithName, Spells, SpellsItems, SpellsFurtherItems, SpellsMembers, SpellsFurtherMembers, IsTextOf}
use Rattle.at_nest.specs.Syntax.{IsFileOf}
use Rattle.at_nest.proofs.TreeParts.{padded_parts, padded_made, after_parts, named_behind, array_parts, object_parts, text_parts}
use Rattle.at_query.specs.declared.features.Feature.{Feature}
use Rattle.at_query.specs.Results.{all_positions}
use Rattle.at_scan.specs.declared.kinds.Kind.{Kind}
use Rattle.at_scan.specs.declared.kinds.Kind.TheVariants as kinds
use Rattle.at_geojson.specs.Names.{is_named, member_named, kind_of, items_of}
use Rattle.at_geojson.specs.Coordinates.{each, array_items, number_at, position_of_numbers, position_of, positions_of, lists_of, if_some_items, area_of, areas_of, geometry_of_form, geometry_of}
use Rattle.at_geojson.specs.Roles.{GeometryRead, not_geometry, both_read, all_features, feature_of, properties_texts, coordinates_reading, kind_reading, geometry_reading, collection_reading, geometries_reading, items_reading, geometry_member_reading, feature_reading, if_feature, item_reading, features_reading, root_of_kind, features_of}
use Rattle.at_query.proofs.LineBytes.{number_size, total, each_one, one_of, items_of as count_of, listed_of, rings_of, weight_of}
use Rattle.at_query.proofs.ShapeSizes.{size, positions_size, both_size, shape_size}

-- ---- how many bytes a value has at least: those of its numbers and brackets

abbrev mutual
  weight : Tree → ℕ
  weight (number i n) = 1
  weight (array i ts) = weight_items ts + 2
  weight (object i ms) = weight_members ms + 2
  weight _ = 0

  weight_items : Trees → ℕ
  weight_items no_trees = 0
  weight_items (tree_and t ts) = weight t + weight_items ts

  weight_members : Members → ℕ
  weight_members no_members = 0
  weight_members (member_and name i t ms) = weight t + weight_members ms

-- what the part says is said in at least so many bytes
abbrev AtLeast : ℕ → (ℕ → List ℕ → Type 0) → Type 0
AtLeast a P = (at : ℕ) (w : List ℕ) → P at w → a ≤ length w

padded_size : {a b : ℕ} {P Q : ℕ → List ℕ → Type 0} → AtLeast a P → AtLeast b Q → AtLeast (a + b) (Padded P ▸ Q)
padded_size {P = P} {Q = Q} p q at w h =
    let (c, v, d, r, e, hc, hd, hp, hq) = padded_parts P Q at w h in
    omega (arith, p (at + length c) v hp, q (at + length c + length v + length d) r hq, ap length e, length-append {A = ℕ})

after_size : (byte : ℕ) {a : ℕ} {P : ℕ → List ℕ → Type 0} → AtLeast a P → AtLeast a (Exactly (byte ∷ []) ▸ P)
after_size byte {P = P} p at w k = let (r, e, h) = after_parts byte P at w k in omega (arith, p (at + 1) r h, ap length e)

nothing_less : (P : ℕ → List ℕ → Type 0) → AtLeast 0 P
nothing_less P at w h = omega arith

member_size : (name : List Character) (i : ℕ) {a b : ℕ} {P Q : ℕ → List ℕ → Type 0} → AtLeast a P → AtLeast b Q → AtLeast (a + b) (WithName name i P ▸ Q)
member_size name i {P = P} {Q = Q} p q at w h = omega (arith, padded_size (nothing_less (At i (SpellsString name))) (after_size 0x3A (padded_size p q)) at w (named_behind name i P Q at w h))

mutual
  tree_size : (t : Tree) (at : ℕ) (w : List ℕ) → Spells at w t → weight t ≤ length w
  tree_size (number i n) at w (o, (is, e)) = number_size n at w (json_is_wkt n is, e)
  tree_size (array i ts) at w k = let (o, (v, e, h)) = array_parts ts i at w k in omega (arith, items_size ts (at + 1) v h, ap length e, length-append v (0x5D ∷ []))
  tree_size (object i ms) at w k = let (o, (v, e, h)) = object_parts ms i at w k in omega (arith, members_size ms (at + 1) v h, ap length e, length-append v (0x7D ∷ []))
  tree_size _ at w h = omega arith

  items_size : (ts : Trees) (at : ℕ) (w : List ℕ) → SpellsItems at w ts → weight_items ts ≤ length w
  items_size no_trees at w h = omega arith
  items_size (tree_and t ts) at w h = padded_size (tree_size t) (further_size ts) at w h

  further_size : (ts : Trees) (at : ℕ) (w : List ℕ) → SpellsFurtherItems at w ts → weight_items ts ≤ length w
  further_size no_trees at w h = omega arith
  further_size (tree_and t ts) at w h = after_size 0x2C (padded_size (tree_size t) (further_size ts)) at w h

  members_size : (ms : Members) (at : ℕ) (w : List ℕ) → SpellsMembers at w ms → weight_members ms ≤ length w
  members_size no_members at w h = omega arith
  members_size (member_and name i t ms) at w h = member_size name i (tree_size t) (more_size ms) at w h

  more_size : (ms : Members) (at : ℕ) (w : List ℕ) → SpellsFurtherMembers at w ms → weight_members ms ≤ length w
  more_size no_members at w h = omega arith
  more_size (member_and name i t ms) at w h = after_size 0x2C (member_size name i (tree_size t) (more_size ms)) at w h

text_size : (at : ℕ) (w : List ℕ) (t : Tree) → IsTextOf at w t → weight t ≤ length w
text_size at w t h = omega (arith, padded_size (tree_size t) (nothing_less Nothing) at w (padded_made (λ j v. Spells j v t) Nothing at w (text_parts t at w h)))

-- ---- coordinates

-- what holds of all that f makes holds of what an option becomes by f
module _ {X Y : Type 0} (P : Y → Type 0) where
  then_some : (f : X → Option Y) (o : Option X) → ((x : X) → o ≡ Some x → (y : Y) → f x ≡ Some y → P y) → (y : Y) → option_and_then f o ≡ Some y → P y
  then_some f None h y e = absurd (none-some y e)
  then_some f (Some x) h y e = h x refl y e

  mapped_some : (f : X → Y) (o : Option X) → ((x : X) → o ≡ Some x → P (f x)) → (y : Y) → option_map f o ≡ Some y → P y
  mapped_some f None h y e = absurd (none-some y e)
  mapped_some f (Some x) h y e = subst P (same_Some (f x) y e) (h x refl)

items_weight : (ts : Trees) → total weight (items_of ts) ≡ weight_items ts
items_weight no_trees = refl
items_weight (tree_and t ts) = ap (λ n. weight t + n) (items_weight ts)

-- what f gives of each item
each_size : {Y : Type 0} (f : Tree → Option Y) (c : Y → ℕ) → ((t : Tree) (y : Y) → f t ≡ Some y → c y ≤ weight t) → (xs : List Tree) (ys : List Y) → each f xs ≡ Some ys → total c ys ≤ total weight xs
each_size f c h [] ys e = subst (λ z. total c z ≤ 0) (same_Some [] ys e) (omega arith)
each_size f c h (x ∷ xs) ys e =
    then_some (λ z. total c z ≤ weight x + total weight xs) (λ y. option_map (λ zs. y ∷ zs) (each f xs)) (f x) (λ y one.
    mapped_some (λ z. total c z ≤ weight x + total weight xs) (λ zs. y ∷ zs) (each f xs) (λ zs more. omega (arith, h x y one, each_size f c h xs zs more))) ys e

four_times : {X : Type 0} (c : X → ℕ) (xs : List X) → total (λ x. 4 * c x) xs ≡ 4 * total c xs
four_times c [] = refl
four_times c (x ∷ xs) = let e = four_times c xs in omega (arith, e)

-- an array of items, each of which has so many positions
array_size : {Y : Type 0} (f : Tree → Option Y) (c : Y → ℕ) → ((t : Tree) (y : Y) → f t ≡ Some y → 4 * c y ≤ weight t)
    → (t : Tree) (ys : List Y) → option_and_then (each f) (array_items t) ≡ Some ys → 4 * total c ys + 2 ≤ weight t
array_size f c h (array i ts) ys e = omega (arith, each_size f (λ y. 4 * c y) h (items_of ts) ys e, four_times c ys, items_weight ts)
array_size f c h _ ys e = absurd (none-some ys e)

number_weight : (t : Tree) (n : Numeral × ℕ) → number_at t ≡ Some n → 1 ≤ weight t
number_weight (number i m) n e = omega arith
number_weight _ n e = absurd (none-some n e)

two_numbers : (ns : List (Numeral × ℕ)) (p : Position) → position_of_numbers ns ≡ Some p → 2 ≤ length ns
two_numbers (x ∷ y ∷ further) p e = omega arith
two_numbers _ p e = absurd (none-some p e)

numbers_weight : (t : Tree) (ns : List (Numeral × ℕ)) → option_and_then (each number_at) (array_items t) ≡ Some ns → length ns + 2 ≤ weight t
numbers_weight (array i ts) ns e = omega (arith, each_size number_at (λ n. 1) number_weight (items_of ts) ns e, each_one ns, items_weight ts)
numbers_weight _ ns e = absurd (none-some ns e)

position_weight : (t : Tree) (p : Position) → position_of t ≡ Some p → 4 * 1 ≤ weight t
position_weight t = then_some (λ p. 4 * 1 ≤ weight t) position_of_numbers (option_and_then (each number_at) (array_items t)) (λ ns read p two. omega (arith, numbers_weight t ns read, two_numbers ns p two))

list_weight : (t : Tree) (ps : Positions) → positions_of t ≡ Some ps → 4 * count_of ps ≤ weight t
list_weight t = mapped_some (λ ps. 4 * count_of ps ≤ weight t) (λ items. record { at = offset_of t; items = items }) (option_and_then (each position_of) (array_items t))
    (λ items read. omega (arith, array_size position_of (λ p. 1) position_weight t items read, each_one items))

lists_weight : (t : Tree) (ls : List Positions) → lists_of t ≡ Some ls → 4 * rings_of ls ≤ weight t
lists_weight t ls e = omega (arith, array_size positions_of count_of list_weight t ls e)

some_items : {X : Type 0} (xs ys : List X) → if_some_items xs ≡ Some ys → xs ≡ ys
some_items [] ys e = absurd (none-some ys e)
some_items (x ∷ xs) ys e = same_Some (x ∷ xs) ys e

area_weight : (t : Tree) (rings : List Positions) → area_of t ≡ Some rings → 4 * rings_of rings ≤ weight t
area_weight t = then_some (λ z. 4 * rings_of z ≤ weight t) if_some_items (lists_of t) (λ ls read rings same. subst (λ z. 4 * rings_of z ≤ weight t) (some_items ls rings same) (lists_weight t ls read))

areas_weight : (t : Tree) (areas : List (List Positions)) → areas_of t ≡ Some areas → 4 * total rings_of areas ≤ weight t
areas_weight t areas e = omega (arith, array_size area_of rings_of area_weight t areas e)

all_points : (ps : List Position) → total one_of (map (λ p. Some p) ps) ≡ length ps
all_points [] = refl
all_points (p ∷ ps) = let e = all_points ps in omega (arith, e)

all_lists : (ls : List Positions) → total listed_of (map (λ l. Some l) ls) ≡ rings_of ls
all_lists [] = refl
all_lists (l ∷ ls) = let e = all_lists ls in omega (arith, e)

form_weight : (kind : Kind) (t : Tree) (g : wkt.Geometry) → geometry_of_form kind t ≡ Some g → 4 * weight_of g ≤ weight t
form_weight kind t = by kind where
  P : wkt.Geometry → Type 0
  P g = 4 * weight_of g ≤ weight t

  by : (kind : Kind) (g : wkt.Geometry) → geometry_of_form kind t ≡ Some g → P g
  by kinds.Point = mapped_some P (λ p. wkt.point (Some p)) (position_of t) (position_weight t)
  by kinds.MultiPoint = mapped_some P (λ (ps : Positions). wkt.multi_point (map (λ p. Some p) ps.items)) (positions_of t) (λ ps read. omega (arith, list_weight t ps read, all_points ps.items))
  by kinds.LineString = mapped_some P (λ ps. wkt.line_string (Some ps)) (positions_of t) (list_weight t)
  by kinds.MultiLineString = mapped_some P (λ ls. wkt.multi_line_string (map (λ l. Some l) ls)) (lists_of t) (λ ls read. omega (arith, lists_weight t ls read, all_lists ls))
  by kinds.Polygon = mapped_some P (λ rings. wkt.polygon rings) (lists_of t) (lists_weight t)
  by kinds.MultiPolygon = mapped_some P (λ areas. wkt.multi_polygon areas) (areas_of t) (areas_weight t)
  by _ = λ g e. absurd (none-some g e)

geometry_weight : (kind : Kind) (t : Tree) (g : wkt.Geometry) → geometry_of kind t ≡ Some g → 4 * weight_of g ≤ weight t
geometry_weight kind (array i no_trees) g e = subst (λ z. 4 * weight_of z ≤ 2) (same_Some (wkt.collection wkt.no_geometries) g e) (omega arith)
geometry_weight kind t g e = form_weight kind t g e

-- ---- members

abbrev member_weight : Option Tree → ℕ
member_weight None = 0
member_weight (Some t) = weight t

named_size : (name : List ℕ) (ms : Members) → member_weight (member_named name ms) ≤ weight_members ms
named_size name no_members = omega arith
named_size name (member_and n i t ms) = go (is_named name n) (named_size name ms) where
  go : (b : Bool) → member_weight (member_named name ms) ≤ weight_members ms → member_weight (if b then Some t else member_named name ms) ≤ weight t + weight_members ms
  go true l = omega arith
  go false l = omega (arith, l)

-- ---- shapes

module _ (digits : ℕ) (how : Coords) where
  -- four times the positions of a reading
  abbrev room : GeometryRead → ℕ
  room r = 4 * size r.shape

  spelled_room : (o : Option wkt.Geometry) (at n : ℕ) → ((g : wkt.Geometry) → o ≡ Some g → 4 * weight_of g ≤ n)
      → room (elim o [ None ↦ not_geometry at | Some g ↦ record { shape = shape_of digits how g; faults = faults_of digits how g } ]) ≤ n
  spelled_room None at n h = omega arith
  spelled_room (Some g) at n h = let l = h g refl in let s = shape_size digits how g in omega (arith, l, s)

  coordinates_room : (at : ℕ) (kind : Kind) (o : Option Tree) → room (coordinates_reading digits how at kind o) ≤ member_weight o
  coordinates_room at kind None = omega arith
  coordinates_room at kind (Some t) = spelled_room (geometry_of kind t) (offset_of t) (weight t) (geometry_weight kind t)

  kind_room : (at : ℕ) (ms : Members) (collected : GeometryRead) (kind : Option Kind) → room collected ≤ weight_members ms → room (kind_reading digits how at ms collected kind) ≤ weight_members ms
  kind_room at ms collected None h = omega arith
  kind_room at ms collected (Some kinds.FeatureCollection) h = omega arith
  kind_room at ms collected (Some kinds.Feature) h = omega arith
  kind_room at ms collected (Some kinds.GeometryCollection) h = h
  kind_room at ms collected (Some kind) h = omega (arith, coordinates_room at kind (member_named (codes "coordinates") ms), named_size (codes "coordinates") ms)

  either_room : (b : Bool) (r q : GeometryRead) (m n : ℕ) → room r ≤ m → room q ≤ n → room (if b then r else q) ≤ m + n
  either_room true r q m n h k = omega (arith, h)
  either_room false r q m n h k = omega (arith, k)

  both_room : (r q : GeometryRead) (m n : ℕ) → room r ≤ m → room q ≤ n → room (both_read r q) ≤ m + n
  both_room r q m n h k = let b = both_size r.shape q.shape in omega (arith, h, k, b)

  mutual
    reading_room : (t : Tree) → room (geometry_reading digits how t) ≤ weight t
    reading_room (object at ms) = let l = kind_room at ms (collection_reading digits how at ms) (kind_of ms) (collection_room at ms) in omega (arith, l)
    reading_room _ = omega arith

    collection_room : (at : ℕ) (ms : Members) → room (collection_reading digits how at ms) ≤ weight_members ms
    collection_room at no_members = omega arith
    collection_room at (member_and name i t ms) =
        either_room (is_named (codes "geometries") name) (geometries_reading digits how at t) (collection_reading digits how at ms) (weight t) (weight_members ms) (geometries_room at t) (collection_room at ms)

    geometries_room : (at : ℕ) (t : Tree) → room (geometries_reading digits how at t) ≤ weight t
    geometries_room at (array i ts) = let l = items_room ts in omega (arith, l)
    geometries_room at _ = omega arith

    items_room : (ts : Trees) → room (items_reading digits how ts) ≤ weight_items ts
    items_room no_trees = omega arith
    items_room (tree_and t ts) = both_room (geometry_reading digits how t) (items_reading digits how ts) (weight t) (weight_items ts) (reading_room t) (items_room ts)

  member_room : (o : Option Tree) → room (geometry_member_reading digits how o) ≤ member_weight o
  member_room None = omega arith
  member_room (Some (literal i the_null)) = omega arith
  member_room (Some t) = reading_room t

  -- ---- features

  -- four times the positions of features, and their count
  abbrev taken : List Feature → ℕ
  taken fs = 4 * length (all_positions fs) + length fs

  taken_one : (f : Feature) → taken (f ∷ []) ≡ 4 * size f.shape + 1
  taken_one f = let a = length-append (positions f.shape) [] in let p = positions_size f.shape in omega (arith, a, p)

  taken_both : (fs gs : List Feature) → taken (fs ++ gs) ≡ taken fs + taken gs
  taken_both fs gs =
      omega (arith, ap length (flat_map-append (λ (f : Feature). positions f.shape) fs gs), length-append (all_positions fs) (all_positions gs), length-append fs gs)

  feature_taken : (at : ℕ) (ms : Members) → taken (feature_reading digits how at ms).features ≤ weight_members ms + 2
  feature_taken at ms =
      let geometry = geometry_member_reading digits how (member_named (codes "geometry") ms) in
      let one = taken_one (feature_of at geometry (properties_texts (member_named (codes "properties") ms))) in
      omega (arith, one, member_room (member_named (codes "geometry") ms), named_size (codes "geometry") ms)

  if_feature_taken : (at : ℕ) (ms : Members) (kind : Option Kind) → taken (if_feature digits how at ms kind).features ≤ weight_members ms + 2
  if_feature_taken at ms (Some kinds.Feature) = feature_taken at ms
  if_feature_taken at ms _ = omega arith

  item_taken : (t : Tree) → taken (item_reading digits how t).features ≤ weight t
  item_taken (object at ms) = if_feature_taken at ms (kind_of ms)
  item_taken _ = omega arith

  all_taken : (ts : Trees) → taken (all_features (map (item_reading digits how) (items_of ts))).features ≤ weight_items ts
  all_taken no_trees = omega arith
  all_taken (tree_and t ts) =
      omega (arith, item_taken t, all_taken ts, taken_both (item_reading digits how t).features (all_features (map (item_reading digits how) (items_of ts))).features)

  collection_taken : (at : ℕ) (o : Option Tree) → taken (features_reading digits how at o).features ≤ member_weight o
  collection_taken at (Some (array i ts)) = let l = all_taken ts in omega (arith, l)
  collection_taken at _ = omega arith

  root_taken : (at : ℕ) (ms : Members) (kind : Option Kind) → taken (root_of_kind digits how at ms kind).features ≤ weight_members ms + 2
  root_taken at ms None = omega arith
  root_taken at ms (Some kinds.FeatureCollection) =
      omega (arith, collection_taken at (member_named (codes "features") ms), named_size (codes "features") ms)
  root_taken at ms (Some kinds.Feature) = feature_taken at ms
  root_taken at ms (Some kind) =
      omega (arith, taken_one (feature_of at (geometry_reading digits how (object at ms)) []), kind_room at ms (collection_reading digits how at ms) (kind_of ms) (collection_room at ms))

  features_taken : (t : Tree) → taken (features_of digits how t) ≤ weight t
  features_taken (object at ms) = root_taken at ms (kind_of ms)
  features_taken _ = omega arith

  -- four bytes for each position, and one more for each feature
  pub text_features_size : (at : ℕ) (w : List ℕ) (t : Tree) → IsTextOf at w t → 4 * length (all_positions (features_of digits how t)) + length (features_of digits how t) ≤ length w
  text_features_size at w t h = let l = features_taken t in let m = text_size at w t h in omega (arith, l, m)

  pub json_features_size : (bytes : List ℕ) (t : Tree) → IsFileOf bytes t → 4 * length (all_positions (features_of digits how t)) + length (features_of digits how t) ≤ length bytes
  json_features_size bytes t h = let l = text_features_size _ _ t h in let d = length-drop (base_of bytes) bytes in omega (arith, l, d)
