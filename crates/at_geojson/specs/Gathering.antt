-- What the private functions make of atoms one by one and of lists of them. Only contracts of private functions cite
-- this.
use Rattle.std.specs.Prelude.{◌≡◌, ℕ, ◌-◌, ◌==◌, min, ℤ, pos, Bool, true, false, not, ◌&&◌, ◌||◌, if◌then◌else◌}
use Rattle.std.specs.Prelude.{bytes_eq, List, [], ◌∷◌, ◌++◌, fold, map, length, Option, Some, None, is_none}
use Rattle.std.specs.Prelude.{slice_get}
use Rattle.std.specs.List.{list_all, list_any}
use Rattle.std.specs.Ordering.{int_eq}
use Rattle.std.specs.Prelude.{Result, Ok, Err}
use Rattle.std.specs.Bool.{⊤}
use Rattle.at_text.specs.Faults.{fault_at, first_fault}
use Rattle.at_text.specs.declared.faults.Fault.{Fault}
use Rattle.at_text.specs.declared.faults.FaultKind.TheVariants.{Twin}
use Rattle.at_geom.specs.declared.positions.Pos.{Pos}
use Rattle.at_geom.specs.declared.shapes.Polygon.{Polygon}
use Rattle.at_geom.specs.declared.shapes.Shape.{Shape}
use Rattle.at_geom.specs.Shapes.{both}
use Rattle.at_query.specs.declared.answer.parts.Part.{Part}
use Rattle.at_query.specs.Parts.{AreAlike, JoinsParts}
use Rattle.at_query.specs.Keeping.{kept}
use Rattle.at_geom.specs.Shapes.{line_fault, ring_fault}
use Rattle.at_nest.specs.declared.algebra.Member.{Member}
use Rattle.at_geojson.specs.declared.atoms.atom.GeoAtom.{GeoAtom}
use Rattle.at_geojson.specs.declared.atoms.atom.GeoAtom.TheVariants as atoms
use Rattle.at_geojson.specs.declared.atoms.atom.Items.{Items}
use Rattle.at_geojson.specs.declared.atoms.atom.PointsAtom.{PointsAtom}
use Rattle.at_geojson.specs.declared.atoms.atom.ListsAtom.{ListsAtom}
use Rattle.at_geojson.specs.declared.atoms.atom.AreasAtom.{AreasAtom}
use Rattle.at_geojson.specs.declared.atoms.sorts.Sort.{Sort}
use Rattle.at_geojson.specs.declared.atoms.sorts.Sort.TheVariants as sorts
use Rattle.at_geojson.specs.Atoms.{twin_of, at_of, nowhere, NumberView, PositionView, PointsView, ListsView, as_number}
use Rattle.at_geojson.specs.Atoms.{as_position, as_points, as_area, as_run, to_four, role_of, role_geometry, role_item}

-- the first of the faults that f finds
abbrev pub firsts : {X : Type 0} → (X → Option Fault) → List X → Option Fault
firsts f xs = fold (λ first x. first_fault first (f x)) None xs

-- what f tells of a view, where there is one
abbrev pub seen : {X Z : Type 0} → Z → (X → Z) → Option X → Z
seen none f None = none
seen none f (Some x) = f x

-- ---- equal names

abbrev pub is_among : List (Member GeoAtom) → List ℕ → Bool
is_among members name = list_any (λ (m : Member GeoAtom). bytes_eq name m.name) members

-- a fault of the member's own name, where it is a twin
abbrev pub own_twin : Bool → Member GeoAtom → Option Fault
own_twin is_twin m = if is_twin then Some (fault_at Twin m.name_at) else None

abbrev pub twin_at : Bool → Member GeoAtom → Option Fault
twin_at is_twin m = first_fault (own_twin is_twin m) (twin_of m.value)

abbrev pub member_twins : List (Member GeoAtom) → List (Member GeoAtom) → Option Fault
member_twins earlier [] = None
member_twins earlier (m ∷ ms) = first_fault (twin_at (is_among earlier m.name) m) (member_twins (earlier ++ m ∷ []) ms)

-- ---- offsets

abbrev pub first_at : List GeoAtom → ℕ
first_at [] = 0
first_at (a ∷ rest) = at_of a

abbrev pub least_of : List GeoAtom → ℕ
least_of items = fold (λ least a. min least (at_of a)) (first_at items) items

-- ---- sorts

abbrev pub rank : Sort → ℕ
rank sorts.Other = 0
rank sorts.Number = 1
rank sorts.Position = 2
rank sorts.Points = 3
rank sorts.Lists = 4

abbrev pub sort_of : GeoAtom → Sort
sort_of (atoms.Number a) = sorts.Number
sort_of (atoms.BadNumber f) = sorts.Number
sort_of (atoms.Position a) = sorts.Position
sort_of (atoms.BadPosition a) = sorts.Position
sort_of (atoms.Track t) = sorts.Position
sort_of (atoms.Points a) = sorts.Points
sort_of (atoms.Empty at) = sorts.Points
sort_of (atoms.Series s) = sorts.Points
sort_of (atoms.Lists a) = sorts.Lists
sort_of _ = sorts.Other

abbrev pub are_all : ℕ → List GeoAtom → Bool
are_all r items = list_all (λ a. rank (sort_of a) == r) items

abbrev pub first_sort : List GeoAtom → Sort
first_sort [] = sorts.Other
first_sort (a ∷ rest) = sort_of a

abbrev pub sort_of_all : List GeoAtom → Sort
sort_of_all items = if are_all (rank (first_sort items)) items then first_sort items else sorts.Other

-- ---- numbers and positions

abbrev pub number_value : GeoAtom → ℤ
number_value a = seen (pos 0) (λ (v : NumberView). v.value) (as_number a)

abbrev pub number_fault : GeoAtom → Option Fault
number_fault a = seen None (λ (v : NumberView). v.fault) (as_number a)

abbrev pub position_value : GeoAtom → Pos
position_value a = seen nowhere (λ (v : PositionView). v.pos) (as_position a)

abbrev pub position_fault : GeoAtom → Option Fault
position_fault a = seen None (λ (v : PositionView). v.fault) (as_position a)

abbrev pub position_made : ℕ → ℕ → GeoAtom → GeoAtom → Option Fault → GeoAtom
position_made at least x y None =
    atoms.Position (record { at = at; least = least; pos = record { x = number_value x; y = number_value y } })
position_made at least x y (Some f) = atoms.BadPosition (record { at = at; least = least; fault = f })

abbrev pub position_atom : ℕ → ℕ → GeoAtom → GeoAtom → GeoAtom
position_atom at least x y = position_made at least x y (first_fault (number_fault x) (number_fault y))

-- the position of the first two numbers, where there are two
abbrev pub pair_at : ℕ → ℕ → Option GeoAtom → Option GeoAtom → Option GeoAtom
pair_at at least (Some x) (Some y) = Some (position_atom at least x y)
pair_at at least _ _ = None

abbrev pub pair_atom : ℕ → ℕ → List GeoAtom → Option GeoAtom
pair_atom at least items = pair_at at least (slice_get items 0) (slice_get items 1)

abbrev pub closes_with : GeoAtom → GeoAtom → Bool
closes_with a b = not (is_none (position_fault a) && is_none (position_fault b))
    || (int_eq (position_value a).x (position_value b).x && int_eq (position_value a).y (position_value b).y)

abbrev pub closes_at : Option GeoAtom → Option GeoAtom → Bool
closes_at (Some a) (Some b) = closes_with a b
closes_at _ _ = true

abbrev pub closes : List GeoAtom → Bool
closes items = closes_at (slice_get items 0) (slice_get items (length items - 1))

abbrev pub last_atom : GeoAtom → List GeoAtom → GeoAtom
last_atom a [] = a
last_atom a (b ∷ rest) = last_atom b rest

-- positions as an atom
pub record MakesPoints (needs : Bool) (at least : ℕ) (items : List GeoAtom) (result : GeoAtom) : Type 0 where
  pub atom : PointsAtom
  pub result_is : result ≡ atoms.Points atom
  pub at_is : atom.at ≡ at
  pub least_is : atom.least ≡ least
  pub path : atom.points.value.path.items ≡ kept needs (map position_value items)
  pub as_points : atom.points.value.as_points ≡ firsts position_fault items
  pub as_line : atom.points.value.as_line ≡ first_fault (line_fault (to_four (length items)) at)
      (firsts position_fault items)
  pub as_ring : atom.points.value.as_ring ≡ first_fault (ring_fault (to_four (length items)) (closes items) at)
      (firsts position_fault items)

-- ---- lists of positions

abbrev pub fault_as_line : GeoAtom → Option Fault
fault_as_line a = seen None (λ (v : PointsView). v.as_line) (as_points a)

abbrev pub fault_as_ring : GeoAtom → Option Fault
fault_as_ring a = seen None (λ (v : PointsView). v.as_ring) (as_points a)

abbrev pub path_in : GeoAtom → List Pos
path_in a = seen [] (λ (v : PointsView). v.path) (as_points a)

pub record MakesLists (needs : Bool) (at least : ℕ) (items : List GeoAtom) (result : GeoAtom) : Type 0 where
  pub atom : ListsAtom
  pub result_is : result ≡ atoms.Lists atom
  pub at_is : atom.at ≡ at
  pub least_is : atom.least ≡ least
  pub paths : atom.lists.value.paths.items ≡ kept needs (map path_in items)
  pub as_lines : atom.lists.value.as_lines ≡ firsts fault_as_line items
  pub as_rings : atom.lists.value.as_rings ≡ firsts fault_as_ring items

-- ---- areas

abbrev pub area_fault : GeoAtom → Option Fault
area_fault a = seen None (λ (v : ListsView). v.as_rings) (as_area a)

abbrev pub rings_in : GeoAtom → List (List Pos)
rings_in a = seen [] (λ (v : ListsView). v.paths) (as_area a)

abbrev pub polygon_in : GeoAtom → Polygon
polygon_in a = record { rings = rings_in a }

pub record MakesAreas (needs : Bool) (at least : ℕ) (items : List GeoAtom) (result : GeoAtom) : Type 0 where
  pub atom : AreasAtom
  pub result_is : result ≡ atoms.Areas atom
  pub at_is : atom.at ≡ at
  pub least_is : atom.least ≡ least
  pub polygons : atom.areas.value.polygons.items ≡ kept needs (map polygon_in items)
  pub fault : atom.areas.value.fault ≡ firsts area_fault items

-- ---- items that are no coordinates

-- an object that has a kind or texts, or several values of which one is an object
abbrev pub is_object : GeoAtom → Bool
is_object (atoms.Object a) = true
is_object (atoms.Run items) = true
is_object _ = false

-- an object, or several values of which one is an object
abbrev pub is_any_object : GeoAtom → Bool
is_any_object (atoms.Object a) = true
is_any_object (atoms.Run items) = true
is_any_object (atoms.Void at) = true
is_any_object _ = false

-- an array of which the items' roles are kept
abbrev pub items_kept : GeoAtom → Bool
items_kept (atoms.Items a) = true
items_kept _ = false

-- what an atom is beside those of other items, as geometries and as features
abbrev pub item_geometries : GeoAtom → Result Shape Fault
item_geometries a = seen (role_geometry (at_of a) (role_of a)) (λ (items : Items). items.geometries) (as_run a)

abbrev pub item_features : GeoAtom → Result Part Fault
item_features a = seen (role_item (at_of a) (role_of a)) (λ (items : Items). items.features) (as_run a)

-- shapes, or parts, one behind another: both, where neither has a fault, and else the first fault
abbrev pub IsFirst : {X : Type 0} → Fault → Fault → Result X Fault → Type 0
IsFirst f g result = (first : Fault) × (result ≡ Err first) × (Some first ≡ first_fault (Some f) (Some g))

abbrev pub JoinsShapes : Result Shape Fault → Result Shape Fault → Result Shape Fault → Type 0
JoinsShapes (Ok a) (Ok b) result = result ≡ Ok (both a b)
JoinsShapes (Ok a) (Err g) result = result ≡ Err g
JoinsShapes (Err f) (Ok b) result = result ≡ Err f
JoinsShapes (Err f) (Err g) result = IsFirst f g result

abbrev pub JoinsFound : Result Part Fault → Result Part Fault → Result Part Fault → Type 0
JoinsFound (Ok a) (Ok b) result = (part : Part) × (result ≡ Ok part) × JoinsParts a b part
JoinsFound (Ok a) (Err g) result = result ≡ Err g
JoinsFound (Err f) (Ok b) result = result ≡ Err f
JoinsFound (Err f) (Err g) result = IsFirst f g result

-- where both are parts, they are of one verb
abbrev pub AreJoinable : Result Part Fault → Result Part Fault → Type 0
AreJoinable (Ok a) (Ok b) = AreAlike a b
AreJoinable _ _ = ⊤
