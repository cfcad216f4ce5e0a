-- The form of the coordinates of each kind (RFC 7946 sections 3.1.1 to 3.1.7).
use Rattle.std.specs.Prelude.{ℕ, List, [], ◌∷◌, map, Option, Some, None, option_map, option_and_then}
use Rattle.at_fixed.specs.Numerals.{Numeral}
use Rattle.at_wkt.specs.Positions.{Position, Positions}
use Rattle.at_wkt.specs.Geometry as wkt
use Rattle.at_nest.specs.Tree.{Tree, number, array, no_trees, offset_of}
use Rattle.at_scan.specs.declared.kinds.Kind.{Kind}
use Rattle.at_scan.specs.declared.kinds.Kind.TheVariants.{Point, MultiPoint, LineString, MultiLineString, Polygon}
use Rattle.at_scan.specs.declared.kinds.Kind.TheVariants.{MultiPolygon}
use Rattle.at_geojson.specs.Names.{items_of}

-- what f gives of each item, where it gives something of all
abbrev pub each : {X Y : Type 0} → (X → Option Y) → List X → Option (List Y)
each f [] = Some []
each f (x ∷ xs) = option_and_then (λ y. option_map (λ ys. y ∷ ys) (each f xs)) (f x)

abbrev pub array_items : Tree → Option (List Tree)
array_items (array i ts) = Some (items_of ts)
array_items _ = None

abbrev pub number_at : Tree → Option (Numeral × ℕ)
number_at (number i n) = Some (n, i)
number_at _ = None

-- two numbers or more: the first is x, the second y
abbrev pub position_of_numbers : List (Numeral × ℕ) → Option Position
position_of_numbers (x ∷ y ∷ further) = Some (record { x = x.0; x_at = x.1; y = y.0; y_at = y.1 })
position_of_numbers _ = None

abbrev pub position_of : Tree → Option Position
position_of t = option_and_then position_of_numbers (option_and_then (each number_at) (array_items t))

-- an array of positions, of arrays of positions, and so on
abbrev pub positions_of : Tree → Option Positions
positions_of t = option_map (λ items. record { at = offset_of t; items = items })
    (option_and_then (each position_of) (array_items t))

abbrev pub lists_of : Tree → Option (List Positions)
lists_of t = option_and_then (each positions_of) (array_items t)

abbrev pub if_some_items : {X : Type 0} → List X → Option (List X)
if_some_items [] = None
if_some_items (x ∷ xs) = Some (x ∷ xs)

abbrev pub area_of : Tree → Option (List Positions)
area_of t = option_and_then if_some_items (lists_of t)

abbrev pub areas_of : Tree → Option (List (List Positions))
areas_of t = option_and_then (each area_of) (array_items t)

-- the geometry that coordinates of the kind's form are; an empty array of coordinates doesn't come here
abbrev pub geometry_of_form : Kind → Tree → Option wkt.Geometry
geometry_of_form Point t = option_map (λ p. wkt.point (Some p)) (position_of t)
geometry_of_form MultiPoint t = option_map (λ (ps : Positions). wkt.multi_point (map (λ p. Some p) ps.items))
    (positions_of t)
geometry_of_form LineString t = option_map (λ ps. wkt.line_string (Some ps)) (positions_of t)
geometry_of_form MultiLineString t = option_map (λ ls. wkt.multi_line_string (map (λ l. Some l) ls)) (lists_of t)
geometry_of_form Polygon t = option_map (λ rings. wkt.polygon rings) (lists_of t)
geometry_of_form MultiPolygon t = option_map (λ areas. wkt.multi_polygon areas) (areas_of t)
geometry_of_form _ t = None

-- the geometry of a kind with these coordinates, where they have the kind's form; an empty array is empty in every kind
-- (RFC 7946 section 3.1)
abbrev pub geometry_of : Kind → Tree → Option wkt.Geometry
geometry_of kind (array i no_trees) = Some (wkt.collection wkt.no_geometries)
geometry_of kind t = geometry_of_form kind t
