-- The members of an object for which some kind asks, by their names.
use Rattle.std.specs.Prelude.{ℕ, Bool, true, false, if◌then◌else◌, bytes_eq, codes, List}
use Rattle.at_scan.specs.declared.fields.Field.{Field}
use Rattle.at_scan.specs.declared.fields.Field.TheVariants as names

-- which of the tests is the first to hold
abbrev pub first_field : Bool → Bool → Bool → Bool → Bool → Bool → Field
first_field kind coordinates geometry properties features geometries = if kind then names.Kind else if coordinates
    then names.Coordinates else if geometry then names.Geometry else if properties then names.Properties
    else if features then names.Features else if geometries then names.Geometries else names.Other

abbrev pub field_of : List ℕ → Field
field_of name = first_field (bytes_eq name (codes "type")) (bytes_eq name (codes "coordinates"))
    (bytes_eq name (codes "geometry")) (bytes_eq name (codes "properties")) (bytes_eq name (codes "features"))
    (bytes_eq name (codes "geometries"))

abbrev pub is_kind : Field → Bool
is_kind names.Kind = true
is_kind _ = false

abbrev pub is_coordinates : Field → Bool
is_coordinates names.Coordinates = true
is_coordinates _ = false

abbrev pub is_geometry : Field → Bool
is_geometry names.Geometry = true
is_geometry _ = false

abbrev pub is_properties : Field → Bool
is_properties names.Properties = true
is_properties _ = false

abbrev pub is_features : Field → Bool
is_features names.Features = true
is_features _ = false

abbrev pub is_geometries : Field → Bool
is_geometries names.Geometries = true
is_geometries _ = false

-- no kind asks for the member
abbrev pub is_no_field : Field → Bool
is_no_field names.Other = true
is_no_field _ = false
