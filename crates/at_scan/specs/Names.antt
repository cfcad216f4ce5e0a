-- The kinds of GeoJSON, by their names (RFC 7946 section 1.4).
use Rattle.std.specs.Prelude.{ℕ, bytes_eq, if◌then◌else◌, codes, List, Option, Some, None}
use Rattle.at_scan.specs.declared.kinds.Kind.{Kind}
use Rattle.at_scan.specs.declared.kinds.Kind.TheVariants.{FeatureCollection, Feature, Point, MultiPoint, LineString}
use Rattle.at_scan.specs.declared.kinds.Kind.TheVariants.{MultiLineString, Polygon, MultiPolygon, GeometryCollection}

-- the kind of which this is the name
abbrev pub kind_of_text : List ℕ → Option Kind
kind_of_text units =
    if bytes_eq units (codes "Point") then Some Point else
    if bytes_eq units (codes "Feature") then Some Feature else
    if bytes_eq units (codes "Polygon") then Some Polygon else
    if bytes_eq units (codes "MultiPoint") then Some MultiPoint else
    if bytes_eq units (codes "LineString") then Some LineString else
    if bytes_eq units (codes "MultiPolygon") then Some MultiPolygon else
    if bytes_eq units (codes "MultiLineString") then Some MultiLineString else
    if bytes_eq units (codes "FeatureCollection") then Some FeatureCollection else
    if bytes_eq units (codes "GeometryCollection") then Some GeometryCollection else None
