-- Geometries of a type and of coordinates that are read at once. Only contracts of private functions cite this.
use Rattle.std.specs.Prelude.{◌≡◌, ℕ, Bool, true, false, List, Option, Some, None, Result, Ok, Err}
use Rattle.at_text.specs.declared.faults.Fault.{Fault}
use Rattle.at_geom.specs.declared.shapes.Shape.{Shape}
use Rattle.at_query.specs.declared.query.queries.Query.{Query}
use Rattle.at_scan.specs.declared.kinds.Kind.{Kind}
use Rattle.at_scan.specs.declared.known_names.KindRead.{KindRead}
use Rattle.at_scan.specs.declared.kinds.Kind.TheVariants as kinds
use Rattle.at_query.specs.declared.query.looks.Measure.{Measure}
use Rattle.at_query.specs.Keeping.{Asked, needs_shapes, measure_of}
use Rattle.at_query.specs.Tallies.{IsPartOfShape}
use Rattle.at_geojson.specs.declared.atoms.atom.GeoAtom.{GeoAtom}
use Rattle.at_geojson.specs.declared.at_once.plain_geometries.ShapeRead.{ShapeRead}
use Rattle.at_geojson.specs.declared.at_once.plain_geometries.Seen.{Seen}
use Rattle.at_geojson.specs.declared.at_once.plain_geometries.Seen.TheVariants as seens
use Rattle.at_geojson.specs.declared.at_once.plain_geometries.SeenRead.{SeenRead}
use Rattle.at_geojson.specs.Atoms.{twin_of, as_kind, IfOwnShape}
use Rattle.at_geojson.specs.Objects.{kind_shape, feature_shape}
use Rattle.at_geojson.specs.Values.{IsWhole, IsItem}

-- white space, the name of a kind, and white space
pub record IsKindRead (asked : Asked) (base : ℕ) (w : List ℕ) (at : ℕ) (p : KindRead) : Type 0 where
  pub atom : GeoAtom
  pub item : IsItem asked base w at (record { end = p.end; atom = atom })
  pub no_twin : twin_of atom ≡ None
  pub kind : as_kind atom ≡ Some p.kind

-- a geometry of the kind has coordinates
abbrev pub has_coordinates : Kind → Bool
has_coordinates kinds.FeatureCollection = false
has_coordinates kinds.Feature = false
has_coordinates kinds.GeometryCollection = false
has_coordinates _ = true

-- white space, the coordinates of a geometry of the kind, and white space
pub record IsCoordinatesItem (asked : Asked) (base : ℕ) (w : List ℕ) (at : ℕ) (kind : Kind) (p : ShapeRead)
    : Type 0 where
  pub atom : GeoAtom
  pub item : IsItem asked base w at (record { end = p.end; atom = atom })
  pub no_twin : twin_of atom ≡ None
  pub with_coordinates : has_coordinates kind ≡ true
  pub shape : p.shape ≡ kind_shape (needs_shapes asked.query) kind atom

-- an object from the place on, as a geometry
pub record IsGeometryRead (asked : Asked) (base : ℕ) (w : List ℕ) (at : ℕ) (p : ShapeRead) : Type 0 where
  pub atom : GeoAtom
  pub whole : IsWhole asked base w at (record { end = p.end; atom = atom })
  pub no_twin : twin_of atom ≡ None
  pub shape : feature_shape (Some atom) ≡ p.shape
  pub own : IfOwnShape asked p.shape

-- ---- what is seen of a shape

-- the part that the query's measure tells of the shape, or the shape itself
abbrev pub IsSeenOf : Query → Shape → Seen → Type 0
IsSeenOf query shape (seens.Measured part) = (measure : Measure) × (measure_of query ≡ Some measure)
    × IsPartOfShape measure shape part
IsSeenOf query shape (seens.Shape g) = g ≡ shape

abbrev pub IsSeen : Query → Result Shape Fault → Result Seen Fault → Type 0
IsSeen query (Ok shape) r = (seen : Seen) × (r ≡ Ok seen) × IsSeenOf query shape seen
IsSeen query (Err fault) r = r ≡ Err fault

-- what is seen, unless there is a fault
abbrev pub seen_unless : Option Fault → Seen → Result Seen Fault
seen_unless None seen = Ok seen
seen_unless (Some fault) seen = Err fault

-- a shape would be read that is such, of which this is seen
abbrev pub Sees : Asked → (ShapeRead → Type 0) → SeenRead → Type 0
Sees asked Is p = (s : ShapeRead) × Is s × (s.end ≡ p.end) × IsSeen asked.query s.shape p.seen

-- the shape that was read is seen
abbrev pub SeesShape : ShapeRead → SeenRead → Type 0
SeesShape read p = (p.end ≡ read.end) × ((query : Query) → IsSeen query read.shape p.seen)
