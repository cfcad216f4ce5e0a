-- Positions one behind another, of which something is made as they are read. Only contracts of private functions cite this.
use Rattle.std.specs.Prelude.{◌≡◌, ℕ, ◌+◌, ◌<◌, ◌≤◌, List, length, None}
use Rattle.std.specs.Bool.{⊤}
use Rattle.at_geom.specs.declared.positions.Pos.{Pos}
use Rattle.at_geom.specs.declared.shapes.Polygon.{Polygon}
use Rattle.at_query.specs.Keeping.{Asked, kept, needs_shapes}
use Rattle.at_geojson.specs.declared.atoms.atom.PositionAtom.{PositionAtom}
use Rattle.at_geojson.specs.declared.coordinates.spots.Spot.{Spot}
use Rattle.at_geojson.specs.declared.atoms.atom.Areas.{Areas}
use Rattle.at_geojson.specs.declared.atoms.atom.Lists.{Lists}
use Rattle.at_geojson.specs.declared.coordinates.makings.LineMade.{LineMade}
use Rattle.at_geojson.specs.declared.coordinates.makings.LinesMade.{LinesMade}
use Rattle.at_geojson.specs.declared.coordinates.makings.AreasMade.{AreasMade}
use Rattle.at_geojson.specs.declared.coordinates.pairs.PairPlace.{PairPlace}
use Rattle.at_geojson.specs.Passing.{IsPairAt}
use Rattle.at_geojson.specs.Rows.{PointsRead, ArePointsWhole}
use Rattle.at_geojson.specs.Rings.{ListsRead, ArePointsItem, AreListsWhole, AreListsItem, AreAreasWhole}
use Rattle.at_geojson.specs.Values.{IsSpacedPair}

-- ---- what is known of a position

-- its value is the mark
abbrev pub IsValue : Pos → Pos → Type 0
IsValue p mark = mark ≡ p

-- where it stands is no matter
abbrev pub IsAnywhere : Asked → List ℕ → ℕ → ℕ → Pos → Type 0
IsAnywhere asked w at end p = ⊤

-- a position of this value stands from the place up to the end
abbrev pub IsPassedOver : Asked → List ℕ → ℕ → ℕ → Pos → Type 0
IsPassedOver asked w at end p = (place : PairPlace) × (place.end ≡ end) × IsPairAt asked w at place p

-- white space, a position with this mark, and white space
pub record ReadsSpot {M : Type 0} (Marks : Pos → M → Type 0) (Stands : ℕ → Pos → Type 0) (asked : Asked) (base : ℕ)
    (w : List ℕ) (at : ℕ) (s : Spot M) : Type 0 where
  pub pair : PositionAtom
  pub at_is : pair.at ≡ base + s.bracket
  pub spaced : IsSpacedPair asked base w at (record { end = s.end; pair = pair })
  pub marks : Marks pair.pos s.mark
  pub stands : Stands s.end pair.pos

-- ---- a list of positions

-- a list of positions from the place on, of which this is made behind what was made before it: it is the list of whatever
-- keeps its positions, where shapes are kept
pub record MakesLine {B L : Type 0} (Tells : B → List Pos → L → Type 0) (before : B) (asked : Asked) (base : ℕ)
    (w : List ℕ) (at : ℕ) (m : LineMade L) : Type 0 where
  pub path : List Pos
  pub few : length path ≤ length w
  pub tells : Tells before path m.made
  pub at_is : m.at ≡ base + at
  pub order : at < m.end
  pub within : m.end ≤ length w
  pub whole : (p : PointsRead) → p.at ≡ m.at → p.least ≡ m.least → p.end ≡ m.end
      → p.points.path.items ≡ kept (needs_shapes asked.query) path → p.points.as_points ≡ None
      → p.points.as_line ≡ m.as_line → p.points.as_ring ≡ m.as_ring → ArePointsWhole asked base w at p

-- the same with white space round it: such a list would be there
pub record MakesLineItem {B L : Type 0} (Tells : B → List Pos → L → Type 0) (before : B) (asked : Asked) (base : ℕ)
    (w : List ℕ) (at : ℕ) (m : LineMade L) : Type 0 where
  pub path : List Pos
  pub tells : Tells before path m.made
  pub points : PointsRead
  pub item : ArePointsItem asked base w at points
  pub at_is : points.at ≡ m.at
  pub end_is : points.end ≡ m.end
  pub kept_is : points.points.path.items ≡ kept (needs_shapes asked.query) path
  pub points_is : points.points.as_points ≡ None
  pub line_is : points.points.as_line ≡ m.as_line
  pub ring_is : points.points.as_ring ≡ m.as_ring

-- ---- an array of lists of positions

-- the same of an array of such lists
pub record MakesLines {B L : Type 0} (Tells : B → List (List Pos) → L → Type 0) (before : B) (asked : Asked) (base : ℕ)
    (w : List ℕ) (at : ℕ) (m : LinesMade L) : Type 0 where
  pub paths : List (List Pos)
  pub few : length paths ≤ length w
  pub tells : Tells before paths m.made
  pub order : at < m.end
  pub within : m.end ≤ length w
  pub whole : (lists : Lists) → lists.paths.items ≡ kept (needs_shapes asked.query) paths
      → lists.as_lines ≡ m.as_lines → lists.as_rings ≡ m.as_rings
      → AreListsWhole asked base w at (record { at = m.at; least = m.least; end = m.end; lists = lists })

-- the same with white space round it: such an array would be there
pub record MakesLinesItem {B L : Type 0} (Tells : B → List (List Pos) → L → Type 0) (before : B) (asked : Asked)
    (base : ℕ) (w : List ℕ) (at : ℕ) (m : LinesMade L) : Type 0 where
  pub paths : List (List Pos)
  pub tells : Tells before paths m.made
  pub lists : ListsRead
  pub item : AreListsItem asked base w at lists
  pub at_is : lists.at ≡ m.at
  pub end_is : lists.end ≡ m.end
  pub kept_is : lists.lists.paths.items ≡ kept (needs_shapes asked.query) paths
  pub lines_is : lists.lists.as_lines ≡ m.as_lines
  pub rings_is : lists.lists.as_rings ≡ m.as_rings

-- ---- an array of areas

-- the polygon of these rings
abbrev pub polygon : List (List Pos) → Polygon
polygon rings = record { rings = rings }

-- the same of an array of areas
pub record MakesPolygons {B L : Type 0} (Tells : B → List Polygon → L → Type 0) (before : B) (asked : Asked) (base : ℕ)
    (w : List ℕ) (at : ℕ) (m : AreasMade L) : Type 0 where
  pub polygons : List Polygon
  pub few : length polygons ≤ length w
  pub tells : Tells before polygons m.made
  pub within : m.end ≤ length w
  pub whole : (areas : Areas) → areas.polygons.items ≡ kept (needs_shapes asked.query) polygons
      → areas.fault ≡ m.fault
      → AreAreasWhole asked base w at (record { at = m.at; least = m.least; end = m.end; areas = areas })
