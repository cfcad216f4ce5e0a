-- What is true of the zones and bands that are kept of a shape.
use Rattle.std.specs.Prelude.{◌≡◌, ℤ, ◌≤ℤ◌, List, [], All, map, Option, Some, None, IfSome, IsTrue}
use Rattle.std.specs.List.{filter, AllByRecursion}
use Rattle.at_text.specs.Lists.{SomeOf}
use Rattle.at_geom.specs.declared.positions.Pos.{Pos}
use Rattle.at_geom.specs.declared.shapes.Shape.{Shape}
use Rattle.at_geom.specs.Segments.{HaveCommonPoint}
use Rattle.at_geom.specs.Closed.{HasClosedExterior}
use Rattle.at_geom.specs.Shapes.{IsShapeInRange, segments, positions, extent_of, is_within, IsInSome}
use Rattle.at_band.specs.declared.thinning.Heights.{Heights}
use Rattle.at_band.specs.declared.zones.Band.{Band}
use Rattle.at_band.specs.declared.zones.Zone.{Zone}
use Rattle.at_band.specs.declared.bands.Frame.{Frame}
use Rattle.at_band.specs.Thinned.{spans}

-- the height is one of the heights
abbrev pub IsAt : ℤ → Heights → Type 0
IsAt y heights = (heights.low ≤ℤ y) × (y ≤ℤ heights.high)

abbrev pub IsOrdered : Heights → Type 0
IsOrdered heights = heights.low ≤ℤ heights.high

-- the heights are some of the whole
pub record IsWithin (whole heights : Heights) : Type 0 where
  pub above : whole.low ≤ℤ heights.low
  pub below : heights.high ≤ℤ whole.high

-- each height from low to high is one of some of these
abbrev pub AreCovering : ℤ → ℤ → List Heights → Type 0
AreCovering low high parts = (y : ℤ) → low ≤ℤ y → y ≤ℤ high → SomeOf (IsAt y) parts

-- at the heights the part has the edges of the shape, and its polygons have the same positions
pub record IsPartOf (s : Shape) (heights : Heights) (part : Shape) : Type 0 where
  pub ranged : IsShapeInRange s → IsShapeInRange part
  pub same_edges : filter (spans heights.low heights.high) (segments part) ≡ filter (spans heights.low heights.high)
      (segments s)
  pub in_part : (p : Pos) → IsAt p.y heights → IsInSome p s.polygons → IsInSome p part.polygons
  pub in_whole : (p : Pos) → IsAt p.y heights → IsInSome p part.polygons → IsInSome p s.polygons

abbrev pub IsBandOf : Shape → Band → Type 0
IsBandOf s band = IsPartOf s band.heights band.part

abbrev pub heights_of_band : Band → Heights
heights_of_band band = band.heights

-- the zone's bands are some of the shape's, and have each height of the zone
pub record IsZoneOf (s : Shape) (zone : Zone) : Type 0 where
  pub kept : All (IsBandOf s) zone.bands.items
  pub covering : AreCovering zone.heights.low zone.heights.high (map heights_of_band zone.bands.items)

abbrev pub heights_of_zone : Zone → Heights
heights_of_zone zone = zone.heights

-- the frame of a shape that has positions
pub record IsFrameOf (s : Shape) (frame : Frame) : Type 0 where
  pub extent_is : extent_of (positions s) ≡ Some frame.around
  pub reached : IfSome frame.reach (λ e. (p : Pos) → IsInSome p s.polygons → IsTrue (is_within e p))
  pub closed : IsTrue frame.is_closed → AllByRecursion HasClosedExterior s.polygons

pub record AreZonesOf (s : Shape) (frame : Frame) (zones : List Zone) : Type 0 where
  pub framed : IsFrameOf s frame
  pub kept : All (IsZoneOf s) zones
  pub covering : AreCovering frame.around.low.y frame.around.high.y (map heights_of_zone zones)

abbrev pub AreKept : Shape → Option Frame → List Zone → Type 0
AreKept s None zones = extent_of (positions s) ≡ None
AreKept s (Some frame) zones = AreZonesOf s frame zones

-- the segments ab and f have a common point, and f reaches into the heights
abbrev pub MeetsWithin : ℤ → ℤ → Pos → Pos → Pos × Pos → Type 0
MeetsWithin low high a b f = IsTrue (spans low high f) × HaveCommonPoint a b f.0 f.1

-- the segment ab meets one of the segments that reach into the heights
abbrev pub MeetsSomeWithin : ℤ → ℤ → Pos → Pos → List (Pos × Pos) → Type 0
MeetsSomeWithin low high a b others = SomeOf (MeetsWithin low high a b) others

-- the segment reaches into the band, and meets one of the shape's segments that do
abbrev pub IsMetIn : Pos → Pos → Shape → Band → Type 0
IsMetIn a b s band = IsTrue (spans band.heights.low band.heights.high (a, b))
    × MeetsSomeWithin band.heights.low band.heights.high a b (segments s)

-- the segment reaches into the zone, and is met in one of its bands
abbrev pub IsMetInZone : Pos → Pos → Shape → Zone → Type 0
IsMetInZone a b s zone = IsTrue (spans zone.heights.low zone.heights.high (a, b))
    × SomeOf (IsMetIn a b s) zone.bands.items

-- a shape without lines and polygons
abbrev pub IsOfPoints : Shape → Type 0
IsOfPoints s = (s.lines ≡ []) × (s.polygons ≡ [])
