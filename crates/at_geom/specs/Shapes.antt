-- Shapes: their positions and segments, where two of them meet, their extents, and what is wrong with a line or ring.
use Rattle.std.specs.Prelude.{ℕ, ◌⊎◌, Bool, false, not, ◌&&◌, ◌||◌, nat_lt, int_le, if◌then◌else◌, List, [], ◌∷◌, ◌++◌}
use Rattle.std.specs.Prelude.{All, map, flat_map, Option, Some, None}
use Rattle.std.specs.Int.{int_min, int_max}
use Rattle.std.specs.List.{list_all}
use Rattle.at_text.specs.declared.faults.Fault.{Fault}
use Rattle.at_text.specs.declared.faults.FaultKind.TheVariants.{Short, Ring}
use Rattle.at_text.specs.Faults.{fault_at}
use Rattle.at_text.specs.Lists.{SomeOf}
use Rattle.at_geom.specs.declared.positions.Pos.{Pos}
use Rattle.at_geom.specs.declared.shapes.Polygon.{Polygon}
use Rattle.at_geom.specs.declared.shapes.Shape.{Shape}
use Rattle.at_geom.specs.declared.rectangles.Extent.{Extent}
use Rattle.at_geom.specs.Segments.{HaveCommonPoint, IsInRange, edges}
use Rattle.at_geom.specs.Regions.{IsInPolygon}

abbrev pub empty_shape : Shape
empty_shape = record { points = []; lines = []; polygons = [] }

abbrev pub of_points : List Pos → Shape
of_points ps = record { points = ps; lines = []; polygons = [] }

abbrev pub of_lines : List (List Pos) → Shape
of_lines ls = record { points = []; lines = ls; polygons = [] }

abbrev pub of_polygons : List Polygon → Shape
of_polygons ps = record { points = []; lines = []; polygons = ps }

-- the parts of both, in order
abbrev pub both : Shape → Shape → Shape
both s u = record { points = s.points ++ u.points; lines = s.lines ++ u.lines; polygons = s.polygons ++ u.polygons }

-- every coordinate is in range
abbrev pub ArePathsInRange : List (List Pos) → Type 0
ArePathsInRange paths = All (All IsInRange) paths

abbrev pub ArePolygonsInRange : List Polygon → Type 0
ArePolygonsInRange polygons = All (λ (polygon : Polygon). ArePathsInRange polygon.rings) polygons

pub record IsShapeInRange (s : Shape) : Type 0 where
  pub points : All IsInRange s.points
  pub lines : ArePathsInRange s.lines
  pub polygons : ArePolygonsInRange s.polygons

abbrev pub joined : List (List Pos) → List Pos
joined paths = flat_map (λ (path : List Pos). path) paths

abbrev pub positions_of_polygons : List Polygon → List Pos
positions_of_polygons polygons = flat_map (λ (polygon : Polygon). joined polygon.rings) polygons

-- all positions of a shape
abbrev pub positions : Shape → List Pos
positions s = (s.points ++ joined s.lines) ++ positions_of_polygons s.polygons

-- each position as a segment to itself
abbrev pub segments_of_points : List Pos → List (Pos × Pos)
segments_of_points points = map (λ (p : Pos). (p, p)) points

abbrev pub segments_of_polygons : List Polygon → List (Pos × Pos)
segments_of_polygons polygons = flat_map (λ (polygon : Polygon). flat_map edges polygon.rings) polygons

-- its points, each as a segment to itself, and the edges of its lines and rings
abbrev pub segments : Shape → List (Pos × Pos)
segments s = (segments_of_points s.points ++ flat_map edges s.lines) ++ segments_of_polygons s.polygons

-- the segment ab and some of the segments have a common point
abbrev pub MeetsSome : Pos → Pos → List (Pos × Pos) → Type 0
MeetsSome a b others = SomeOf (λ (f : Pos × Pos). HaveCommonPoint a b f.0 f.1) others

-- some segment of the one list and some segment of the other have a common point
abbrev pub SomeMeet : List (Pos × Pos) → List (Pos × Pos) → Type 0
SomeMeet ones others = SomeOf (λ (e : Pos × Pos). MeetsSome e.0 e.1 others) ones

-- p is in one of the polygons
abbrev pub IsInSome : Pos → List Polygon → Type 0
IsInSome p polygons = SomeOf (IsInPolygon p) polygons

-- some position is in one of the polygons
abbrev pub SomeIsIn : List Pos → List Polygon → Type 0
SomeIsIn ps polygons = SomeOf (λ (p : Pos). IsInSome p polygons) ps

-- some segment of the one and some segment of the other have a common point, or some position of one is in a polygon of
-- the other
abbrev pub Meet : Shape → Shape → Type 0
Meet s u = SomeMeet (segments s) (segments u) ⊎ (SomeIsIn (positions s) u.polygons ⊎ SomeIsIn (positions u) s.polygons)

-- the least extent round a position and an extent, where there is one
abbrev pub widened : Pos → Option Extent → Extent
widened p None = record { low = p; high = p }
widened p (Some e) = record {
  low = record { x = int_min p.x e.low.x; y = int_min p.y e.low.y };
  high = record { x = int_max p.x e.high.x; y = int_max p.y e.high.y };
}

-- the least and greatest x and y of the positions, where there are any
abbrev pub extent_of : List Pos → Option Extent
extent_of [] = None
extent_of (p ∷ ps) = Some (widened p (extent_of ps))

abbrev pub is_within : Extent → Pos → Bool
is_within e p = (int_le e.low.x p.x && int_le p.x e.high.x) && (int_le e.low.y p.y && int_le p.y e.high.y)

-- the extent f lies in the extent e
abbrev pub encloses : Extent → Extent → Bool
encloses e f = (int_le e.low.x f.low.x && int_le f.high.x e.high.x)
    && (int_le e.low.y f.low.y && int_le f.high.y e.high.y)

-- there is a position, and each is in the closed extent
abbrev pub are_all_within : Extent → List Pos → Bool
are_all_within e [] = false
are_all_within e (p ∷ ps) = list_all (is_within e) (p ∷ ps)

-- a line has at least two positions (RFC 7946 section 3.1.4; OGC 06-103r4 section 6.1.7)
abbrev pub line_fault : ℕ → ℕ → Option Fault
line_fault count at = if nat_lt count 2 then Some (fault_at Short at) else None

-- a ring has at least four positions, and its last is its first (RFC 7946 section 3.1.6; OGC 06-103r4 section 6.1.11)
abbrev pub ring_fault : ℕ → Bool → ℕ → Option Fault
ring_fault count ends_same at = if nat_lt count 4 || not ends_same then Some (fault_at Ring at) else None
