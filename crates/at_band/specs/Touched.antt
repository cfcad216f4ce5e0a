-- A position that lies on one of a shape's segments or in one of its polygons.
use Rattle.std.specs.Prelude.{◌⊎◌, List, flat_map}
use Rattle.at_text.specs.Lists.{SomeOf}
use Rattle.at_geom.specs.declared.positions.Pos.{Pos}
use Rattle.at_geom.specs.declared.shapes.Polygon.{Polygon}
use Rattle.at_geom.specs.declared.shapes.Shape.{Shape}
use Rattle.at_geom.specs.Segments.{edges}
use Rattle.at_geom.specs.Regions.{IsInRings}
use Rattle.at_geom.specs.Shapes.{MeetsSome, IsInSome, segments}

abbrev pub IsOnRings : Pos → List (List Pos) → Type 0
IsOnRings p rings = MeetsSome p p (flat_map edges rings) ⊎ IsInRings p rings

abbrev pub IsOnPolygon : Pos → Polygon → Type 0
IsOnPolygon p polygon = IsOnRings p polygon.rings

abbrev pub IsOnShape : Pos → Shape → Type 0
IsOnShape p s = MeetsSome p p (segments s) ⊎ IsInSome p s.polygons

-- some position lies on the shape
abbrev pub SomeIsOn : List Pos → Shape → Type 0
SomeIsOn ps s = SomeOf (λ (p : Pos). IsOnShape p s) ps
