-- What is told of positions one by one in place of their lists: the least extent round them, or the area of the polygons
-- that they bound.
use Rattle.std.specs.Prelude.{◌≡◌, ℤ, pos, List, [], ◌∷◌, fold, Option, Some, None}
use Rattle.std.specs.Int.{w128, int_wrap}
use Rattle.at_geom.specs.declared.positions.Pos.{Pos}
use Rattle.at_geom.specs.declared.rectangles.Extent.{Extent}
use Rattle.at_geom.specs.declared.shapes.Polygon.{Polygon}
use Rattle.at_geom.specs.declared.shapes.Shape.{Shape}
use Rattle.at_geom.specs.Regions.{shoelace, wrapped_ring_size, wrapped_area_of_rings}
use Rattle.at_geom.specs.Shapes.{widened, joined, positions, positions_of_polygons, extent_of}
use Rattle.at_query.specs.declared.query.looks.Measure.{Measure}
use Rattle.at_query.specs.declared.query.looks.Measure.TheVariants as measures
use Rattle.at_query.specs.declared.answer.parts.Part.{Part}
use Rattle.at_query.specs.declared.answer.parts.Part.TheVariants as parts
use Rattle.at_query.specs.declared.answer.tallies.Tally.{Tally}
use Rattle.at_query.specs.Parts.{wrapped_sum}

-- of an extent and an area the one for which the measure asks, and nothing of the other
abbrev pub tally_of : Measure → Option Extent → ℤ → Tally
tally_of measures.Count extent area = record { extent = None; area = pos 0 }
tally_of measures.Extent extent area = record { extent = extent; area = pos 0 }
tally_of measures.Area extent area = record { extent = None; area = area }

-- the least extent round the positions and those before them
abbrev pub widened_by : Option Extent → List Pos → Option Extent
widened_by before path = fold (λ e p. Some (widened p e)) before path

-- what is told of the positions of a list up to one of them
abbrev pub SumsUp : Measure → Option Extent → List Pos → Tally → Type 0
SumsUp measure before path t = t ≡ tally_of measure (widened_by before path) (int_wrap w128 (shoelace path))

-- what is told of a list of positions
abbrev pub TalliesPath : Measure → Option Extent → List Pos → Tally → Type 0
TalliesPath measure before path t = t ≡ tally_of measure (widened_by before path) (wrapped_ring_size path)

-- what is told of lists of positions, of which there is at least one
abbrev pub TalliesLists : Measure → Option Extent → List (List Pos) → Tally → Type 0
TalliesLists measure before [] t = ⊥
TalliesLists measure before (path ∷ paths) t =
    t ≡ tally_of measure (widened_by before (joined (path ∷ paths))) (wrapped_area_of_rings (path ∷ paths))

-- what is told of polygons
abbrev pub TalliesAreas : Measure → Option Extent → List Polygon → Tally → Type 0
TalliesAreas measure before polygons t =
    t ≡ tally_of measure (widened_by before (positions_of_polygons polygons)) (wrapped_sum polygons)

-- what is told of a shape
abbrev pub TalliesShape : Measure → Shape → Tally → Type 0
TalliesShape measure shape t = t ≡ tally_of measure (extent_of (positions shape)) (wrapped_sum shape.polygons)

-- the part of one feature of this shape
abbrev pub IsPartOfShape : Measure → Shape → Part → Type 0
IsPartOfShape measures.Count shape part = part ≡ parts.Count 1
IsPartOfShape measures.Extent shape part = part ≡ parts.Spread (extent_of (positions shape))
IsPartOfShape measures.Area shape part = part ≡ parts.Area (wrapped_sum shape.polygons)
