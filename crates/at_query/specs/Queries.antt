-- What a query line means, and where its fault is (docs/QUERY.md, "The query line").
use Rattle.std.specs.Prelude.{◌≡◌, ◌⊎◌, ℕ, ℤ, min, Bool, ◌||◌, int_lt, if◌then◌else◌, List, [], ◌∷◌, ◌++◌, map}
use Rattle.std.specs.Prelude.{flat_map, Option, Some, None}
use Rattle.at_text.specs.declared.faults.Fault.{Fault}
use Rattle.at_text.specs.Prefix.{LongestViable}
use Rattle.at_fixed.specs.declared.rounding.Coords.{Coords}
use Rattle.at_lex.specs.Strings.{units_of}
use Rattle.at_geom.specs.declared.positions.Pos.{Pos}
use Rattle.at_geom.specs.declared.rectangles.Extent.{Extent}
use Rattle.at_geom.specs.declared.shapes.Shape.{Shape}
use Rattle.at_wkt.specs.Positions.{number_fault, value_of}
use Rattle.at_geom.specs.Shapes.{of_polygons}
use Rattle.at_wkt.specs.Meaning.{shape_of, faults_of}
use Rattle.at_query.specs.declared.query.queries.Query.{Query}
use Rattle.at_query.specs.declared.query.queries.Test.{Test}
use Rattle.at_query.specs.declared.query.queries.Test.TheVariants.{InBox, MeetsShape, Has}
use Rattle.at_query.specs.declared.query.reading.QueryEnd.{QueryEnd}
use Rattle.at_query.specs.declared.query.reading.QueryEnd.TheVariants.{Fault as FaultAt, Memory}
use Rattle.at_query.specs.Spelling.{Placed, SpelledBox, Spelled, in_box, meets_box, meets, has, SpelledQuery}
use Rattle.at_query.specs.Spelling.{IsSpelled, QueryText}

-- a fact of the offset at which a query is refused; want of memory has no cause in the text
abbrev pub IfFaultAt : QueryEnd → (ℕ → Type 0) → Type 0
IfFaultAt (FaultAt at) P = P at
IfFaultAt Memory P = Unit {0}

-- the ring of a box, from its low corner
abbrev pub ring_of : Extent → List Pos
ring_of e = e.low ∷ record { x = e.high.x; y = e.low.y } ∷ e.high ∷ record { x = e.low.x; y = e.high.y } ∷ e.low ∷ []

-- the polygon of that ring
abbrev pub box_shape : Extent → Shape
box_shape e = of_polygons (record { rings = ring_of e ∷ [] } ∷ [])

abbrev pub ats_of : List Fault → List ℕ
ats_of faults = map (λ (f : Fault). f.at) faults

-- the lesser of two offsets, where there are any
abbrev pub lesser : Option ℕ → Option ℕ → Option ℕ
lesser None b = b
lesser (Some a) None = Some a
lesser (Some a) (Some b) = Some (min a b)

-- the least of offsets, where there are any
abbrev pub least_of : List ℕ → Option ℕ
least_of [] = None
least_of (n ∷ ns) = lesser (Some n) (least_of ns)

-- the low corner is greater than the high one on some axis
abbrev pub is_reversed : Extent → Bool
is_reversed e = int_lt e.high.x e.low.x || int_lt e.high.y e.low.y

-- where numbers have faults, those; else the word `box` of a box that is reversed
abbrev pub faults_with : List ℕ → Extent → ℕ → List ℕ
faults_with [] e at = if is_reversed e then at ∷ [] else []
faults_with (n ∷ ns) e at = n ∷ ns

module _ (digits : ℕ) (how : Coords) where
  abbrev pub placed_value : Placed → ℤ
  placed_value n = value_of digits how n.number

  abbrev pub extent_of_box : SpelledBox → Extent
  extent_of_box b = record {
    low = record { x = placed_value b.low_x; y = placed_value b.low_y };
    high = record { x = placed_value b.high_x; y = placed_value b.high_y };
  }

  -- Scale or Range, at the number
  abbrev pub placed_faults : Placed → List ℕ
  placed_faults n = ats_of (number_fault digits how n.number n.at)

  abbrev pub numbers_faults : SpelledBox → List ℕ
  numbers_faults b =
      placed_faults b.low_x ++ (placed_faults b.low_y ++ (placed_faults b.high_x ++ placed_faults b.high_y))

  abbrev pub box_faults : SpelledBox → List ℕ
  box_faults b = faults_with (numbers_faults b) (extent_of_box b) b.at

  -- the offsets of all that is wrong with a test
  abbrev pub test_faults : Spelled → List ℕ
  test_faults (in_box b) = box_faults b
  test_faults (meets_box b) = box_faults b
  test_faults (meets g) = ats_of (faults_of digits how g)
  test_faults (has name value) = []

  -- the offset of the fault of a query line that is spelled, where it has one
  abbrev pub spelled_fault : SpelledQuery → Option ℕ
  spelled_fault q = least_of (flat_map test_faults q.tests)

  abbrev pub test_of : Spelled → Test
  test_of (in_box b) = InBox (extent_of_box b)
  test_of (meets_box b) = MeetsShape (box_shape (extent_of_box b))
  test_of (meets g) = MeetsShape (shape_of digits how g)
  test_of (has name value) = Has (units_of name) (units_of value)

  abbrev pub query_of : SpelledQuery → Query
  query_of q = record { verb = q.verb; tests = map test_of q.tests }

  -- the text spells the query, nothing is wrong with it, and the text spells no other query
  pub record IsQueryOf (text : List ℕ) (query : Query) : Type 0 where
    pub line : SpelledQuery
    pub spelled : IsSpelled text line
    pub faultless : spelled_fault line ≡ None
    pub query_is : query ≡ query_of line
    pub only : (other : SpelledQuery) → IsSpelled text other → (spelled_fault other ≡ None) × (query_of other ≡ query)

  -- the text spells a query with faults, this is the least offset of them, and of no query that the text spells is it
  -- another
  pub record IsWrongAt (text : List ℕ) (at : ℕ) : Type 0 where
    pub line : SpelledQuery
    pub spelled : IsSpelled text line
    pub least : spelled_fault line ≡ Some at
    pub only : (other : SpelledQuery) → IsSpelled text other → spelled_fault other ≡ Some at

  -- the text spells no query, and its longest prefix that a query begins with ends at the offset
  pub record IsNoQuery (text : List ℕ) (at : ℕ) : Type 0 where
    pub no_query : ¬ QueryText text
    pub longest : LongestViable QueryText text at

  -- the offset at which the text stops being a query, or the least offset of all that is wrong with it
  abbrev pub HasQueryFault : List ℕ → ℕ → Type 0
  HasQueryFault text at = IsNoQuery text at ⊎ IsWrongAt text at
