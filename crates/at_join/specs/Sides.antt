-- The order in which a side of a grid keeps its entries, and what is found in it. Only contracts of private functions
-- cite this.
use Rattle.std.specs.Prelude.{◌≡◌, ℕ, ◌+◌, ◌*◌, ◌<◌, Bool, true, List, [], ◌∷◌, ◌++◌, Option, Some, None, All, length}
use Rattle.std.specs.Prelude.{slice_index_or}
use Rattle.std.specs.List.Sorted.{IsPermutation}
use Rattle.at_geom.specs.declared.rectangles.Extent.{Extent}
use Rattle.at_geom.specs.Shapes.{encloses, Meet}
use Rattle.at_query.specs.declared.answer.parts.Entry.{Entry}
use Rattle.at_query.specs.declared.answer.answers.Pair.{Pair}
use Rattle.at_join.specs.declared.outlines.Outline.{Outline}
use Rattle.at_join.specs.declared.sides.Side.{Side}
use Rattle.at_query.specs.Joined.{around_both}
use Rattle.at_query.specs.Parts.{AreProper}
use Rattle.at_join.specs.Boxes.{touch_of, is_here_of, IsWide}
use Rattle.at_join.specs.Cells.{spread_of}

abbrev pub outline_of : ℕ → ℕ → Option Extent → List Outline
outline_of index at None = []
outline_of index at (Some x) = record { extent = x; at = at; index = index } ∷ []

-- the outlines of the entries that have an extent, where the first entry is numbered so
abbrev pub outlined : ℕ → List Entry → List Outline
outlined index [] = []
outlined index (e ∷ es) = outline_of index e.at e.extent ++ outlined (index + 1) es

-- each stretch of so many outlines is in its extent
abbrev pub Cover : ℕ → List Extent → List Outline → Type 0
Cover size covers outlines = (c j : ℕ) (d : Extent) (e : Outline) → j < size → c * size + j < length outlines
    → encloses (slice_index_or covers c d) (slice_index_or outlines (c * size + j) e).extent ≡ true

-- x stands at this index of the list
abbrev pub IsAt : {X : Type 0} → List X → ℕ → X → Type 0
IsAt xs i x = (i < length xs) × (slice_index_or xs i x ≡ x)

-- the outline is that of an entry of the list
abbrev pub IsOutlineOf : List Entry → Outline → Type 0
IsOutlineOf es q = (e : Entry) × IsAt es q.index e × (e.extent ≡ Some q.extent) × (e.at ≡ q.at)

pub record IsSide (side : Side) : Type 0 where
  pub outlines : IsPermutation (outlined 0 side.entries) side.outlines.items
  pub wide : All (λ (q : Outline). IsWide q.extent) side.outlines.items
  pub indices : All (λ (q : Outline). IsOutlineOf side.entries q) side.outlines.items
  pub runs : Cover 16 side.runs.items side.outlines.items
  pub blocks : Cover 256 side.blocks.items side.outlines.items
  pub fields : Cover 4096 side.fields.items side.outlines.items

-- the pair of outlines is one of the rectangle
abbrev pub is_row_here : Extent → Outline → Outline → Bool
is_row_here rect p q = is_here_of rect p.extent q.extent

abbrev pub is_cell_here : Extent → Outline × Outline → Bool
is_cell_here rect (p, q) = is_here_of rect p.extent q.extent

-- the pair is one of the rectangle, and the shapes of the two outlines' entries meet
abbrev pub CellHit : Extent → Side → Side → Outline × Outline → Type 0
CellHit rect a b (p, q) = (is_here_of rect p.extent q.extent ≡ true) × (e : Entry) × (f : Entry)
    × IsAt a.entries p.index e × IsAt b.entries q.index f × Meet e.shape f.shape

-- the outline has a common point with the window
abbrev pub IsInWindow : Extent → Outline → Type 0
IsInWindow window q = touch_of q.extent window ≡ true

abbrev pub itself : Outline → Outline
itself q = q

abbrev pub at_outlines : Outline × Outline → Pair
at_outlines (p, q) = record { first = p.at; second = q.at }

-- the sides of a grid over proper lists, and the extent round all entries of both
pub record IsGrid (a b : Side) (around : Option Extent) : Type 0 where
  pub of_first : IsSide a
  pub of_second : IsSide b
  pub first : AreProper a.entries
  pub second : AreProper b.entries
  pub joint : around ≡ spread_of (a.entries ++ b.entries)

-- the least extent round one and the extents of entries, where there are any
abbrev pub spread_onto : Option Extent → List Entry → Option Extent
spread_onto start [] = start
spread_onto start (e ∷ es) = around_both e.extent (spread_onto start es)
