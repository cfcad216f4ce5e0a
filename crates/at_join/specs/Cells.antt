-- The 8 by 8 cells over the joint extent of two lists of entries, and the pairs that belong to some of them.
use Rattle.std.specs.Prelude.{◌≡◌, ℕ, ◌+◌, ◌*◌, ◌/◌, ◌%◌, ◌<◌, ◌≤◌, ◌==◌, ℤ, pos, ◌+ℤ◌, ◌-ℤ◌, nat_abs, Bool, true}
use Rattle.std.specs.Prelude.{false, ◌&&◌, List, [], ◌∷◌, ◌++◌, Option, Some, None, All, Contains, count_by}
use Rattle.at_geom.specs.declared.positions.Pos.{Pos}
use Rattle.at_geom.specs.declared.rectangles.Extent.{Extent}
use Rattle.at_geom.specs.Shapes.{Meet}
use Rattle.at_query.specs.declared.answer.parts.Entry.{Entry}
use Rattle.at_query.specs.declared.answer.answers.Pair.{Pair}
use Rattle.at_query.specs.Joined.{upper, around_both}
use Rattle.at_join.specs.Boxes.{touch_of}
use Rattle.at_join.specs.Meetings.{at_entries}

-- in which of 8 equal parts of the numbers from low to high x is
abbrev pub eighth : ℤ → ℤ → ℤ → ℕ
eighth low high x = nat_abs (x -ℤ low) * 8 / (nat_abs (high -ℤ low) + 1)

-- the number of the cell of a position in the joint extent: eight times its row, and its column
abbrev pub cell_of : Extent → Pos → ℕ
cell_of joint p = 8 * eighth joint.low.y joint.high.y p.y + eighth joint.low.x joint.high.x p.x

-- the least extent round the extents of all entries, where there are any
abbrev pub spread_of : List Entry → Option Extent
spread_of [] = None
spread_of (e ∷ es) = around_both e.extent (spread_of es)

-- two extents have a common point, and their reference point, the greater low x and the greater low y, lies in the cell
abbrev pub is_pair_of : Option Extent → Option Extent → Option Extent → ℕ → Bool
is_pair_of (Some joint) (Some x) (Some y) cell = touch_of x y && (cell_of joint (upper x.low y.low) == cell)
is_pair_of _ _ _ cell = false

-- the pair of entries belongs to the cell
abbrev pub belongs : List Entry → List Entry → ℕ → Entry × Entry → Bool
belongs a b cell (e, f) = is_pair_of (spread_of (a ++ b)) e.extent f.extent cell

-- the offsets are those of two entries that meet, and the two belong to one of the cells from one number up to another
pub record InCells (a b : List Entry) (from to : ℕ) (p : Pair) : Type 0 where
  pub first : Entry
  pub second : Entry
  pub of_first : Contains a first
  pub of_second : Contains b second
  pub is : p ≡ at_entries (first, second)
  pub meet : Meet first.shape second.shape
  pub cell : ℕ
  pub at_least : from ≤ cell
  pub below : cell < to
  pub here : belongs a b cell (first, second) ≡ true

abbrev pub is_pair : Pair → Pair → Bool
is_pair p q = (q.first == p.first) && (q.second == p.second)

-- how often the pair stands in the list
abbrev pub times : Pair → List Pair → ℕ
times p ps = count_by (is_pair p) ps

-- each pair that is wanted stands in the list once, and no other does
pub record ListsEach (Wanted : Pair → Type 0) (ps : List Pair) : Type 0 where
  pub once : (p : Pair) → Wanted p → times p ps ≡ 1
  pub no_other : All Wanted ps

-- two lists of entries
pub record Lists : Type 0 where
  pub first : List Entry
  pub second : List Entry

-- the least number that is in this eighth of the numbers from low to high, or in a later one
abbrev pub edge_of : ℤ → ℤ → ℕ → ℤ
edge_of low high part = low +ℤ pos ((part * (nat_abs (high -ℤ low) + 1) + 7) / 8)

-- the positions of a cell
abbrev pub rect_of : Extent → ℕ → Extent
rect_of joint cell = record {
  low = record { x = edge_of joint.low.x joint.high.x (cell % 8); y = edge_of joint.low.y joint.high.y (cell / 8) };
  high = record {
    x = edge_of joint.low.x joint.high.x (cell % 8 + 1) -ℤ pos 1;
    y = edge_of joint.low.y joint.high.y (cell / 8 + 1) -ℤ pos 1;
  };
}
