-- Extents that touch, and what two of them have in common.
use Rattle.std.specs.Prelude.{Bool, ◌&&◌, ◌≤ℤ◌, int_le}
use Rattle.at_geom.specs.declared.rectangles.Extent.{Extent}
use Rattle.at_geom.specs.Segments.{IsInRange}
use Rattle.at_geom.specs.Shapes.{is_within}
use Rattle.at_query.specs.Joined.{lower, upper}

-- the two have a common point
abbrev pub touch_of : Extent → Extent → Bool
touch_of x y = (int_le x.low.x y.high.x && int_le y.low.x x.high.x)
    && (int_le x.low.y y.high.y && int_le y.low.y x.high.y)

-- all that is in both
abbrev pub common_of : Extent → Extent → Extent
common_of x y = record { low = upper x.low y.low; high = lower x.high y.high }

-- the two have a common point, and their reference point, the greater low x and the greater low y, lies in the
-- rectangle
abbrev pub is_here_of : Extent → Extent → Extent → Bool
is_here_of rect x y = touch_of x y && is_within rect (upper x.low y.low)

-- the rectangle has a position
pub record IsWide (x : Extent) : Type 0 where
  pub along_x : x.low.x ≤ℤ x.high.x
  pub along_y : x.low.y ≤ℤ x.high.y

-- and its corners are in range
pub record IsSpan (x : Extent) : Type 0 where
  pub wide : IsWide x
  pub low : IsInRange x.low
  pub high : IsInRange x.high
