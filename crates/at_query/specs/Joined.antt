-- How two extents and two hulls are joined. `lower_corner`, `upper_corner` and `joined_extent` cite the words for
-- corners and for two extents in public; the other words are cited by contracts of private functions alone.
use Rattle.std.specs.Prelude.{List, ◌++◌, Option, Some, None}
use Rattle.std.specs.Int.{int_min, int_max}
use Rattle.at_geom.specs.declared.positions.Pos.{Pos}
use Rattle.at_geom.specs.declared.rectangles.Extent.{Extent}
use Rattle.at_hull.specs.Hulls.{IsHull}

-- the least x and the least y
abbrev pub lower : Pos → Pos → Pos
lower a b = record { x = int_min a.x b.x; y = int_min a.y b.y }

-- the greatest x and the greatest y
abbrev pub upper : Pos → Pos → Pos
upper a b = record { x = int_max a.x b.x; y = int_max a.y b.y }

-- the least extent round two
abbrev pub around : Extent → Extent → Extent
around e f = record { low = lower e.low f.low; high = upper e.high f.high }

-- the least extent round two, where there are any
abbrev pub around_both : Option Extent → Option Extent → Option Extent
around_both None f = f
around_both (Some e) None = Some e
around_both (Some e) (Some f) = Some (around e f)

-- of whatever lists these are the hulls, it is the hull of both together
abbrev pub JoinsHulls : List Pos → List Pos → List Pos → Type 0
JoinsHulls left right both = (ps qs : List Pos) → IsHull ps left → IsHull qs right → IsHull (ps ++ qs) both
