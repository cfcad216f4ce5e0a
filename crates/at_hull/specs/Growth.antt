-- Positions that are added bit by bit, and lists that have one hull.
use Rattle.std.specs.Prelude.{ℕ, List, ◌++◌, take, All, IsTrue, Option, IfSome}
use Rattle.at_geom.specs.declared.positions.Pos.{Pos}
use Rattle.at_geom.specs.declared.rectangles.Extent.{Extent}
use Rattle.at_geom.specs.Segments.{IsInRange}
use Rattle.at_geom.specs.Shapes.{is_within}
use Rattle.at_hull.specs.Hulls.{IsHull}

-- each list that is the hull of the one is the hull of the other
pub record HaveOneHull (ps qs : List Pos) : Type 0 where
  pub forth : (h : List Pos) → IsHull ps h → IsHull qs h
  pub back : (h : List Pos) → IsHull qs h → IsHull ps h

-- what a builder keeps: the hull of some positions, and others that wait
pub record Growth : Type 0 where
  pub hull : List Pos
  pub waiting : List Pos

-- all the positions that are kept
abbrev pub held : Growth → List Pos
held g = g.hull ++ g.waiting

-- the new one has the hull of what the old one holds and of the first of the positions, up to some place
abbrev pub HoldsFront : Growth → List Pos → Growth → Type 0
HoldsFront old ps new = (k : ℕ) × HaveOneHull (held old ++ take k ps) (held new)

-- positions within the extent add nothing to the hull of the list
abbrev pub AddsNothing : List Pos → Extent → Type 0
AddsNothing ps e = (qs : List Pos) → All (λ q. IsTrue (is_within e q)) qs → HaveOneHull (ps ++ qs) ps

abbrev pub IsExtentInRange : Extent → Type 0
IsExtentInRange e = IsInRange e.low × IsInRange e.high

-- what holds of a builder's fields: the hull is its own, and the inner extent, if there is one, adds nothing to it
pub record IsGrowing (hull waiting : List Pos) (inner : Option Extent) : Type 0 where
  pub own : IsHull hull hull
  pub hull_in_range : All IsInRange hull
  pub waiting_in_range : All IsInRange waiting
  pub inner_in_range : IfSome inner IsExtentInRange
  pub covered : IfSome inner (AddsNothing hull)
