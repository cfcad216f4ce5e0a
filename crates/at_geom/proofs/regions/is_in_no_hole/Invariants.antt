use Rattle.std.proofs.Common.{drop}
use Rattle.std.specs.List.{AllByRecursion}
use Rattle.at_geom.specs.Regions.{IsNotInHole}
use Rattle.at_geom.proofs.regions.is_in_no_hole.Given as goal

-- the holes that are left decide
abbrev pub invariant-loop-hole : goal.invariant-loop-hole
invariant-loop-hole l = AllByRecursion (IsNotInHole l.p) (drop l.hole-index l.holes) → AllByRecursion (IsNotInHole l.p) l.holes
