use Rattle.std.proofs.Common.{drop}
use Rattle.std.specs.List.{AllByRecursion}
use Rattle.at_geom.specs.Closed.{HasClosedExterior}
use Rattle.at_geom.proofs.reaches.are_closed.Given as goal

abbrev pub invariant-loop-polygon : goal.invariant-loop-polygon
invariant-loop-polygon l = AllByRecursion HasClosedExterior (drop l.polygon-index l.polygons) → AllByRecursion HasClosedExterior l.polygons
