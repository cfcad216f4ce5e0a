use Rattle.std.proofs.Common.{drop}
use Rattle.at_band.specs.Touched.{IsOnPolygon}
use Rattle.at_geom.proofs.Elements.{SomeIsLeft}
use Rattle.at_band.proofs.touches.polygons_are_touched.Given as goal

abbrev pub invariant-loop-polygon : goal.invariant-loop-polygon
invariant-loop-polygon l = SomeIsLeft (IsOnPolygon l.p) l.polygons (drop l.polygon-index l.polygons)
