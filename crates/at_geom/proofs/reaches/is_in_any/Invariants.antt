use Rattle.std.proofs.Common.{drop}
use Rattle.at_geom.specs.Regions.{IsInPolygon}
use Rattle.at_geom.proofs.Elements.{SomeIsLeft}
use Rattle.at_geom.proofs.reaches.is_in_any.Given as goal

abbrev pub invariant-loop-polygon : goal.invariant-loop-polygon
invariant-loop-polygon l = SomeIsLeft (IsInPolygon l.p) l.polygons (drop l.polygon-index l.polygons)
