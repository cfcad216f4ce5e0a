-- A shape in two: what was put before it, its lists turned round, and what stands behind that. Only contracts of
-- private functions cite this.
use Rattle.std.specs.Prelude.{reverse, Option, Some, None}
use Rattle.std.specs.declared.boxed.Box.{Box}
use Rattle.std.specs.declared.alloc.Global.{Global}
use Rattle.at_geom.specs.declared.shapes.Shape.{Shape}
use Rattle.at_geom.specs.Shapes.{both}

abbrev pub turned : Shape → Shape
turned s = record { points = reverse s.points; lines = reverse s.lines; polygons = reverse s.polygons }

abbrev pub in_order : Option (Box Shape Global) → Shape → Shape
in_order None s = s
in_order (Some before) s = both (turned before.value) s
