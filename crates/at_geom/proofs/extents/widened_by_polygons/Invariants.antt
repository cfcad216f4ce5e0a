use Rattle.std.proofs.Common.{◌≡◌, Some, drop}
use Rattle.std.specs.Prelude.{fold}
use Rattle.at_geom.specs.Shapes.{widened, positions_of_polygons}
use Rattle.at_geom.proofs.extents.widened_by_polygons.Given as goal

abbrev pub invariant-loop-polygon : goal.invariant-loop-polygon
invariant-loop-polygon l = fold (λ e p. Some (widened p e)) l.covered (positions_of_polygons (drop l.polygon-index l.polygons)) ≡ fold (λ e p. Some (widened p e)) l.fn.start (positions_of_polygons l.polygons)
