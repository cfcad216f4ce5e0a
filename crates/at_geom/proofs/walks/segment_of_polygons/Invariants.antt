use Rattle.std.specs.Prelude.{flat_map}
use Rattle.at_geom.specs.Segments.{IsInRange, edges}
use Rattle.at_geom.proofs.Finding.{DecidesItems}
use Rattle.at_geom.proofs.walks.segment_of_polygons.Given as goal

abbrev pub invariant-loop-polygon : goal.invariant-loop-polygon
invariant-loop-polygon g l = DecidesItems (λ e r. (IsInRange e.0 × IsInRange e.1) × goal.F-post g l.test e.0 e.1 r) (λ polygon. flat_map edges polygon.rings) l.polygons l.polygon-index
