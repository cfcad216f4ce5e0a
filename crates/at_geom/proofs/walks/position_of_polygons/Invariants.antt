use Rattle.at_geom.specs.Segments.{IsInRange}
use Rattle.at_geom.specs.Shapes.{joined}
use Rattle.at_geom.proofs.Finding.{DecidesItems}
use Rattle.at_geom.proofs.walks.position_of_polygons.Given as goal

abbrev pub invariant-loop-polygon : goal.invariant-loop-polygon
invariant-loop-polygon g l = DecidesItems (λ p r. IsInRange p × goal.F-post g l.test p r) (λ polygon. joined polygon.rings) l.polygons l.polygon-index
