use Rattle.at_geom.specs.Segments.{IsInRange}
use Rattle.at_geom.proofs.Finding.{DecidesItems}
use Rattle.at_geom.proofs.walks.position_of_paths.Given as goal

abbrev pub invariant-loop-path : goal.invariant-loop-path
invariant-loop-path g l = DecidesItems (λ p r. IsInRange p × goal.F-post g l.test p r) (λ path. path) l.paths l.path-index
