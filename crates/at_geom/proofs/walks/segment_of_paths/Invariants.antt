use Rattle.at_geom.specs.Segments.{IsInRange, edges}
use Rattle.at_geom.proofs.Finding.{DecidesItems}
use Rattle.at_geom.proofs.walks.segment_of_paths.Given as goal

abbrev pub invariant-loop-path : goal.invariant-loop-path
invariant-loop-path g l = DecidesItems (λ e r. (IsInRange e.0 × IsInRange e.1) × goal.F-post g l.test e.0 e.1 r) edges l.paths l.path-index
