use Rattle.at_geom.specs.Segments.{IsInRange}
use Rattle.at_geom.proofs.Finding.{DecidesEdges}
use Rattle.at_geom.proofs.walks.segment_of_path.Given as goal

abbrev pub invariant-loop-to : goal.invariant-loop-to
invariant-loop-to g l = DecidesEdges (λ e r. (IsInRange e.0 × IsInRange e.1) × goal.F-post g l.test e.0 e.1 r) l.path l.from l.rest l.to-index
