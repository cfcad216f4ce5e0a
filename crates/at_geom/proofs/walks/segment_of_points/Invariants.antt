use Rattle.std.proofs.Common.{drop}
use Rattle.at_geom.specs.Segments.{IsInRange}
use Rattle.at_geom.specs.Shapes.{segments_of_points}
use Rattle.at_geom.proofs.Finding.{Decides}
use Rattle.at_geom.proofs.walks.segment_of_points.Given as goal

abbrev pub invariant-loop-p : goal.invariant-loop-p
invariant-loop-p g l = Decides (λ e r. (IsInRange e.0 × IsInRange e.1) × goal.F-post g l.test e.0 e.1 r) (segments_of_points l.points) (segments_of_points (drop l.p-index l.points))
