use Rattle.std.proofs.Common.{drop}
use Rattle.at_geom.specs.Segments.{IsInRange}
use Rattle.at_geom.proofs.Finding.{Decides}
use Rattle.at_geom.proofs.walks.position_of_path.Given as goal

abbrev pub invariant-loop-p : goal.invariant-loop-p
invariant-loop-p g l = Decides (λ p r. IsInRange p × goal.F-post g l.test p r) l.path (drop l.p-index l.path)
