use Rattle.std.proofs.Common.{◌≡◌, Some, drop}
use Rattle.std.specs.Prelude.{fold}
use Rattle.at_geom.specs.Shapes.{widened, joined}
use Rattle.at_geom.proofs.extents.widened_by_paths.Given as goal

abbrev pub invariant-loop-path : goal.invariant-loop-path
invariant-loop-path l = fold (λ e p. Some (widened p e)) l.covered (joined (drop l.path-index l.paths)) ≡ fold (λ e p. Some (widened p e)) l.fn.start (joined l.paths)
