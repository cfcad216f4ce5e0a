use Rattle.std.proofs.Common.{◌≡◌, Some, take}
use Rattle.std.specs.Prelude.{fold}
use Rattle.at_geom.specs.Shapes.{widened}
use Rattle.at_geom.proofs.extents.widened_by_path.Given as goal

abbrev pub invariant-loop-p : goal.invariant-loop-p
invariant-loop-p l = Some l.covered ≡ fold (λ e p. Some (widened p e)) (Some l.initial.covered) (take l.p-index l.rest)
