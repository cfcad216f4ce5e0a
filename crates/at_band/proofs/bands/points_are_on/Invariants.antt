use Rattle.std.proofs.Common.{drop}
use Rattle.at_geom.proofs.Elements.{SomeIsLeft}
use Rattle.at_band.specs.Touched.{IsOnShape}
use Rattle.at_band.proofs.bands.points_are_on.Given as goal

abbrev pub invariant-loop-p : goal.invariant-loop-p
invariant-loop-p l = SomeIsLeft (λ p. IsOnShape p l.shape) l.points (drop l.p-index l.points)
