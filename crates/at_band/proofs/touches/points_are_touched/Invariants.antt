use Rattle.std.proofs.Common.{drop}
use Rattle.at_geom.specs.Segments.{HaveCommonPoint}
use Rattle.at_geom.specs.Shapes.{segments_of_points}
use Rattle.at_geom.proofs.Elements.{SomeIsLeft}
use Rattle.at_band.proofs.touches.points_are_touched.Given as goal

abbrev pub invariant-loop-q : goal.invariant-loop-q
invariant-loop-q l = SomeIsLeft (λ e. HaveCommonPoint l.p l.p e.0 e.1) (segments_of_points l.points) (segments_of_points (drop l.q-index l.points))
