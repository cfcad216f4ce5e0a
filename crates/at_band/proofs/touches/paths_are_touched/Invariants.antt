use Rattle.std.proofs.Common.{drop}
use Rattle.at_geom.specs.Regions.{IsOnRing}
use Rattle.at_geom.proofs.Elements.{SomeIsLeft}
use Rattle.at_band.proofs.touches.paths_are_touched.Given as goal

abbrev pub invariant-loop-path : goal.invariant-loop-path
invariant-loop-path l = SomeIsLeft (IsOnRing l.p) l.paths (drop l.path-index l.paths)
