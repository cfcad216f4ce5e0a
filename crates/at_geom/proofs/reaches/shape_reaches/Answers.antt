use Rattle.std.proofs.Common.{rules}
use Rattle.at_geom.specs.Shapes.{IsInSome}
use Rattle.at_geom.proofs.Finding.{found_means}
use Rattle.at_geom.proofs.reaches.shape_reaches.Goals as goal

pub returns : goal.returns
returns c = found_means (λ p. IsInSome p c.args.polygons.now) c.some_position.ensures (λ p b said. search rules)
