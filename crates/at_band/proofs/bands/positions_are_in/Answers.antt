use Rattle.std.proofs.Common.{rules}
use Rattle.at_geom.specs.Shapes.{IsInSome}
use Rattle.at_geom.proofs.Finding.{found_means}
use Rattle.at_band.proofs.bands.positions_are_in.Goals as goal

pub returns : goal.returns
returns c = found_means (λ p. IsInSome p c.args.shape.now.polygons) c.some_position.ensures (λ e b said. search rules)
