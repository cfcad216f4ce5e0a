use Rattle.std.proofs.Common.{Option, sym, subst}
use Rattle.std.proofs.lemmas.Bool.{false≢true}
use Rattle.at_geom.specs.declared.shapes.Shape.{Shape}
use Rattle.at_geom.specs.Shapes.{Meet}
use Rattle.at_geom.proofs.ApartShapes.{empty_second}
use Rattle.at_band.specs.declared.bands.Frame.{Frame}
use Rattle.at_band.specs.Banded.{AreKept}
use Rattle.at_band.proofs.bands.Bands.meets.Goals as goal

pub returns-in_default : goal.returns-in_default
returns-in_default c = (
  λ t. absurd (false≢true t),
  λ m. absurd (empty_second c.args.other.now c.self.inside.shape (subst (λ (f : Option Frame). AreKept c.self.inside.shape f c.self.inside.zones.items) c.in_default.is c.self.invariant) (subst (λ (z : Shape). Meet c.args.other.now z) (sym c.self.view_is) m)),
)
