use Rattle.std.proofs.Common.{sym, ◌∙◌}
use Rattle.std.proofs.lemmas.Bool.{false≢true}
use Rattle.at_geom.proofs.ApartShapes.{empty_first}
use Rattle.at_band.proofs.TouchedShapes.{points_meet, meet_points}
use Rattle.at_band.proofs.bands.meets_kept.Goals as goal

pub returns-in_default : goal.returns-in_default
returns-in_default c = (λ t. absurd (false≢true t), λ m. absurd (empty_first c.args.other.now c.args.shape.now (sym c.extent.ensures ∙ c.in_default.is) m))

pub returns-then-is_of_points : goal.returns-then-is_of_points
returns-then-is_of_points c =
    let of_points = c.is_of_points.ensures c.if-is_of_points.true in
    let said = rw c.as_slice.ensures at c.points_are_on.ensures in (
      λ t. points_meet c.args.other.now c.args.shape.now of_points (said.0 t),
      λ m. said.1 (meet_points c.args.other.now c.args.shape.now of_points m),
    )
