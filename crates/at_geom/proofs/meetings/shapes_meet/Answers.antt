use Rattle.std.proofs.Common.{sym, ◌∙◌}
use Rattle.std.proofs.lemmas.Bool.{false≢true}
use Rattle.at_geom.proofs.ApartShapes.{empty_first, empty_second}
use Rattle.at_geom.proofs.meetings.shapes_meet.Goals as goal

pub returns-in_default : goal.returns-in_default
returns-in_default c = (λ t. absurd (false≢true t), λ m. absurd (empty_first c.args.a.now c.args.b.now (sym c.extent.ensures ∙ c.in_default.is) m))

pub returns-in_default-extent : goal.returns-in_default-extent
returns-in_default-extent c = (λ t. absurd (false≢true t), λ m. absurd (empty_second c.args.a.now c.args.b.now (sym c.extent-2.ensures ∙ c.in_default-extent.is) m))
