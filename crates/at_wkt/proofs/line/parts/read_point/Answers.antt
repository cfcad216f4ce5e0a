use Rattle.std.proofs.Common.{Some, None, refl, sym, ◌∙◌}
use Rattle.at_wkt.proofs.Names.{position_faults, SpellsPoint, EnclosedPosition, added_point, point_faults, added_position}
use Rattle.at_wkt.proofs.BodySteps.{point_choice}
use Rattle.at_wkt.proofs.PartAnswers.{nothing_stands, opened_stands, none_faults}
use Rattle.at_wkt.proofs.line.parts.read_point.Goals as goal

pub returns-then-stands : goal.returns-then-stands
returns-then-stands c = opened_stands SpellsPoint EnclosedPosition (λ p. Some p) None point_choice (point_faults c.args.source.now.rules.digits c.args.source.now.rules.how) (added_point c.args.source.now.rules.digits c.args.source.now.rules.how) c.args.source.now.rules.base c.args.source.now.text.now c.args.from.at c.args.from.dimension (position_faults c.args.source.now.rules.digits c.args.source.now.rules.how) (added_position c.args.source.now.rules.digits c.args.source.now.rules.how) (λ x. none_faults (position_faults c.args.source.now.rules.digits c.args.source.now.rules.how x)) (λ x. refl) _ _ c.requires.inside (sym c.stands.ensures ∙ c.if-stands.true) c.read_enclosed.result c.read_enclosed.ensures

pub returns-else-stands : goal.returns-else-stands
returns-else-stands c = nothing_stands SpellsPoint EnclosedPosition (λ p. Some p) None point_choice (point_faults c.args.source.now.rules.digits c.args.source.now.rules.how) (added_point c.args.source.now.rules.digits c.args.source.now.rules.how) c.args.source.now.rules.base c.args.source.now.text.now c.args.from.at c.args.from.dimension refl refl c.args.points.now.items (sym c.stands.ensures ∙ c.if-stands.false) c.requires.count c.read_nothing.result c.read_nothing.ensures
