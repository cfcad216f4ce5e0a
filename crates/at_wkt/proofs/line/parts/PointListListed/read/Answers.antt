use Rattle.std.proofs.Common.{sym, ◌∙◌}
use Rattle.at_wkt.proofs.Names.{SpellsPoint, SpellsPointMember, Stuck, point_faults, added_point}
use Rattle.at_wkt.proofs.BodySteps.{member_begins, member_inhabited}
use Rattle.at_wkt.proofs.PartAnswers.{ended_item, member_stands, member_stuck, bare_stands}
use Rattle.at_text.proofs.Exits.{exits}
use Rattle.at_wkt.proofs.line.parts.PointListListed.read.Goals as goal

pub returns-in_err-point : goal.returns-in_err-point
returns-in_err-point c = exits c.from_residual.result c.in_err-point.field-0.0 _ (Stuck SpellsPoint c.args.source.now.rules.base c.args.source.now.text.now c.skip_blanks-at.result c.args.from.dimension) _ c.from_residual.ensures.1
    (λ n h. member_stuck c.args.source.now.rules c.args.source.now.text.now c.args.from.at c.skip_blanks-at.result c.args.from.dimension c.skip_blanks-at.ensures n (sym c.opener_stands.ensures ∙ c.if-opener_stands.true) h) c.in_err-point.ensures

pub returns-in_ok-point : goal.returns-in_ok-point
returns-in_ok-point c = ended_item SpellsPointMember _ _ _ _ member_inhabited _ c.skip_blanks-at.ensures member_begins (point_faults c.args.source.now.rules.digits c.args.source.now.rules.how) (added_point c.args.source.now.rules.digits c.args.source.now.rules.how) _ _ c.in_ok-point.point
    (member_stands c.args.source.now.rules c.args.source.now.text.now c.args.from.at c.skip_blanks-at.result c.args.from.dimension c.skip_blanks-at.ensures _ _ c.in_ok-point.point (sym c.opener_stands.ensures ∙ c.if-opener_stands.true) c.in_ok-point.ensures) c.end_item.result c.end_item.ensures

pub returns-else-opener_stands : goal.returns-else-opener_stands
returns-else-opener_stands c = bare_stands c.args.source.now.rules c.args.source.now.text.now c.args.from.at c.skip_blanks-at.result c.args.from.dimension c.skip_blanks-at.ensures _ _ c.read_bare.result c.requires.count (sym c.opener_stands.ensures ∙ c.if-opener_stands.false) c.read_bare.ensures
