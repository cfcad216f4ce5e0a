use Rattle.std.proofs.Common.{codes, subst}
use Rattle.at_query.specs.Readers.{Ends, Stops, WordBreaks, FourNumbers, Box}
use Rattle.at_query.proofs.Parted.{told_ends, told_stops, behind_ends, behind_stops, behind_word}
use Rattle.at_query.proofs.BoxParts.{four_lives, box_tells, box_is}
use Rattle.at_text.proofs.Exits.{exits}
use Rattle.at_query.proofs.query.boxes.read_box.Goals as goal

pub returns-in_err-from : goal.returns-in_err-from
returns-in_err-from c =
    exits c.from_residual.result c.in_err-from.field-0.0 _ (λ n. WordBreaks c.args.text.now c.args.at n (codes "box(")) _ c.from_residual.ensures.1
    (λ n h. told_stops (box_tells c.args.rules.digits c.args.rules.how) (behind_word (four_lives c.args.rules.digits c.args.rules.how) h)) c.in_err-from.ensures

pub returns-in_err-corners : goal.returns-in_err-corners
returns-in_err-corners c =
    exits c.from_residual-in_err-corners.result c.in_err-corners.field-0.0 _ (Stops (FourNumbers c.args.rules.digits c.args.rules.how) c.args.text.now c.in_ok-from.from) _ c.from_residual-in_err-corners.ensures.1
    (λ n h. told_stops (box_tells c.args.rules.digits c.args.rules.how) (behind_stops c.in_ok-from.ensures h)) c.in_err-corners.ensures

pub returns : goal.returns
returns c =
    let corners = c.in_ok-corners.corners in
    subst (Ends (Box c.args.rules.digits c.args.rules.how) c.args.text.now c.args.at corners.high_y.end)
    (box_is c.args.rules.digits c.args.rules.how c.args.at corners corners.high_y.end c.extent_of-extent.result c.fault_of_box.result c.extent_of-extent.ensures c.fault_of_box.ensures)
    (told_ends (box_tells c.args.rules.digits c.args.rules.how) (behind_ends c.in_ok-from.ensures c.in_ok-corners.ensures))
