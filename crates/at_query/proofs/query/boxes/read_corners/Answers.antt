use Rattle.at_text.proofs.Exits.{exits}
use Rattle.at_query.specs.Readers.{Stops, Number}
use Rattle.at_query.proofs.Parted.{then_ends, then_stops, first_stops}
use Rattle.at_query.proofs.BoxParts.{number_lives, last_lives, three_lives}
use Rattle.at_query.proofs.query.boxes.read_corners.Goals as goal

pub returns-in_err-low_x : goal.returns-in_err-low_x
returns-in_err-low_x c =
    exits c.from_residual.result c.in_err-low_x.field-0.0 _ (Stops (Number c.args.rules.digits c.args.rules.how 0x20) c.args.text.now c.args.at) _ c.from_residual.ensures.1
    (λ n h. first_stops (three_lives c.args.rules.digits c.args.rules.how) h) c.in_err-low_x.ensures

pub returns-in_err-low_y : goal.returns-in_err-low_y
returns-in_err-low_y c =
    exits c.from_residual-in_err-low_y.result c.in_err-low_y.field-0.0 _ (Stops (Number c.args.rules.digits c.args.rules.how 0x2C) c.args.text.now c.in_ok-low_x.low_x.end) _ c.from_residual-in_err-low_y.ensures.1
    (λ n h. then_stops c.in_ok-low_x.ensures (first_stops (last_lives c.args.rules.digits c.args.rules.how) h)) c.in_err-low_y.ensures

pub returns-in_err-high_x : goal.returns-in_err-high_x
returns-in_err-high_x c =
    exits c.from_residual-in_err-high_x.result c.in_err-high_x.field-0.0 _ (Stops (Number c.args.rules.digits c.args.rules.how 0x20) c.args.text.now c.in_ok-low_y.low_y.end) _ c.from_residual-in_err-high_x.ensures.1
    (λ n h. then_stops c.in_ok-low_x.ensures (then_stops c.in_ok-low_y.ensures (first_stops (number_lives c.args.rules.digits c.args.rules.how 0x29) h))) c.in_err-high_x.ensures

pub returns-in_err-high_y : goal.returns-in_err-high_y
returns-in_err-high_y c =
    exits c.from_residual-in_err-high_y.result c.in_err-high_y.field-0.0 _ (Stops (Number c.args.rules.digits c.args.rules.how 0x29) c.args.text.now c.in_ok-high_x.high_x.end) _ c.from_residual-in_err-high_y.ensures.1
    (λ n h. then_stops c.in_ok-low_x.ensures (then_stops c.in_ok-low_y.ensures (then_stops c.in_ok-high_x.ensures h))) c.in_err-high_y.ensures

pub returns : goal.returns
returns c = then_ends c.in_ok-low_x.ensures (then_ends c.in_ok-low_y.ensures (then_ends c.in_ok-high_x.ensures c.in_ok-high_y.ensures))
