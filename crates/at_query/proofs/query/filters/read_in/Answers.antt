use Rattle.std.proofs.Common.{codes}
use Rattle.at_query.specs.Readers.{Stops, WordBreaks, Box}
use Rattle.at_query.proofs.Parted.{told_ends, told_stops, behind_ends, behind_stops, behind_word}
use Rattle.at_query.proofs.BoxParts.{box_lives}
use Rattle.at_query.proofs.TestParts.{in_tells}
use Rattle.at_text.proofs.Exits.{exits}
use Rattle.at_query.proofs.query.filters.read_in.Goals as goal

pub returns-in_err-from : goal.returns-in_err-from
returns-in_err-from c =
    exits c.from_residual.result c.in_err-from.field-0.0 _ (λ n. WordBreaks c.args.text.now c.args.at n (codes "in ")) _ c.from_residual.ensures.1
    (λ n h. told_stops (in_tells c.args.rules.digits c.args.rules.how) (behind_word (box_lives c.args.rules.digits c.args.rules.how) h)) c.in_err-from.ensures

pub returns-in_err-found : goal.returns-in_err-found
returns-in_err-found c =
    exits c.from_residual-in_err-found.result c.in_err-found.field-0.0 _ (Stops (Box c.args.rules.digits c.args.rules.how) c.args.text.now c.in_ok-from.from) _ c.from_residual-in_err-found.ensures.1
    (λ n h. told_stops (in_tells c.args.rules.digits c.args.rules.how) (behind_stops c.in_ok-from.ensures h)) c.in_err-found.ensures

pub returns : goal.returns
returns c = told_ends (in_tells c.args.rules.digits c.args.rules.how) (behind_ends c.in_ok-from.ensures c.in_ok-found.ensures)
