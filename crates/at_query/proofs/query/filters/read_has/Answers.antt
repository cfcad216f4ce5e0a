use Rattle.std.proofs.Common.{codes}
use Rattle.at_text.proofs.Exits.{exits}
use Rattle.at_query.specs.Readers.{Stops, WordBreaks, Text}
use Rattle.at_query.proofs.Parted.{then_ends, then_stops, first_stops, told_ends, told_stops, behind_ends, behind_stops, behind_word}
use Rattle.at_query.proofs.StringParts.{text_lives}
use Rattle.at_query.proofs.TestParts.{value_lives, pair_lives, has_tells}
use Rattle.at_query.proofs.query.filters.read_has.Goals as goal

pub returns-in_err-from : goal.returns-in_err-from
returns-in_err-from c =
    exits c.from_residual.result c.in_err-from.field-0.0 _ (λ n. WordBreaks c.args.text.now c.args.at n (codes "has ")) _ c.from_residual.ensures.1
    (λ n h. told_stops has_tells (behind_word pair_lives h)) c.in_err-from.ensures

pub returns-in_err-name : goal.returns-in_err-name
returns-in_err-name c =
    exits c.from_residual-in_err-name.result c.in_err-name.field-0.0 _ (Stops Text c.args.text.now c.in_ok-from.from) _ c.from_residual-in_err-name.ensures.1
    (λ n h. told_stops has_tells (behind_stops c.in_ok-from.ensures (first_stops value_lives h))) c.in_err-name.ensures

pub returns-in_err-behind : goal.returns-in_err-behind
returns-in_err-behind c =
    exits c.from_residual-in_err-behind.result c.in_err-behind.field-0.0 _ (λ n. WordBreaks c.args.text.now c.in_ok-name.name.end n (codes " = ")) _ c.from_residual-in_err-behind.ensures.1
    (λ n h. told_stops has_tells (behind_stops c.in_ok-from.ensures (then_stops c.in_ok-name.ensures (behind_word text_lives h)))) c.in_err-behind.ensures

pub returns-in_err-value : goal.returns-in_err-value
returns-in_err-value c =
    exits c.from_residual-in_err-value.result c.in_err-value.field-0.0 _ (Stops Text c.args.text.now c.in_ok-behind.behind) _ c.from_residual-in_err-value.ensures.1
    (λ n h. told_stops has_tells (behind_stops c.in_ok-from.ensures (then_stops c.in_ok-name.ensures (behind_stops c.in_ok-behind.ensures h)))) c.in_err-value.ensures

pub returns : goal.returns
returns c = told_ends has_tells (behind_ends c.in_ok-from.ensures (then_ends c.in_ok-name.ensures (behind_ends c.in_ok-behind.ensures c.in_ok-value.ensures)))
