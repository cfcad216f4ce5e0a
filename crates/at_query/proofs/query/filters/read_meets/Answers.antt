use Rattle.std.proofs.Common.{codes}
use Rattle.at_query.specs.Readers.{WordBreaks}
use Rattle.at_query.proofs.Parted.{behind_ends, behind_stops, behind_word}
use Rattle.at_query.proofs.GeometryParts.{target_lives}
use Rattle.at_text.proofs.Exits.{exits, answers_by}
use Rattle.at_query.proofs.query.filters.read_meets.Goals as goal

pub returns-in_err-from : goal.returns-in_err-from
returns-in_err-from c =
    exits c.from_residual.result c.in_err-from.field-0.0 _ (λ n. WordBreaks c.args.text.now c.args.at n (codes "meets ")) _ c.from_residual.ensures.1
    (λ n h. behind_word (target_lives c.args.rules.digits c.args.rules.how) h) c.in_err-from.ensures

pub returns : goal.returns
returns c =
    answers_by c.read_target.result _ _ _ _ c.read_target.ensures (λ read h. behind_ends c.in_ok-from.ensures h) (λ n h. behind_stops c.in_ok-from.ensures h)
