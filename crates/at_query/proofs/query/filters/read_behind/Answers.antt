use Rattle.std.proofs.Common.{arith}
use Rattle.at_query.specs.Readers.{WordBreaks}
use Rattle.at_query.proofs.Parted.{behind_word, behind_ends, behind_stops}
use Rattle.at_query.proofs.TestParts.{one_lives}
use Rattle.at_text.proofs.Exits.{exits, answers_by}
use Rattle.at_query.proofs.query.filters.read_behind.Goals as goal

pub returns-in_err-from : goal.returns-in_err-from
returns-in_err-from c =
    exits c.from_residual.result c.in_err-from.field-0.0 _ (λ n. WordBreaks c.args.text.now c.args.at n c.args.word.now) _ c.from_residual.ensures.1
    (λ n h. behind_word (one_lives c.args.rules.digits c.args.rules.how) h) c.in_err-from.ensures

pub returns : goal.returns
returns c =
    let s = c.in_ok-from.ensures in
    answers_by c.read_test.result _ _ _ _ c.read_test.ensures
    (λ read h. (omega (arith, s.end, h.order, c.requires.some), behind_ends s h))
    (λ n h. behind_stops s h)
