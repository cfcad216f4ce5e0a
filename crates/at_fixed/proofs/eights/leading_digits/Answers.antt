use Rattle.std.proofs.Common.{arith}
use Rattle.at_fixed.proofs.EightDigits.{run_digits}
use Rattle.at_fixed.proofs.eights.leading_digits.Goals as goal

pub spelled_number-requires-clause-digits : goal.spelled_number-requires-clause-digits
spelled_number-requires-clause-digits c =
    run_digits c.args.text.now c.args.at c.leading_count-count.result (omega (arith, c.requires, c.leading_count-count.ensures.few)) c.leading_count-count.ensures.digits
