use Rattle.std.proofs.Common.{◌+◌, arith}
use Rattle.at_fixed.proofs.PlainRuns.{first_digits, first_small}
use Rattle.at_fixed.proofs.short_numbers.first_spelled.Goals as goal

pub spelled_number-requires-clause-digits : goal.spelled_number-requires-clause-digits
spelled_number-requires-clause-digits c =
    let run = c.requires.run in
    (first_digits c.args.text.now c.args.from (c.args.from + c.args.count) c.args.to (omega arith) c.requires.more (omega (arith, run.within)) run.digits).0

pub returns-clause-bound : goal.returns-clause-bound
returns-clause-bound c = first_small c.args.text.now c.args.from c.args.count c.args.to c.spelled_number.result c.requires.run c.requires.more c.spelled_number.ensures
