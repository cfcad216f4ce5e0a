use Rattle.std.proofs.Common.{rules, inl, inr}
use Rattle.at_cli.proofs.Numbers.{not_within}
use Rattle.at_cli.proofs.words.values.number_within.Goals as goal

pub returns-then-number-least : goal.returns-then-number-least
returns-then-number-least c = not_within c.args.least c.args.most c.in_ok-number.number c.args.text.now (search rules) c.ranges.most.fits c.in_ok-number.ensures (inl c.if-number-least.true)

pub returns-then-most-number : goal.returns-then-most-number
returns-then-most-number c = not_within c.args.least c.args.most c.in_ok-number.number c.args.text.now (search rules) c.ranges.most.fits c.in_ok-number.ensures (inr c.if-most-number.true)
