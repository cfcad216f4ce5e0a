use Rattle.std.proofs.Common.{arith}
use Rattle.at_fixed.proofs.PlainRuns.{above_zero}
use Rattle.at_fixed.proofs.short_numbers.ends_above_zero.Goals as goal

pub returns : goal.returns
returns c last = above_zero c.args.text.now c.args.from c.args.to (omega (arith, c.if-from-to.false)) c.requires.within c.requires.digits last
