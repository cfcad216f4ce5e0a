use Rattle.std.proofs.Common.{arith}
use Rattle.at_lex.proofs.UnitLemmas.{all_units}
use Rattle.at_lex.proofs.decoding.units.Goals as goal

pub returns : goal.returns
returns c = λ cs h e. all_units c.args.text.now c.loop-at.at c.loop-at.items c.loop-at.invariant (omega (arith, c.loop-at-test.false)) cs h e
