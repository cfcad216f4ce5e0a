-- The two bytes are an empty array.
use Rattle.at_nest_tests.proofs.Leaps.{empty_attempt}
use Rattle.at_nest_tests.proofs.tests.leaping.LeapingAlgebra.value.Goals as goal

pub returns-then-text-eq93 : goal.returns-then-text-eq93
returns-then-text-eq93 c = empty_attempt c.args.at c.args.text.now c.if-text-ge2.true c.if-text-eq91.true c.if-text-eq93.true
