use Rattle.at_join.proofs.Squares.{squares_more}
use Rattle.at_join_tests.proofs.tests.squares.Goals as goal

pub loop-number-preserved : goal.loop-number-preserved
loop-number-preserved c =
    squares_more c.loop-number.number c.loop-number.entries.items c.push.new.self.items c.in_ok-square.field-0 c.in_ok-push.ensures.items c.loop-number.invariant c.in_ok-square.ensures.0 c.in_ok-square.ensures.1
