use Rattle.std.proofs.Common.{◌∙◌}
use Rattle.at_cli.proofs.SquareTexts.{numbers_more}
use Rattle.at_cli.proofs.squares.number_texts.Goals as goal

pub loop-number-preserved : goal.loop-number-preserved
loop-number-preserved c = numbers_more c.loop-number.number c.loop-number.numbers.items c.push.new.self.items c.from_vec.result c.loop-number.invariant (c.from_vec.ensures ∙ c.in_ok-marked.ensures) c.in_ok-push.ensures.items
