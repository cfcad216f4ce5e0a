-- Two empty arrays and their comma, or what is told of one value.
use Rattle.std.proofs.Common.{ℕ}
use Rattle.std.proofs.lemmas.Result.{IfOk-weaker}
use Rattle.at_nest.proofs.SeveralAhead.{attempt_items}
use Rattle.at_nest_tests.proofs.Leaps.{two_attempt}
use Rattle.at_nest_tests.proofs.tests.leaping.LeapingAlgebra.items.Goals as goal

pub returns-then-begins_two : goal.returns-then-begins_two
returns-then-begins_two c = let (more, e) = c.begins_two.ensures c.if-begins_two.true in two_attempt c.args.at c.args.text.now more e

pub returns-else-begins_two : goal.returns-else-begins_two
returns-else-begins_two c = IfOk-weaker c.value.result _ _ (λ a h. attempt_items {X = ℕ} (λ x. Unit {0}) (λ x t. Unit {0}) (λ x ts. Unit {0}) c.args.at c.args.text.now a c.requires.begins h) c.value.ensures
