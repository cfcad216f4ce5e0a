-- The value of a member that waits for one, or another value.
use Rattle.std.proofs.lemmas.Result.{IfOk-weaker}
use Rattle.at_nest.specs.MemberMarks.{other_value}
use Rattle.at_nest.proofs.bodies.keep_value.Goals as goal

pub returns-in-Some : goal.returns-in-Some
returns-in-Some g c = IfOk-weaker c.keep_awaited.result _ _ (λ r d base w f t h k. d base w f (other_value c.args.from t) h k) c.keep_awaited.ensures
