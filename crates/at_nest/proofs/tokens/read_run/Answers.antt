-- The run is a value.
use Rattle.std.proofs.lemmas.Result.{IfOk-weaker}
use Rattle.at_nest.proofs.tokens.read_run.Goals as goal

pub returns : goal.returns
returns g c = IfOk-weaker c.read_value.result _ _ (λ r pushes base w f t h spells. pushes base w f t h (c.in_ok-atom.ensures.own, c.in_ok-atom.ensures.fold t spells)) c.read_value.ensures
