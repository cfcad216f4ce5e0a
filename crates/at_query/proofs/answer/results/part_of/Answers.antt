use Rattle.std.proofs.Common.{[], ◌∷◌}
use Rattle.std.proofs.lemmas.Result.{IfOk-weaker}
use Rattle.at_query.proofs.Joining.{kept_is_proper}
use Rattle.at_query.proofs.answer.results.part_of.Goals as goal

pub returns-then-holds-clause-proper : goal.returns-then-holds-clause-proper
returns-then-holds-clause-proper c = IfOk-weaker c.one_kept.result _ _ (λ part k. kept_is_proper c.args.query.now.verb (c.args.feature ∷ []) part k) c.one_kept.ensures
