use Rattle.std.proofs.Common.{subst, sym}
use Rattle.std.proofs.lemmas.Result.{IfOk-weaker}
use Rattle.at_query.specs.declared.answer.accumulators.Accumulator.{Accumulator}
use Rattle.at_query.specs.declared.answer.accumulators.Accumulator.TheVariants.{Hull}
use Rattle.at_query.specs.Accumulators.{JoinsAccumulators}
use Rattle.at_query.proofs.Accumulating.{hulls_joined}
use Rattle.at_query.proofs.answer.accumulators.join_to_hull.Goals as goal

pub returns : goal.returns
returns c =
    let P : Accumulator → Type 0 = λ z. JoinsAccumulators (Hull c.args.hull.now) z (Hull c.join.new.self) in
    IfOk-weaker c.join.result _ _ (λ u both. subst P (sym c.in-Hull.is) (hulls_joined c.args.hull.now c.in-Hull.more c.join.new.self both)) c.join.ensures.held
