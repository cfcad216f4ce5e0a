use Rattle.std.proofs.Common.{◌<◌, All, take}
use Rattle.at_query.specs.declared.answer.answers.Pair.{Pair}
use Rattle.at_join.proofs.run.all_fit.Given as goal

abbrev pub invariant-loop-pair : goal.invariant-loop-pair
invariant-loop-pair l = All (λ (p : Pair). p.second < 4294967296) (take l.pair-index l.pairs)
