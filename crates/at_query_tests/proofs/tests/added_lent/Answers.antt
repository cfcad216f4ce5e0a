use Rattle.std.proofs.Common.{[], ◌∷◌, ◌++◌}
use Rattle.at_query.specs.Holding.{lent_feature}
use Rattle.at_query_tests.proofs.tests.added_lent.Goals as goal

pub loop-outline-preserved : goal.loop-outline-preserved
loop-outline-preserved c = let (fs, own) = c.loop-outline.invariant in (fs ++ lent_feature c.lent.result ∷ [], c.in_ok-add_lent.ensures.added fs own)
