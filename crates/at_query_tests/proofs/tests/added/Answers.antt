use Rattle.std.proofs.Common.{[], ◌∷◌, ◌++◌}
use Rattle.at_query_tests.proofs.tests.added.Goals as goal

pub loop-outline-preserved : goal.loop-outline-preserved
loop-outline-preserved c = let (fs, own) = c.loop-outline.invariant in (fs ++ c.in_ok-feature.field-0 ∷ [], c.in_ok-add.ensures.added fs own)
