use Rattle.std.proofs.Common.{List}
use Rattle.at_query.specs.declared.features.Feature.{Feature}
use Rattle.at_query.specs.Accumulators.{IsAccumulated}
use Rattle.at_query_tests.proofs.tests.added_lent.Given as goal

abbrev pub invariant-loop-outline : goal.invariant-loop-outline
invariant-loop-outline l = (fs : List Feature) × IsAccumulated l.query fs l.kept
