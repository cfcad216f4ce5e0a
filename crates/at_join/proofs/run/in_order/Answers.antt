use Rattle.std.proofs.Common.{sym, subst, rules}
use Rattle.std.specs.List.Sorted.{IsNonDecreasingBy}
use Rattle.std.proofs.lemmas.List.Sorted.{IsNonDecreasingBy-from_sort_by_key}
use Rattle.at_join.specs.Parts.{rank_of}
use Rattle.at_join.proofs.run.in_order.Goals as goal

pub returns-clause-sorted : goal.returns-clause-sorted
returns-clause-sorted c = subst (IsNonDecreasingBy rank_of) (sym c.from_vec.ensures) (IsNonDecreasingBy-from_sort_by_key rank_of _ c.sort_unstable_by_key.ensures.sorted (λ a r q k. search rules))
