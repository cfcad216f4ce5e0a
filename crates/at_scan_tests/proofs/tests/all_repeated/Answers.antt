-- The numbers are sorted.
use Rattle.std.proofs.Common.{sym, subst}
use Rattle.std.specs.List.Sorted.{IsNonDecreasing}
use Rattle.std.proofs.lemmas.List.Sorted.{IsNonDecreasingBy-from_sort}
use Rattle.at_scan_tests.proofs.tests.all_repeated.Goals as goal

pub repeated-requires : goal.repeated-requires
repeated-requires c = subst IsNonDecreasing (sym c.as_slice.ensures.value) (IsNonDecreasingBy-from_sort (λ x. x) _ c.sort_unstable.ensures.sorted)
