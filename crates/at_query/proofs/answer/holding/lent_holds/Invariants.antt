use Rattle.std.proofs.Common.{◌≡◌, drop}
use Rattle.std.specs.List.{AllByRecursion}
use Rattle.at_query.specs.Holding.{lent_feature, TestHolds}
use Rattle.at_query.proofs.answer.holding.lent_holds.Given as goal

-- all tests hold exactly where those that are left do
abbrev pub invariant-loop-test : goal.invariant-loop-test
invariant-loop-test l = record {
  same : l.test-items ≡ l.query.tests;
  in_rest : AllByRecursion (λ t. TestHolds t (lent_feature l.feature)) l.test-items → AllByRecursion (λ t. TestHolds t (lent_feature l.feature)) (drop l.test-index l.test-items);
  from_rest : AllByRecursion (λ t. TestHolds t (lent_feature l.feature)) (drop l.test-index l.test-items) → AllByRecursion (λ t. TestHolds t (lent_feature l.feature)) l.test-items;
}
