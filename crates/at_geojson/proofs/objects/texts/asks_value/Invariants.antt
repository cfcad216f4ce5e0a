use Rattle.std.proofs.Common.{◌≡◌, drop}
use Rattle.at_query.specs.Keeping.{asks_value}
use Rattle.at_geojson.proofs.objects.texts.asks_value.Given as goal

abbrev pub invariant-loop-test : goal.invariant-loop-test
invariant-loop-test g l = asks_value (drop l.test-index l.tests) (g.S.Spelling.spelled l.value) ≡ asks_value l.tests (g.S.Spelling.spelled l.value)
