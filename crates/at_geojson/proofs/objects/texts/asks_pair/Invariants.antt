use Rattle.std.proofs.Common.{◌≡◌, drop}
use Rattle.at_query.specs.Keeping.{asks_pair}
use Rattle.at_geojson.proofs.objects.texts.asks_pair.Given as goal

abbrev pub invariant-loop-test : goal.invariant-loop-test
invariant-loop-test l = asks_pair (drop l.test-index l.tests) l.name l.value ≡ asks_pair l.tests l.name l.value
