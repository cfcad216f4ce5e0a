use Rattle.std.proofs.Common.{◌≡◌, drop}
use Rattle.std.specs.List.{list_any}
use Rattle.at_query.specs.TextTests.{wants_name}
use Rattle.at_geojson.proofs.objects.texts.asks_name.Given as goal

abbrev pub invariant-loop-test : goal.invariant-loop-test
invariant-loop-test l = list_any (wants_name l.name) (drop l.test-index l.tests) ≡ list_any (wants_name l.name) l.tests
