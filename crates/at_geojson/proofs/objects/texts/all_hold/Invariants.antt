use Rattle.std.proofs.Common.{◌≡◌, drop}
use Rattle.at_query.specs.TextTests.{texts_hold}
use Rattle.at_geojson.proofs.objects.texts.all_hold.Given as goal

abbrev pub invariant-loop-test : goal.invariant-loop-test
invariant-loop-test l = texts_hold (drop l.test-index l.tests) l.texts ≡ texts_hold l.tests l.texts
