use Rattle.std.proofs.Common.{◌≡◌, take, flat_map}
use Rattle.at_query.specs.TextTests.{pair_of}
use Rattle.at_geojson.proofs.objects.texts.asked_pairs.Given as goal

abbrev pub invariant-loop-test : goal.invariant-loop-test
invariant-loop-test l = l.texts.items ≡ flat_map pair_of (take l.test-index l.tests)
