use Rattle.std.proofs.Common.{◌≡◌, take}
use Rattle.std.specs.List.{count_by}
use Rattle.at_query.specs.Keeping.{wants_pair}
use Rattle.at_geojson.proofs.objects.texts.met_by.Given as goal

abbrev pub invariant-loop-test : goal.invariant-loop-test
invariant-loop-test g l = l.count ≡ count_by (wants_pair l.name (g.S.Spelling.spelled l.value)) (take l.test-index l.tests)
