use Rattle.std.proofs.Common.{◌≡◌, ◌++◌, drop}
use Rattle.at_geojson.specs.Objects.{kept_texts}
use Rattle.at_geojson.proofs.objects.texts.kept_texts.Given as goal

abbrev pub invariant-loop-member : goal.invariant-loop-member
invariant-loop-member l = l.texts.items ++ kept_texts l.tests (drop l.member-index l.members) ≡ kept_texts l.tests l.members
