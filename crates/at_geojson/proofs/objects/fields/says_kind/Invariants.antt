use Rattle.std.proofs.Common.{◌≡◌, drop}
use Rattle.at_geojson.specs.Objects.{kind_in}
use Rattle.at_geojson.proofs.objects.fields.says_kind.Given as goal

abbrev pub invariant-loop-member : goal.invariant-loop-member
invariant-loop-member l = kind_in (drop l.member-index l.members) ≡ kind_in l.members
