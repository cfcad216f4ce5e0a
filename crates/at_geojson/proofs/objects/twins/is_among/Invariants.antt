use Rattle.std.proofs.Common.{◌≡◌, drop}
use Rattle.at_geojson.specs.Gathering.{is_among}
use Rattle.at_geojson.proofs.objects.twins.is_among.Given as goal

abbrev pub invariant-loop-member : goal.invariant-loop-member
invariant-loop-member l = is_among (drop l.member-index l.members) l.name ≡ is_among l.members l.name
