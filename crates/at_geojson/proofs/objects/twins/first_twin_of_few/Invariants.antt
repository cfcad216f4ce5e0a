use Rattle.std.proofs.Common.{◌≡◌, take, drop, []}
use Rattle.at_text.specs.Faults.{first_fault}
use Rattle.at_geojson.specs.Gathering.{member_twins}
use Rattle.at_geojson.proofs.objects.twins.first_twin_of_few.Given as goal

abbrev pub invariant-loop-member : goal.invariant-loop-member
invariant-loop-member l = (l.index ≡ l.member-index) × (first_fault l.first (member_twins (take l.member-index l.members) (drop l.member-index l.members)) ≡ member_twins [] l.members)
