use Rattle.std.proofs.Common.{◌≡◌, take, drop, []}
use Rattle.at_text.specs.Faults.{first_fault}
use Rattle.at_geojson.specs.Gathering.{member_twins}
use Rattle.at_geojson.proofs.TwinSteps.{HasNames}
use Rattle.at_geojson.proofs.objects.twins.first_twin_of_many.Given as goal

abbrev pub invariant-loop-member : goal.invariant-loop-member
invariant-loop-member l = record {
  names : HasNames l.shared.items l.names (take l.member-index l.members);
  first : first_fault l.first (member_twins (take l.member-index l.members) (drop l.member-index l.members)) ≡ member_twins [] l.members;
}
