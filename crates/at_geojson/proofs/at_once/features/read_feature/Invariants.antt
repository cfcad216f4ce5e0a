-- Between members: those before were read.
use Rattle.std.proofs.Common.{◌-◌, ◌<◌, ◌≤◌, length}
use Rattle.at_scan.specs.Members.{ArePlainOthers}
use Rattle.at_geojson.specs.Features.{AreMembersOf, AreRead}
use Rattle.at_geojson.proofs.at_once.features.read_feature.Given as goal

abbrev pub invariant-members : goal.invariant-members
invariant-members l = record { order : l.at < l.place; within : l.place ≤ length l.text.bytes.now; properties : ArePlainOthers l.text.bytes.now l.names.properties; read : AreRead l.text.algebra.now l.text.base l.text.bytes.now l.at l.place l.names.own (λ f. AreMembersOf l.text.algebra.now f l.members) }

abbrev pub decreases-members : goal.decreases-members
decreases-members l = length l.text.bytes.now - l.place
