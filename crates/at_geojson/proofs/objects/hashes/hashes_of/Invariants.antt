use Rattle.std.proofs.Common.{◌≡◌, take, map}
use Rattle.at_geojson.specs.Hashes.{member_hash}
use Rattle.at_geojson.proofs.objects.hashes.hashes_of.Given as goal

abbrev pub invariant-loop-member : goal.invariant-loop-member
invariant-loop-member l = l.hashes.items ≡ map member_hash (take l.member-index l.members)
