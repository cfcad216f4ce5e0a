-- Between items and between members: those before were passed over. Brackets stand less deep in a part.
use Rattle.std.proofs.Common.{◌≡◌, ◌+◌, ◌*◌, ◌-◌, ◌<◌, ◌≤◌, length}
use Rattle.at_query.specs.TextTests.{met_by}
use Rattle.at_geojson.specs.Objects.{kept_texts}
use Rattle.at_geojson.specs.Features.{NameNoKind, AreRead}
use Rattle.at_geojson.proofs.RolelessArrays.{ArePassed}
use Rattle.at_geojson.proofs.at_once.plain_objects.+passing.Given as goal

abbrev pub decreases-pass_object : goal.decreases-pass_object
decreases-pass_object l = 8 * l.depth

abbrev pub decreases-pass_inner : goal.decreases-pass_inner
decreases-pass_inner l = 8 * l.depth + 1

abbrev pub decreases-pass_part : goal.decreases-pass_part
decreases-pass_part l = 8 * l.depth + 2

abbrev pub decreases-pass_array : goal.decreases-pass_array
decreases-pass_array l = 8 * l.depth + 2

abbrev pub decreases-pass_nested : goal.decreases-pass_nested
decreases-pass_nested l = 8 * l.depth + 3

abbrev pub decreases-pass_or_read : goal.decreases-pass_or_read
decreases-pass_or_read l = 8 * l.depth + 4

abbrev pub decreases-pass_other : goal.decreases-pass_other
decreases-pass_other l = 8 * l.depth + 5

abbrev pub decreases-pass_text : goal.decreases-pass_text
decreases-pass_text l = 8 * l.depth + 6

abbrev pub decreases-pass_member : goal.decreases-pass_member
decreases-pass_member l = 8 * l.depth + 7

abbrev pub invariant-pass_array-items : goal.invariant-pass_array-items
invariant-pass_array-items l = record { order : l.at < l.place; within : l.place ≤ length l.text.bytes.now; passed : ArePassed l.text.algebra.now l.text.base l.text.bytes.now l.at l.place }

abbrev pub decreases-pass_array-items : goal.decreases-pass_array-items
decreases-pass_array-items l = length l.text.bytes.now - l.place

abbrev pub invariant-pass_object-members : goal.invariant-pass_object-members
invariant-pass_object-members l = record {
  order : l.at < l.place;
  within : l.place ≤ length l.text.bytes.now;
  read : (r : AreRead l.text.algebra.now l.text.base l.text.bytes.now l.at l.place l.others (NameNoKind l.members.named)) × (l.members.met ≡ met_by l.text.algebra.now.query.tests (kept_texts l.text.algebra.now.query.tests r.read.members));
}

abbrev pub decreases-pass_object-members : goal.decreases-pass_object-members
decreases-pass_object-members l = length l.text.bytes.now - l.place
