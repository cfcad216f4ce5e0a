-- Between items: those before were read. Brackets stand less deep in a part.
use Rattle.std.proofs.Common.{◌≡◌, ℕ, ◌+◌, ◌*◌, ◌-◌, ◌<◌, ◌≤◌, length, slice_index}
use Rattle.at_geojson.specs.Values.{IsWhole, AreItemsRead, AreMembersRead}
use Rattle.at_geojson.specs.Members.{AreFieldsRead}
use Rattle.at_geojson.proofs.at_once.values.+values.Given as goal

abbrev pub decreases-read_value : goal.decreases-read_value
decreases-read_value l = 8 * l.depth + 2

abbrev pub decreases-read_list : goal.decreases-read_list
decreases-read_list l = 8 * l.depth + 1

abbrev pub decreases-read_any : goal.decreases-read_any
decreases-read_any l = 8 * l.depth + 3

abbrev pub decreases-read_item : goal.decreases-read_item
decreases-read_item l = 8 * l.depth + 4

abbrev pub decreases-put_field : goal.decreases-put_field
decreases-put_field l = 8 * l.depth + 5

abbrev pub decreases-text_field : goal.decreases-text_field
decreases-text_field l = 8 * l.depth + 6

abbrev pub decreases-other_field : goal.decreases-other_field
decreases-other_field l = 8 * l.depth + 6

abbrev pub decreases-read_field : goal.decreases-read_field
decreases-read_field l = 8 * l.depth + 7

abbrev pub decreases-read_array : goal.decreases-read_array
decreases-read_array l = 8 * l.depth

abbrev pub decreases-read_items : goal.decreases-read_items
decreases-read_items l = 8 * l.depth + 5

abbrev pub decreases-read_nest : goal.decreases-read_nest
decreases-read_nest l = 6

abbrev pub decreases-read_object : goal.decreases-read_object
decreases-read_object l = 8 * l.depth + 1

abbrev pub decreases-read_members : goal.decreases-read_members
decreases-read_members l = 8 * l.depth

abbrev pub decreases-read_fields : goal.decreases-read_fields
decreases-read_fields l = 8 * l.depth

abbrev pub invariant-read_items-items : goal.invariant-read_items-items
invariant-read_items-items l = record { order : l.at < l.place; within : l.place ≤ length l.text.bytes.now; read : AreItemsRead l.text.algebra.now l.text.base l.text.bytes.now l.at l.place l.items.items }

abbrev pub decreases-read_items-items : goal.decreases-read_items-items
decreases-read_items-items l = length l.text.bytes.now - l.place

abbrev pub invariant-read_members-members : goal.invariant-read_members-members
invariant-read_members-members l = record { order : l.at < l.place; within : l.place ≤ length l.text.bytes.now; read : AreMembersRead l.text.algebra.now l.text.base l.text.bytes.now l.at l.place l.members.items }

abbrev pub decreases-read_members-members : goal.decreases-read_members-members
decreases-read_members-members l = length l.text.bytes.now - l.place

abbrev pub invariant-read_fields-fields : goal.invariant-read_fields-fields
invariant-read_fields-fields l = record { order : l.at < l.place; within : l.place ≤ length l.text.bytes.now; read : AreFieldsRead l.text.algebra.now l.text.base l.text.bytes.now l.at l.place l.others l.fields }

abbrev pub decreases-read_fields-fields : goal.decreases-read_fields-fields
decreases-read_fields-fields l = length l.text.bytes.now - l.place

abbrev pub invariant-read_nest-nest : goal.invariant-read_nest-nest
invariant-read_nest-nest l = record {
  low : l.at ≤ l.first;
  brackets : (k : ℕ) → l.at ≤ k → k ≤ l.first → slice_index l.text.bytes.now k ≡ 0x5B;
  whole : IsWhole l.text.algebra.now l.text.base l.text.bytes.now l.first l.whole;
}

abbrev pub decreases-read_nest-nest : goal.decreases-read_nest-nest
decreases-read_nest-nest l = l.first
