use Rattle.at_seq.proofs.Merges.{record_beside, record_holds, added_joinable, parted_parted}
use Rattle.at_seq.proofs.fragments.merge_parted.Goals as goal

pub merge-whole-requires-clause-neighbours : goal.merge-whole-requires-clause-neighbours
merge-whole-requires-clause-neighbours c κs = (c.args.left.last, c.requires.beside.1, c.args.right.first, record_beside c.args.file.now.algebra.now c.args.file.now.bytes.now c.requires.beside.0 c.requires.beside.1 c.requires.beside.2 c.args.left c.args.right c.requires.beside.3)

pub add_fragment-requires-clause-whole : goal.add_fragment-requires-clause-whole
add_fragment-requires-clause-whole c = record_holds c.args.file.now.algebra.now c.args.file.now.bytes.now c.requires.beside.0 c.requires.beside.1 c.requires.beside.2 c.args.left c.args.right c.requires.beside.3 c.merge-whole.result c.merge-whole.ensures.union

pub join_into-requires : goal.join_into-requires
join_into-requires c = added_joinable c.args.file.now.algebra.now c.args.file.now.bytes.now c.requires.beside.0 c.requires.beside.1 c.requires.beside.2 c.args.left c.args.right c.requires.beside.3 c.add_fragment.new.gathered c.in_ok-add_fragment.ensures

pub returns : goal.returns
returns c i j k n = parted_parted c.args.file.now.algebra.now c.args.file.now.bytes.now i j k c.args.left c.args.right n c.add_fragment.new.gathered c.join_into.new.gathered c.in_ok-add_fragment.ensures c.in_ok-join_into.ensures
