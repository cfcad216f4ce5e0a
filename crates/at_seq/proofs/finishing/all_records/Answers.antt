use Rattle.at_seq.proofs.SequenceEnds.{all_gathered}
use Rattle.at_seq.proofs.finishing.all_records.Goals as goal

pub returns : goal.returns
returns c = all_gathered c.args.file.now.algebra.now c.args.file.now.bytes.now c.args.parted c.requires.whole c.add_fragment.new.gathered c.in_ok-add_fragment.ensures
