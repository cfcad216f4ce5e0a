use Rattle.at_run.proofs.SequenceEnds.{sequence_ended}
use Rattle.at_run.proofs.sequences.finish_sequence.Goals as goal

pub returns : goal.returns
returns c =
    let asked = c.args.algebra.now in
    sequence_ended asked.digits asked.how asked.query c.args.bytes.now c.part_of_whole.result c.part_of_whole.ensures
