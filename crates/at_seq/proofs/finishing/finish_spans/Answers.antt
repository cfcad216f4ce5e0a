use Rattle.at_seq.proofs.SequenceEnds.{valid_stands}
use Rattle.at_seq.proofs.finishing.finish_spans.Goals as goal

pub fault_of_encoding-requires-clause-valid : goal.fault_of_encoding-requires-clause-valid
fault_of_encoding-requires-clause-valid c = valid_stands c.args.file.now.algebra.now c.args.file.now.bytes.now c.args.whole c.in-Read.field-0 c.in-Read.is c.requires.whole
