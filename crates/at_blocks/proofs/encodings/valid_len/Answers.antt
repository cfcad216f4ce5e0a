use Rattle.at_blocks.proofs.ValidSpans.{faultless_len, fault_within}
use Rattle.at_blocks.proofs.encodings.valid_len.Goals as goal

pub returns-in-None-clause-longest : goal.returns-in-None-clause-longest
returns-in-None-clause-longest c = faultless_len c.args.bytes.now c.in-None.ensures

pub returns-in-Some-clause-within : goal.returns-in-Some-clause-within
returns-in-Some-clause-within c = fault_within c.args.bytes.now c.in-Some.fault c.in-Some.ensures
