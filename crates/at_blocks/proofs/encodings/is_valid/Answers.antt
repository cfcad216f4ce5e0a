use Rattle.at_blocks.proofs.ValidSpans.{faultless_iff}
use Rattle.at_blocks.proofs.encodings.is_valid.Goals as goal

pub returns : goal.returns
returns c = faultless_iff c.args.bytes.now c.utf8_fault.result c.is_none.result c.utf8_fault.ensures c.is_none.ensures
