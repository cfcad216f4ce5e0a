use Rattle.at_seq.proofs.SequenceEnds.{stray_none, stray_some}
use Rattle.at_seq.proofs.finishing.stray_fault.Goals as goal

pub returns-then-spaces-text : goal.returns-then-spaces-text
returns-then-spaces-text c = stray_none c.args.at c.args.text.now c.spaces_len-spaces.result c.spaces_len-spaces.ensures c.if-spaces-text.true

pub returns-else-spaces-text : goal.returns-else-spaces-text
returns-else-spaces-text c = stray_some c.args.at c.args.text.now c.spaces_len-spaces.result c.spaces_len-spaces.ensures c.if-spaces-text.false
