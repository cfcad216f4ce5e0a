use Rattle.at_blocks.proofs.ValidSpans.{spans_joined, left_alone}
use Rattle.at_blocks.proofs.encodings.joined_span.Goals as goal

pub returns-then-is_valid : goal.returns-then-is_valid
returns-then-is_valid c = spans_joined c.args.bytes.now c.args.left c.args.right (c.is_valid.ensures.0 c.if-is_valid.true)

pub returns-else-is_valid : goal.returns-else-is_valid
returns-else-is_valid c = left_alone c.args.bytes.now c.args.left c.args.right
