use Rattle.at_blocks.proofs.ValidSpans.{span_stands}
use Rattle.at_blocks.proofs.encodings.valid_span.Goals as goal

pub returns : goal.returns
returns c = span_stands c.args.piece.now c.args.base c.continued_len-continued.result c.valid_len-len.result c.continued_len-continued.ensures c.valid_len-len.ensures.longest
