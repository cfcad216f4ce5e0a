use Rattle.at_text.specs.Texts.{base_of}
use Rattle.at_blocks.proofs.ValidSpans.{text_within, valid_around}
use Rattle.at_blocks.proofs.encodings.is_valid_around.Goals as goal

pub returns-then-is_valid : goal.returns-then-is_valid
returns-then-is_valid c behind = valid_around c.args.bytes.now (base_of c.args.bytes.now) c.args.valid (text_within c.args.bytes.now) c.requires.valid (c.is_valid.ensures.0 c.if-is_valid.true) (c.is_valid-then-is_valid.ensures.0 behind)
