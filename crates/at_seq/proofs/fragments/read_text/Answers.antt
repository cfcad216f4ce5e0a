use Rattle.at_seq.proofs.Merges.{lone_read}
use Rattle.at_seq.proofs.fragments.read_text.Goals as goal

pub returns-then-first-span : goal.returns-then-first-span
returns-then-first-span c = lone_read c.args.file.now.algebra.now c.args.file.now.bytes.now c.args.span.from c.args.span.to c.separator_place.result c.run_block.result c.requires.order c.requires.within c.separator_place.ensures.first c.if-first-span.true c.run_block.ensures
