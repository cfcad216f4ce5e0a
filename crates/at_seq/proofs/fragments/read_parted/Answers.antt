use Rattle.at_seq.proofs.Merges.{parted_read}
use Rattle.at_seq.proofs.fragments.read_parted.Goals as goal

pub returns : goal.returns
returns c = parted_read c.args.file.now.algebra.now c.args.file.now.bytes.now c.args.span.from c.args.span.to c.args.first c.in_ok-kept.field-0.kept c.in_ok-kept.field-0.last c.run_block.result c.run_block-2.result
    c.requires.begins c.requires.inside c.requires.within c.requires.first c.in_ok-kept.ensures c.run_block.ensures c.run_block-2.ensures
