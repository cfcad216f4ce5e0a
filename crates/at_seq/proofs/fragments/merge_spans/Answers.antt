use Rattle.at_seq.proofs.Merges.{text_beside, spans_merged}
use Rattle.at_seq.proofs.fragments.merge_spans.Goals as goal

pub merge_texts-requires : goal.merge_texts-requires
merge_texts-requires c = let (i, j, k, n) = c.requires.beside in record { beside = (i, j, k, text_beside c.args.file.now.algebra.now c.args.file.now.bytes.now i j k c.args.left c.args.right n) }

pub returns-in-Ok : goal.returns-in-Ok
returns-in-Ok c i j k n = spans_merged c.args.file.now.algebra.now c.args.file.now.bytes.now i j k c.args.left c.args.right c.in-Ok.text c.joined_span-valid.result n c.in-Ok.ensures c.joined_span-valid.ensures
