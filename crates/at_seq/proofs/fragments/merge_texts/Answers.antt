use Rattle.at_seq.specs.declared.fragments.SeqText.TheVariants.{Lone, Parted}
use Rattle.at_seq.proofs.Merges.{texts_are, lone_before, behind_lone, lone_lone, lone_parted, parted_lone}
use Rattle.at_seq.proofs.fragments.merge_texts.Goals as goal

pub merge-requires-in-Lone-Parted-clause-neighbours : goal.merge-requires-in-Lone-Parted-clause-neighbours
merge-requires-in-Lone-Parted-clause-neighbours c κs = lone_before c.args.file.now.algebra.now c.args.file.now.bytes.now c.args.left c.args.right c.in-Lone-Parted.left c.in-Lone-Parted.right c.in-Lone-Parted.is-0 c.in-Lone-Parted.is-1 c.requires.beside

pub merge-requires-in-Parted-Lone-clause-neighbours : goal.merge-requires-in-Parted-Lone-clause-neighbours
merge-requires-in-Parted-Lone-clause-neighbours c κs = behind_lone c.args.file.now.algebra.now c.args.file.now.bytes.now c.args.left c.args.right c.in-Parted-Lone.left c.in-Parted-Lone.right c.in-Parted-Lone.is-0 c.in-Parted-Lone.is-1 c.requires.beside

pub returns-in-Lone-Lone : goal.returns-in-Lone-Lone
returns-in-Lone-Lone c i j k n = lone_lone c.args.file.now.algebra.now c.args.file.now.bytes.now i j k c.in-Lone-Lone.left c.in-Lone-Lone.right c.merge.result
    (texts_are c.args.file.now.algebra.now c.args.file.now.bytes.now i j k c.args.left c.args.right (Lone c.in-Lone-Lone.left) (Lone c.in-Lone-Lone.right) c.in-Lone-Lone.is-0 c.in-Lone-Lone.is-1 n) c.merge.ensures.union

pub returns-in-Lone-Parted : goal.returns-in-Lone-Parted
returns-in-Lone-Parted c i j k n = lone_parted c.args.file.now.algebra.now c.args.file.now.bytes.now i j k c.in-Lone-Parted.left c.in-Lone-Parted.right c.merge-in-Lone-Parted.result
    (texts_are c.args.file.now.algebra.now c.args.file.now.bytes.now i j k c.args.left c.args.right (Lone c.in-Lone-Parted.left) (Parted c.in-Lone-Parted.right) c.in-Lone-Parted.is-0 c.in-Lone-Parted.is-1 n) c.merge-in-Lone-Parted.ensures.union

pub returns-in-Parted-Lone : goal.returns-in-Parted-Lone
returns-in-Parted-Lone c i j k n = parted_lone c.args.file.now.algebra.now c.args.file.now.bytes.now i j k c.in-Parted-Lone.left c.in-Parted-Lone.right c.merge-in-Parted-Lone.result
    (texts_are c.args.file.now.algebra.now c.args.file.now.bytes.now i j k c.args.left c.args.right (Parted c.in-Parted-Lone.left) (Lone c.in-Parted-Lone.right) c.in-Parted-Lone.is-0 c.in-Parted-Lone.is-1 n) c.merge-in-Parted-Lone.ensures.union
