use Rattle.at_run.proofs.SequenceEnds.{ended_in_form}
use Rattle.at_run.proofs.answers.part.Goals as goal

pub returns-in-Seq-clause-answer : goal.returns-in-Seq-clause-answer
returns-in-Seq-clause-answer g c = ended_in_form c.args.form c.args.digits c.args.how c.args.query.now c.args.bytes.now c.part_seq.result c.in-Seq.is c.part_seq.ensures.part

pub returns-in_ok-whole-in_default-clause-given_up : goal.returns-in_ok-whole-in_default-clause-given_up
returns-in_ok-whole-in_default-clause-given_up g c (n, low, high, h) = absurd (c.in_ok-whole-in_default.ensures.given_up n low high h)
