use Rattle.at_cli.specs.Gates.{PassesGate}
use Rattle.at_cli.proofs.Loads.{ends_pair, where_answered}
use Rattle.at_cli.proofs.outcome.answering.two_in_chunks.Goals as goal

pub returns-clause-end : goal.returns-clause-end
returns-clause-end g c =
    let files = c.args.files in
    ((λ second e. ends_pair files.line files.query second files.first.items files.second.items c.join_in_chunks-answer.result c.end_of_two.result e (c.join_in_chunks-answer.ensures.answer second e) c.end_of_two.ensures.end), c.end_of_two.ensures.late)

pub returns-clause-passes : goal.returns-clause-passes
returns-clause-passes g c zero =
    where_answered c.join_in_chunks-answer.result (PassesGate (g.G.Gate.given_up c.args.gate.now) c.args.files.line) (c.end_of_two.ensures.answered zero) c.join_in_chunks-answer.ensures.passes
