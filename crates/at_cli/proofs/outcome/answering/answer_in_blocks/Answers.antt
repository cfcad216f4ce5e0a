use Rattle.at_cli.proofs.GatesPassed.{gate_passed}
use Rattle.at_cli.proofs.outcome.answering.answer_in_blocks.Goals as goal

pub returns-clause-passes : goal.returns-clause-passes
returns-clause-passes g c = gate_passed c.args.file.now.line (g.G.Gate.given_up c.args.gate.now) c.in-Ok.cuts c.answer.result c.in-Ok.ensures.count c.answer.ensures.given_up c.requires.second
