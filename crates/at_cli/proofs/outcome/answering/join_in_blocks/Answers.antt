use Rattle.at_cli.proofs.GatesPassed.{pair_passed}
use Rattle.at_cli.proofs.outcome.answering.join_in_blocks.Goals as goal

pub returns-clause-passes : goal.returns-clause-passes
returns-clause-passes g c = pair_passed c.args.files.now.line (g.G.Gate.given_up c.args.gate.now) c.in-Ok.cuts_a c.answer_join.result c.in-Ok.ensures.count c.answer_join.ensures.gate_a c.answer_join.ensures.gate_cells
