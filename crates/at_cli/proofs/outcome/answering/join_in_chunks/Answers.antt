use Rattle.at_cli.proofs.GatesPassed.{fed_pair_passed}
use Rattle.at_cli.proofs.outcome.answering.join_in_chunks.Goals as goal

pub returns-clause-passes : goal.returns-clause-passes
returns-clause-passes g c = fed_pair_passed c.args.line.now (g.G.Gate.given_up c.args.gate.now) c.args.size c.fed_join.result c.requires.feed c.fed_join.ensures.gate_cells
