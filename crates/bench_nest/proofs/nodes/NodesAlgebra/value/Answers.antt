use Rattle.bench_nest.proofs.PassedParts.{attempt_of}
use Rattle.bench_nest.proofs.nodes.NodesAlgebra.value.Goals as goal

pub returns-in-Ok : goal.returns-in-Ok
returns-in-Ok c = attempt_of c.args.at c.args.text.now c.in-Ok.passed c.in-Ok.ensures
