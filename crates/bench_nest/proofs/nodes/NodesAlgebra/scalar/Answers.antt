use Rattle.bench_nest.proofs.Counting.{scalar_counts}
use Rattle.bench_nest.proofs.nodes.NodesAlgebra.scalar.Goals as goal

pub returns-clause-fold : goal.returns-clause-fold
returns-clause-fold c = λ t s. scalar_counts c.args._at c.args._text.now t c.requires.whole s
