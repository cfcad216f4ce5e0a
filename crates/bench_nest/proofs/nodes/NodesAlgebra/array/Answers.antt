use Rattle.std.proofs.Common.{◌+◌, ◌%◌, ◌^◌, ap, ◌∙◌}
use Rattle.std.specs.List.{sum}
use Rattle.bench_nest.proofs.Counting.{array_counts}
use Rattle.bench_nest.proofs.nodes.NodesAlgebra.array.Goals as goal

pub returns-clause-fold : goal.returns-clause-fold
returns-clause-fold c = λ ts h. ap (λ n. (n + 1) % 2 ^ 64) (c.sum_of.ensures ∙ ap (λ xs. sum xs % 2 ^ 64) c.as_slice.ensures.value) ∙ array_counts c.args.at c.args.items.items ts h
