use Rattle.std.proofs.Common.{ℕ, List, ◌+◌, ◌%◌, ◌^◌, ap, ◌∙◌}
use Rattle.std.specs.List.{sum_by}
use Rattle.at_nest.specs.declared.algebra.Member.{Member}
use Rattle.bench_nest.proofs.Counting.{object_counts}
use Rattle.bench_nest.proofs.nodes.NodesAlgebra.object.Goals as goal

pub returns-clause-fold : goal.returns-clause-fold
returns-clause-fold c = λ ms h. ap (λ n. (n + 1) % 2 ^ 64) (c.sum_of_members.ensures ∙ ap (λ (xs : List (Member ℕ)). sum_by (λ (m : Member ℕ). m.value) xs % 2 ^ 64) c.as_slice.ensures.value) ∙ object_counts c.args.at c.args.members.items ms h
