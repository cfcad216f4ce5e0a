use Rattle.at_run.proofs.joins.join_with.Goals as goal

pub returns-in-Ok-pairs_grid-clause-gate : goal.returns-in-Ok-pairs_grid-clause-gate
returns-in-Ok-pairs_grid-clause-gate g c n low high h = c.in-Ok-pairs_grid.ensures.gate n high h
