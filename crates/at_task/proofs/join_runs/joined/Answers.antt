use Rattle.at_task.proofs.join_runs.joined.Goals as goal

pub returns-in-Ok-clause-gate : goal.returns-in-Ok-clause-gate
returns-in-Ok-clause-gate g c n low high h = c.in-Ok.ensures.gate n high h
