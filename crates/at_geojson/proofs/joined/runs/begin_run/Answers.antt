-- The object begins a run, and the other is put behind it.
use Rattle.std.proofs.lemmas.Result.{IfOk-weaker}
use Rattle.at_geojson.proofs.RunFolds.{taken_own, begins_run}
use Rattle.at_geojson.proofs.joined.runs.begin_run.Goals as goal

pub add_behind_run-requires-clause-before : goal.add_behind_run-requires-clause-before
add_behind_run-requires-clause-before c =
    let before = c.in_ok-before in
    taken_own c.args.algebra.now c.args.last before.before.value before.ensures.geometries before.ensures.features c.requires.last

pub returns-clause-fold : goal.returns-clause-fold
returns-clause-fold c =
    let before = c.in_ok-before in
    IfOk-weaker c.add_behind_run.result _ _
    (λ u d ts us h k. d ts us (begins_run c.args.algebra.now c.args.items.now.items before.before c.args.last c.requires.first before.ensures.geometries before.ensures.features ts h) k)
    c.add_behind_run.ensures.fold
