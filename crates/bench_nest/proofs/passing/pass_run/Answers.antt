-- A whole run is a value.
use Rattle.at_lex.specs.Runs.{JsonRun}
use Rattle.bench_nest.proofs.PassedParts.{run_passed}
use Rattle.bench_nest.proofs.passing.pass_run.Goals as goal
use Rattle.at_scan.proofs.Taken.{taken_whole}

pub returns-then-taken : goal.returns-then-taken
returns-then-taken c = let (fits, run) = taken_whole JsonRun c.args.text.now c.args.at c.take_run-taken.result c.take_run-taken.ensures c.if-taken.true in
    run_passed c.args.text.now c.args.at c.take_run-taken.result.len c.requires.inside fits run
