-- A whole run is a literal or a number.
use Rattle.std.proofs.Common.{inr}
use Rattle.at_geojson.proofs.ValueParts.{run_taken}
use Rattle.at_geojson.proofs.at_once.passing.pass_run.Goals as goal

pub returns-then-taken : goal.returns-then-taken
returns-then-taken c = let t = run_taken c.args.text.now c.args.at c.take_run-taken.result c.requires.inside c.take_run-taken.ensures c.if-taken.true in (t.order, t.within, inr t.word)
