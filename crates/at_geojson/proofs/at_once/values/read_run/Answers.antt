-- A whole run is a literal or a number.
use Rattle.at_geojson.proofs.ValueParts.{run_taken, run_text, run_read}
use Rattle.std.proofs.Common.{◌+◌}
use Rattle.std.proofs.lemmas.Bool.{not-false}
use Rattle.at_geojson.proofs.at_once.values.read_run.Goals as goal

pub scalar_atom-requires-clause-whole : goal.scalar_atom-requires-clause-whole
scalar_atom-requires-clause-whole c = run_text c.args.text.now.bytes.now c.args.at (c.args.at + c.take_run-taken.result.len)
    (run_taken c.args.text.now.bytes.now c.args.at c.take_run-taken.result c.requires.inside c.take_run-taken.ensures (not-false c.take_run-taken.result.whole c.if-not-taken.false))

pub returns : goal.returns
returns c = run_read c.args.text.now.algebra.now c.args.text.now.base c.args.text.now.bytes.now c.args.at (c.args.at + c.take_run-taken.result.len) c.in_ok-atom.atom
    (run_taken c.args.text.now.bytes.now c.args.at c.take_run-taken.result c.requires.inside c.take_run-taken.ensures (not-false c.take_run-taken.result.whole c.if-not-taken.false)) c.in_ok-atom.ensures.own c.in_ok-atom.ensures.fold
