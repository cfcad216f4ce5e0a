-- A whole string where no test looks at texts.
use Rattle.at_scan.proofs.Taken.{string_taken}
use Rattle.at_query.proofs.QueryFacts.{none_asked}
use Rattle.at_geojson.proofs.ValueParts.{string_read}
use Rattle.at_geojson.proofs.at_once.values.simple_string.Goals as goal

pub simple_atom-atom-requires-clause-string : goal.simple_atom-atom-requires-clause-string
simple_atom-atom-requires-clause-string c = string_taken c.args.text.now.bytes.now c.args.at c.args.end c.requires.string.0

pub returns-clause-whole : goal.returns-clause-whole
returns-clause-whole c = string_read c.args.text.now.algebra.now c.args.text.now.base c.args.text.now.bytes.now c.args.at c.args.end c.simple_atom-atom.result c.requires.string.0 c.simple_atom-atom.ensures.own c.simple_atom-atom.ensures.fold

pub simple_atom-atom-requires-clause-unasked : goal.simple_atom-atom-requires-clause-unasked
simple_atom-atom-requires-clause-unasked c = none_asked c.args.text.now.algebra.now.query.tests _ c.requires.unasked
