-- A whole string.
use Rattle.at_geojson.proofs.ValueParts.{string_text, string_read}
use Rattle.at_geojson.proofs.at_once.values.long_string.Goals as goal

pub scalar_atom-requires-clause-whole : goal.scalar_atom-requires-clause-whole
scalar_atom-requires-clause-whole c = string_text c.args.text.now.bytes.now c.args.at c.in_ok-end.end c.in_ok-end.ensures

pub returns : goal.returns
returns c = string_read c.args.text.now.algebra.now c.args.text.now.base c.args.text.now.bytes.now c.args.at c.in_ok-end.end c.in_ok-atom.atom c.in_ok-end.ensures c.in_ok-atom.ensures.own c.in_ok-atom.ensures.fold
