-- A whole string.
use Rattle.at_scan.proofs.Taken.{string_taken}
use Rattle.at_geojson.proofs.ValueParts.{string_read}
use Rattle.at_geojson.proofs.at_once.values.short_string.Goals as goal

pub plain_text_atom-requires-clause-string : goal.plain_text_atom-requires-clause-string
plain_text_atom-requires-clause-string c = string_taken c.args.text.now.bytes.now c.args.at c.args.end c.requires.string.0

pub returns : goal.returns
returns c = string_read c.args.text.now.algebra.now c.args.text.now.base c.args.text.now.bytes.now c.args.at c.args.end c.in_ok-atom.atom c.requires.string.0 c.in_ok-atom.ensures.own c.in_ok-atom.ensures.fold
