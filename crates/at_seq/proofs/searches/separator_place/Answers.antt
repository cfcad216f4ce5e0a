use Rattle.std.proofs.Common.{◌∙◌}
use Rattle.at_wkt.proofs.Places.{first_place}
use Rattle.at_seq.specs.Records.{is_separator}
use Rattle.at_seq.proofs.searches.separator_place.Goals as goal

pub returns-clause-first : goal.returns-clause-first
returns-clause-first c = c.unwrap_or.ensures ∙ first_place is_separator c.args.bytes.now c.memchr.result c.memchr.ensures
