use Rattle.std.proofs.Common.{◌∙◌, ◌==◌}
use Rattle.at_wkt.proofs.Places.{first_place}
use Rattle.at_wkt.proofs.file.searches.first_place.Goals as goal

pub returns-clause-first : goal.returns-clause-first
returns-clause-first c = c.unwrap_or.ensures ∙ first_place (λ b. b == c.args.byte) c.args.bytes.now c.memchr.result c.memchr.ensures
