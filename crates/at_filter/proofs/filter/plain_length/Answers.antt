use Rattle.std.proofs.Common.{◌∙◌, ◌==◌}
use Rattle.at_filter.proofs.Places.{first_place}
use Rattle.at_filter.proofs.filter.plain_length.Goals as goal

pub returns-clause-first : goal.returns-clause-first
returns-clause-first c = c.unwrap_or.ensures ∙ first_place (λ b. b == 0x7D) c.args.bytes.now c.memchr.result c.memchr.ensures
