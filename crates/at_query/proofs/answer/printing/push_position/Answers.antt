use Rattle.std.proofs.Common.{append_assoc, rules}
use Rattle.at_query.proofs.answer.printing.push_position.Goals as goal

pub returns : goal.returns
returns c = search (rules, append_assoc)
