use Rattle.std.proofs.Common.{sym, ◌∙◌}
use Rattle.at_scan.proofs.SimpleTexts.{plain_name_is}
use Rattle.at_scan.proofs.members.long_name.Goals as goal

pub returns-clause-plain : goal.returns-clause-plain
returns-clause-plain c = plain_name_is c.args.text.now c.args.at c.in_ok-name.name c.in_ok-name.ensures (sym c.is_simple.ensures ∙ c.if-not-is_simple.false)
