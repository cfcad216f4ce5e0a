use Rattle.std.proofs.Common.{refl}
use Rattle.at_fixed.proofs.Phases.{whole_led}
use Rattle.at_fixed.proofs.plain_scanning.whole_of.Goals as goal

pub returns-clause-reads : goal.returns-clause-reads
returns-clause-reads c = (whole_led c.args.notation c.args.text.now c.args.sign c.in_ok-lead.lead c.requires.sign c.in_ok-lead.ensures.reads.0 c.in_ok-lead.ensures.reads.1, refl)
