use Rattle.at_fixed.proofs.Phases.{signed_by, whole_by}
use Rattle.at_fixed.proofs.scanning.read_whole.Goals as goal

pub returns : goal.returns
returns c = whole_by c.args.notation c.args.text.now c.read_sign-sign.result c.read_lead-lead.result
    (signed_by c.args.notation c.args.text.now c.read_sign-sign.result c.read_sign-sign.ensures) c.read_lead-lead.ensures
