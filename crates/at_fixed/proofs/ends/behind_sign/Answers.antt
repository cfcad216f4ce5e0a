use Rattle.at_fixed.proofs.GapMasks.{marks_behind_sign}
use Rattle.at_fixed.proofs.ends.behind_sign.Goals as goal

pub returns : goal.returns
returns c = (marks_behind_sign c.args.notation c.args.text.now c.args.count c.args.gaps c.args.sign c.requires.some c.requires.gaps c.requires.sign).0
