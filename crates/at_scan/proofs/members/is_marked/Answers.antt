use Rattle.std.proofs.Common.{arith}
use Rattle.at_scan.proofs.members.is_marked.Goals as goal

pub bounds-marks-mark : goal.bounds-marks-mark
bounds-marks-mark c = omega (arith, c.mark_of-mark.ensures.below, c.requires)
