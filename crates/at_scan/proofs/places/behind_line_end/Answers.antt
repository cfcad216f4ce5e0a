-- The blanks that were looked at together are all white space there is.
use Rattle.std.proofs.Common.{arith}
use Rattle.at_scan.proofs.Spaces.{blanks_are}
use Rattle.at_scan.proofs.places.behind_line_end.Goals as goal

pub returns-clause-spaces : goal.returns-clause-spaces
returns-clause-spaces c = let n = c.blank_lanes.ensures in blanks_are c.args.text.now c.args.at c.blank_lanes.result (omega (arith, c.if-text-at-le-LANES.false, n.few)) n.passes
