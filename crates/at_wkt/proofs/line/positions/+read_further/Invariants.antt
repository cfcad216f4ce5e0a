use Rattle.std.proofs.Common.{length, ◌-◌}
use Rattle.at_wkt.proofs.line.positions.+read_further.Given as goal

abbrev pub decreases-read_further : goal.decreases-read_further
decreases-read_further l = length l.source.now.text.now - l.from.at
