use Rattle.std.proofs.Common.{◌-◌, length}
use Rattle.at_wkt.proofs.LineMerges.{FoldedSoFar}
use Rattle.at_wkt.proofs.file.fragments.read_inner.Given as goal

abbrev pub invariant-lines : goal.invariant-lines
invariant-lines g l = FoldedSoFar (g.F.Fold.is_own l.fold) (g.F.Fold.is_fold l.fold) l.at l.bytes l.start l.part

abbrev pub decreases-lines : goal.decreases-lines
decreases-lines g l = length l.bytes - l.start
