use Rattle.std.proofs.Common.{◌≡◌, take}
use Rattle.at_band.specs.Thinned.{thinned_points}
use Rattle.at_band.proofs.thinning.points_within.Given as goal

abbrev pub invariant-loop-p : goal.invariant-loop-p
invariant-loop-p l = l.kept.items ≡ thinned_points l.heights.low l.heights.high (take l.p-index l.points)
