use Rattle.std.proofs.Common.{◌≡◌, take}
use Rattle.at_band.specs.Thinned.{thinned_paths}
use Rattle.at_band.proofs.thinning.paths_within.Given as goal

abbrev pub invariant-loop-path : goal.invariant-loop-path
invariant-loop-path l = l.kept.items ≡ thinned_paths l.heights.low l.heights.high (take l.path-index l.paths)
