use Rattle.std.proofs.Common.{◌≡◌, ◌++◌, drop}
use Rattle.at_band.specs.Thinned.{thinned, thinned_from}
use Rattle.at_band.proofs.thinning.thinned_path.Given as goal

abbrev pub invariant-loop-to : goal.invariant-loop-to
invariant-loop-to l = l.kept.items ++ thinned_from l.heights.low l.heights.high l.joins l.from (drop l.to-index l.rest) ≡ thinned l.heights.low l.heights.high l.path
