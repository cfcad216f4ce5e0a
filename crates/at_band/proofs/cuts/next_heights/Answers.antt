use Rattle.std.proofs.Common.{arith, rules}
use Rattle.std.specs.Prelude.{FitsSigned}
use Rattle.std.specs.Int.{w64}
use Rattle.std.proofs.lemmas.Int.{ints, clamps, to_z-of_z}
use Rattle.at_band.proofs.cuts.next_heights.Goals as goal

pub returns-clause-ordered : goal.returns-clause-ordered
returns-clause-ordered c =
    let low : FitsSigned w64 c.args.before.high = search rules in
    let high : FitsSigned w64 c.min-high.result = search rules in
    rw (to_z-of_z w64 c.args.before.high low, to_z-of_z w64 c.min-high.result high) (omega (arith, ints, clamps, c.min-high.ensures.value, c.max.ensures.value, c.requires.within))
