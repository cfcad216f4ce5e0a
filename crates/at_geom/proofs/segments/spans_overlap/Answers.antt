use Rattle.std.specs.Int.{w64, cast_signed, cast_unsigned}
use Rattle.std.proofs.Common.{arith}
use Rattle.std.proofs.lemmas.Int.{ints, clamps}
use Rattle.at_geom.proofs.Comparisons.{le_true}
use Rattle.at_geom.proofs.segments.spans_overlap.Goals as goal

pub returns-then-min-max : goal.returns-then-min-max
returns-then-min-max c =
    let low = cast_signed w64 (cast_unsigned w64 c.min-then-min-max.result) in
    let high = cast_signed w64 (cast_unsigned w64 c.max-then-min-max.result) in
    (λ t. (omega (arith, ints, clamps), omega (arith, ints, clamps)), λ t. le_true low high (omega (arith, ints, clamps)))
