use Rattle.std.specs.Int.{w64, cast_signed, cast_unsigned}
use Rattle.std.proofs.Common.{arith}
use Rattle.std.proofs.lemmas.Int.{ints, clamps}
use Rattle.at_geom.proofs.Comparisons.{le_true}
use Rattle.at_geom.proofs.rectangles.span_touches.Goals as goal

pub returns-then-min-high : goal.returns-then-min-high
returns-then-min-high c =
    let low = cast_signed w64 (cast_unsigned w64 c.args.low) in
    let high = cast_signed w64 (cast_unsigned w64 c.max.result) in
    (λ t. (omega (arith, ints, clamps), omega (arith, ints, clamps)), λ t. le_true low high (omega (arith, ints, clamps)))
