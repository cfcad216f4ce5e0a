use Rattle.std.specs.Int.{w64, cast_signed, cast_unsigned}
use Rattle.std.proofs.Common.{arith}
use Rattle.std.proofs.lemmas.Int.{ints, clamps}
use Rattle.at_geom.proofs.Comparisons.{le_true}
use Rattle.at_geom.proofs.regions.is_between.Goals as goal

pub returns-then-min-c : goal.returns-then-min-c
returns-then-min-c c =
    let low = cast_signed w64 (cast_unsigned w64 c.args.c) in
    let high = cast_signed w64 (cast_unsigned w64 c.max.result) in
    (λ t. (omega (arith, ints, clamps), omega (arith, ints, clamps)), λ t. le_true low high (omega (arith, ints, clamps)))
