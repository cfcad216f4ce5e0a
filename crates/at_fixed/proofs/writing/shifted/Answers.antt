use Rattle.std.proofs.Common.{◌<◌, ◌≤◌, ◌^◌, sym, arith, lit<}
use Rattle.std.proofs.Math.Nat.{pow-le-pow_right}
use Rattle.at_fixed.proofs.Sizes.{pow_positive}
use Rattle.at_fixed.proofs.Written.{small_div}
use Rattle.at_fixed.proofs.writing.shifted.Goals as goal

pub nonzero_div-result : goal.nonzero_div-result
nonzero_div-result c = rw c.power_of_ten.ensures (pow_positive c.args.places)

pub returns-else-places-lt20 : goal.returns-else-places-lt20
returns-else-places-lt20 c =
    let ten : 0 < 10 = lit< tt in
    let many : 10 ^ 20 ≤ 10 ^ c.args.places = pow-le-pow_right ten c.if-places-lt20.false in
    sym (small_div c.args.n (10 ^ c.args.places) (omega (arith, many)))
