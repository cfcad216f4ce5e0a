use Rattle.std.proofs.Common.{◌-◌, ◌*◌, ◌^◌, ◌<◌, ◌≤◌, refl, ap, arith, lit<}
use Rattle.std.proofs.Math.Nat.{pow-le-pow_right}
use Rattle.at_fixed.specs.Fixed.{largest}
use Rattle.std.proofs.lemmas.Bool.{le-ltb}
use Rattle.at_fixed.proofs.Sizes.{vast_kept, above_limit, within_limit}
use Rattle.at_fixed.proofs.units.enlarged.Goals as goal

pub returns-then-shift-gt14-clause-value : goal.returns-then-shift-gt14-clause-value
returns-then-shift-gt14-clause-value c = rw (vast_kept c.args.kept c.args.shift 0 c.requires (omega (arith, c.if-shift-gt14.true))) refl

pub overflow_mul-largest_kept : goal.overflow_mul-largest_kept
overflow_mul-largest_kept c =
    let ten : 0 < 10 = lit< tt in
    let fewer : 14 - c.args.shift ≤ 14 = omega arith in
    let most : 10 ^ (14 - c.args.shift) ≤ 10 ^ 14 = pow-le-pow_right ten fewer in
    omega (arith, most, c.power_of_ten-largest_kept.ensures)

pub overflow_mul-result : goal.overflow_mul-result
overflow_mul-result c =
    let within = within_limit c.args.kept c.args.shift (omega arith) (rw c.power_of_ten-largest_kept.ensures at c.if-kept-largest_kept.false) in
    omega (arith, ap (λ n. c.args.kept * n) c.power_of_ten.ensures, within)

pub returns-then-kept-largest_kept-clause-value : goal.returns-then-kept-largest_kept-clause-value
returns-then-kept-largest_kept-clause-value c =
    rw (above_limit c.args.kept c.args.shift (omega arith) (rw c.power_of_ten-largest_kept.ensures at c.if-kept-largest_kept.true)) refl

pub returns-else-kept-largest_kept-clause-value : goal.returns-else-kept-largest_kept-clause-value
returns-else-kept-largest_kept-clause-value c =
    let within = within_limit c.args.kept c.args.shift (omega arith) (rw c.power_of_ten-largest_kept.ensures at c.if-kept-largest_kept.false) in
    rw (c.power_of_ten.ensures, le-ltb largest (c.args.kept * 10 ^ c.args.shift) within) refl

pub returns-else-kept-largest_kept-clause-bound : goal.returns-else-kept-largest_kept-clause-bound
returns-else-kept-largest_kept-clause-bound c =
    rw c.power_of_ten.ensures (within_limit c.args.kept c.args.shift (omega arith) (rw c.power_of_ten-largest_kept.ensures at c.if-kept-largest_kept.false))
