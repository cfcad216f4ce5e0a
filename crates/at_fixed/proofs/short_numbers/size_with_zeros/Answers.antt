use Rattle.std.proofs.Common.{◌≡◌, ◌+◌, ◌-◌, ◌*◌, ◌<◌, ◌^◌, subst, refl, arith}
use Rattle.at_fixed.specs.Numerals.{AreDigits}
use Rattle.at_fixed.specs.NumberSoFar.{between}
use Rattle.at_fixed.proofs.PlainRuns.{spelled_to}
use Rattle.at_fixed.proofs.Valued.{sized_most}
use Rattle.at_fixed.proofs.short_numbers.size_with_zeros.Goals as goal

pub spelled_number-requires-clause-digits : goal.spelled_number-requires-clause-digits
spelled_number-requires-clause-digits c =
    let place : c.args.to ≡ c.args.from + (c.args.to - c.args.from) = omega (arith, c.requires.some) in
    subst (λ z. AreDigits (between c.args.text.now c.args.from z)) place c.requires.run.digits

most : (c : goal.After-power_of_ten) → c.spelled_number.result * c.power_of_ten.result < 10 ^ 14
most c = sized_most _ _ _ _ c.power_of_ten.ensures (spelled_to _ _ _ _ c.requires.run c.spelled_number.ensures).1 (omega (arith, c.requires.fits))

pub overflow_mul-result : goal.overflow_mul-result
overflow_mul-result c = record { fits = omega (arith, most c) }

pub returns-clause-value : goal.returns-clause-value
returns-clause-value c = rw (c.power_of_ten.ensures, (spelled_to _ _ _ _ c.requires.run c.spelled_number.ensures).0) refl

pub returns-clause-bound : goal.returns-clause-bound
returns-clause-bound c = most c
