use Rattle.std.proofs.Common.{◌≡◌, ◌+◌, ◌*◌, ◌/◌, ◌^◌, ◌<◌, sym, ◌∙◌, subst, arith}
use Rattle.at_fixed.specs.declared.rounding.Coords.{Coords}
use Rattle.at_fixed.specs.Fixed.{exact_quotient, rounded_quotient, quotient}
use Rattle.at_fixed.proofs.Sizes.{pow_positive}
use Rattle.at_fixed.proofs.PowersOfTen.{half_power}
use Rattle.at_fixed.proofs.Quotients.{reduced_exact, reduced_rounded}
use Rattle.at_fixed.proofs.units.reduced.Goals as goal

pub returns-in-Exact-clause-near : goal.returns-in-Exact-clause-near
returns-in-Exact-clause-near c near unit rest small cut =
    let at_power : c.exact.result ≡ exact_quotient (c.args.kept * unit + rest) (10 ^ c.args.shift * unit) =
    (rw (c.is_partial.ensures, c.parted-whole.ensures.whole, c.parted-whole.ensures.rest) at c.exact.ensures.value)
    ∙ sym (reduced_exact c.args.kept (10 ^ c.args.shift) unit rest c.args.is_cut (pow_positive c.args.shift) small cut) in
    let R : Coords → Type 0 = λ how. c.exact.result ≡ quotient how (c.args.kept * unit + rest) (10 ^ c.args.shift * unit) in
    subst R (sym c.in-Exact.is) at_power

pub returns-in-Round-clause-near : goal.returns-in-Round-clause-near
returns-in-Round-clause-near c near unit rest small cut =
    let power = 10 ^ c.args.shift in
    let even : 2 * (power / 2) ≡ power = half_power c.args.shift c.requires.some in
    let positive : 0 < power / 2 = omega (arith, even, pow_positive c.args.shift) in
    let at_power : c.rounded.result ≡ rounded_quotient (c.args.kept * unit + rest) (power * unit) =
    (rw (c.parted-whole.ensures.whole, c.parted-whole.ensures.rest, c.power_of_ten.ensures) at c.rounded.ensures.value)
    ∙ sym (reduced_rounded c.args.kept power (power / 2) unit rest c.args.is_cut even positive small cut) in
    let R : Coords → Type 0 = λ how. c.rounded.result ≡ quotient how (c.args.kept * unit + rest) (10 ^ c.args.shift * unit) in
    subst R (sym c.in-Round.is) at_power
