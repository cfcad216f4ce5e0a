use Rattle.std.proofs.Common.{◌≡◌, Ok, Err, sym, subst}
use Rattle.at_fixed.specs.declared.rounding.Coords.{Coords}
use Rattle.at_fixed.specs.declared.rounding.Coords.TheVariants.{Exact, Round}
use Rattle.at_fixed.specs.declared.rounding.FixedFault.TheVariants.{Scale}
use Rattle.at_fixed.specs.Fixed.{quotient}
use Rattle.at_fixed.proofs.Quotients.{far_below}
use Rattle.at_fixed.proofs.units.vanishing.Goals as goal

pub returns-in-Exact-clause-value : goal.returns-in-Exact-clause-value
returns-in-Exact-clause-value c p q positive small =
    let P : Coords → Type 0 = λ how. Err Scale ≡ quotient how p q in
    subst P (sym c.in-Exact.is) (sym (far_below Exact p q positive small))

pub returns-in-Round-clause-value : goal.returns-in-Round-clause-value
returns-in-Round-clause-value c p q positive small =
    let P : Coords → Type 0 = λ how. Ok 0 ≡ quotient how p q in
    subst P (sym c.in-Round.is) (sym (far_below Round p q positive small))
