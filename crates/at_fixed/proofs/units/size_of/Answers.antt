use Rattle.std.proofs.Common.{◌≡◌, ℕ, ◌+◌, ◌-◌, ◌*◌, ◌^◌, ◌<◌, ◌≤◌, cond, nat_lt, length, Ok, Err, ◌∙◌, ap, subst, arith}
use Rattle.at_fixed.specs.declared.rounding.FixedFault.TheVariants.{Range}
use Rattle.at_fixed.specs.declared.scanning.Decimal.{Decimal}
use Rattle.at_fixed.specs.Numerals.{Numeral}
use Rattle.at_fixed.specs.Fixed.{largest, quotient, mantissa, fraction_digits, exponent_above, exponent_below}
use Rattle.at_fixed.specs.Decimals.{IsDecimalOf}
use Rattle.at_fixed.proofs.Sizes.{sized_up, sized_down, Sized, one_side}
use Rattle.at_fixed.proofs.units.size_of.Goals as goal

sized_of : (decimal : Decimal) (n : Numeral) (digits : ℕ) (h : IsDecimalOf decimal n) → 0 < decimal.kept → digits < 256
    → Sized decimal.kept h.dropped decimal.is_cut (mantissa n) digits (length (fraction_digits n)) h.above h.below (exponent_above n.exponent) (exponent_below n.exponent)
sized_of decimal n digits h positive few = record {
  keeps = h.keeps;
  positive = positive;
  above_is = h.above_is;
  below_is = h.below_is;
  one_side = one_side n.exponent;
  few_dropped = h.few_dropped;
  few_digits = h.few_digits;
  few_places = few;
}

pub returns-then-decimal-up-clause-value : goal.returns-then-decimal-up-clause-value
returns-then-decimal-up-clause-value c n h =
    let K = c.args.decimal.kept in let f = length (fraction_digits n) in
    let shift : c.args.decimal.up + c.args.digits - c.args.decimal.down ≡ h.dropped + h.above + c.args.digits - (f + h.below) = omega (arith, h.up, h.down) in
    let sized = sized_of c.args.decimal n c.args.digits h (omega arith) (omega arith) in
    let order : f + h.below ≤ h.dropped + h.above + c.args.digits = omega (arith, h.up, h.down, c.if-decimal-up.true) in
    c.enlarged.ensures.value ∙ (ap (λ e. cond (nat_lt largest (K * 10 ^ e)) (Err Range) (Ok (K * 10 ^ e))) shift
    ∙ sized_up c.args.how K h.dropped (mantissa n) c.args.digits f h.above h.below (exponent_above n.exponent) (exponent_below n.exponent) c.args.decimal.is_cut sized order)

pub returns-else-decimal-up-clause-value : goal.returns-else-decimal-up-clause-value
returns-else-decimal-up-clause-value c n h =
    let K = c.args.decimal.kept in let f = length (fraction_digits n) in
    let shift : c.args.decimal.down - (c.args.decimal.up + c.args.digits) ≡ f + h.below - (h.dropped + h.above + c.args.digits) = omega (arith, h.up, h.down) in
    let sized = sized_of c.args.decimal n c.args.digits h (omega arith) (omega arith) in
    let order : h.dropped + h.above + c.args.digits < f + h.below = omega (arith, h.up, h.down, c.if-decimal-up.false) in
    let Near : ℕ → Type 0 = λ k. k < 20 → (unit rest : ℕ) → rest < unit → c.args.decimal.is_cut ≡ nat_lt 0 rest
    → c.reduced.result ≡ quotient c.args.how (K * unit + rest) (10 ^ k * unit) in
    let Far : ℕ → Type 0 = λ k. 20 ≤ k → (p q : ℕ) → 0 < p → 2 * p < q → c.reduced.result ≡ quotient c.args.how p q in
    sized_down c.args.how K h.dropped (mantissa n) c.args.digits f h.above h.below (exponent_above n.exponent) (exponent_below n.exponent) c.args.decimal.is_cut
    c.reduced.result sized order (subst Near shift c.reduced.ensures.near) (subst Far shift c.reduced.ensures.far)
