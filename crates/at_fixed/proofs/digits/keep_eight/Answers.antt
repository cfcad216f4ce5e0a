use Rattle.std.proofs.Common.{◌+◌, ◌-◌, ◌*◌, ◌^◌, ◌<◌, rules, arith}
use Rattle.std.proofs.lemmas.Bool.{ltb-true}
use Rattle.at_fixed.specs.NumberSoFar.{KeepsDigits}
use Rattle.at_fixed.proofs.EightDigits.{next_kept}
use Rattle.at_fixed.proofs.digits.keep_eight.Goals as goal

kept : (c : goal.After-power_of_ten) → KeepsDigits c.args.text.now c.args.from (c.args.from + c.leading_digits-count.result.0) c.args.before
    (c.args.before * c.power_of_ten.result + c.leading_digits-count.result.1)
kept c =
    let eight = c.leading_digits-count.ensures in
    let room : c.args.before < 10 ^ (19 - c.leading_digits-count.result.0) = search rules in
    next_kept c.args.text.now c.args.from c.leading_digits-count.result.0 c.args.before c.leading_digits-count.result.1 c.power_of_ten.result
    c.requires eight.few eight.digits eight.value c.power_of_ten.ensures room

pub overflow_mul-result : goal.overflow_mul-result
overflow_mul-result c = record { fits = omega (arith, (kept c).fits) }

pub overflow_add-result-2 : goal.overflow_add-result-2
overflow_add-result-2 c = record { fits = omega (arith, (kept c).fits) }

pub returns : goal.returns
returns c =
    let eight = c.leading_digits-count.ensures in
    record {
      keeps = kept c;
      stops = λ e _. eight.stops (ltb-true c.leading_digits-count.result.0 8 e);
      filled = λ e. grind (arith, e, eight.few);
    }
