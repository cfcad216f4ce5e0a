use Rattle.std.proofs.Common.{◌==◌, true≢false, sym, ◌∙◌, ap}
use Rattle.at_lex.proofs.NumberLemmas.{letter_power}
use Rattle.at_lex.proofs.numbers.exponent_len.Goals as goal

pub returns : goal.returns
returns c = letter_power c.args.text.now c.power_sign_len-sign.result c.digit_len-digits.result (λ e. true≢false (sym (c.is_empty.ensures ∙ ap (λ n. n == 0) e) ∙ c.if-is_empty.false))
    (sym c.is_letter.ensures ∙ c.if-not-is_letter.false) c.power_sign_len-sign.ensures.fits c.power_sign_len-sign.ensures.sign c.digit_len-digits.ensures c.if-digits-eq0.false
