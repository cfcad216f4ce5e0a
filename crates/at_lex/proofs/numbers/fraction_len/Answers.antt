use Rattle.std.proofs.Common.{◌==◌, true≢false, sym, ◌∙◌, ap}
use Rattle.at_lex.proofs.NumberLemmas.{point_fraction}
use Rattle.at_lex.proofs.numbers.fraction_len.Goals as goal

pub returns : goal.returns
returns c = point_fraction c.args.text.now c.digit_len-digits.result (λ e. true≢false (sym (c.is_empty.ensures ∙ ap (λ n. n == 0) e) ∙ c.if-is_empty.false)) c.if-text-ne46.false c.digit_len-digits.ensures c.if-digits-eq0.false
