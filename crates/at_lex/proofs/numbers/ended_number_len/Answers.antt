use Rattle.std.proofs.Common.{◌+◌, ◌<◌, take, drop, arith, subst, sym, ◌∙◌}
use Rattle.at_fixed.specs.Numerals.{IsJsonWhole}
use Rattle.at_lex.specs.EndedNumbers.{IsFraction, IsPower}
use Rattle.at_lex.proofs.FrontLemmas.{suffix_is}
use Rattle.at_lex.proofs.NumberLemmas.{parts_number}
use Rattle.at_lex.proofs.numbers.ended_number_len.Goals as goal

pub returns-then-not-is_run : goal.returns-then-not-is_run
returns-then-not-is_run c =
    let w = c.args.text.now in let s = c.sign_len-sign.result in let p = c.whole_len-whole.result in let f = c.in_ok-fraction.fraction in let x = c.in_ok-exponent.exponent in
    let some : 0 < p = omega (arith, c.if-whole-eq0.false) in
    let whole : IsJsonWhole (take p (drop s w)) = subst (λ v. IsJsonWhole (take p v)) (suffix_is w s) (c.whole_len-whole.ensures.whole some) in
    let fraction : IsFraction (drop (s + p) w) f = subst (λ v. IsFraction v f) (suffix_is w (s + p)) c.in_ok-fraction.ensures in
    let power : IsPower (drop (s + p + f) w) x = subst (λ v. IsPower v x) (suffix_is w (s + p + f)) c.in_ok-exponent.ensures in
    record {
      some = omega (arith, some);
      ends = c.if-len-text.true;
      number = parts_number w s p f x c.sign_len-sign.ensures.sign whole fraction power;
      behind = sym c.is_run.ensures ∙ c.if-not-is_run.true;
    }
