use Rattle.std.proofs.Common.{◌∙◌, FitsSigned, w64, rules, sym}
use Rattle.std.proofs.lemmas.Int.{to_z-of_z}
use Rattle.at_fixed.proofs.Reaches.{whole_plain}
use Rattle.at_fixed.proofs.plain_numbers.ended_number.Goals as goal

pub returns : goal.returns
returns c =
    let fits : FitsSigned w64 c.with_sign.result = search rules in
    whole_plain c.args.notation c.args.text.now c.args.digits c.args.how c.in_ok-whole.whole _ c.in_ok-whole.ensures.whole
    (sym c.is_exponent.ensures ∙ c.if-is_exponent.false) (to_z-of_z w64 c.with_sign.result fits ∙ c.with_sign.ensures)
