use Rattle.std.proofs.Common.{sym, ◌∙◌}
use Rattle.at_fixed.proofs.Reaches.{valued_by}
use Rattle.at_fixed.proofs.number_ends.sure_end.Goals as goal

pub returns-then-surely_fits : goal.returns-then-surely_fits
returns-then-surely_fits c =
    valued_by c.args.notation c.args.text.now c.in_ok-number.number c.args.digits c.args.how c.in_ok-number.ensures.reads (sym c.is_exponent.ensures ∙ c.if-is_exponent.false) (c.surely_fits.ensures c.if-surely_fits.true)
