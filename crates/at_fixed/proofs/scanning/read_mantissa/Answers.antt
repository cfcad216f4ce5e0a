use Rattle.std.proofs.Common.{sym, ◌∙◌}
use Rattle.at_fixed.proofs.Points.{plain_by}
use Rattle.at_fixed.proofs.scanning.read_mantissa.Goals as goal

pub returns-else-has_point : goal.returns-else-has_point
returns-else-has_point c = plain_by c.args.notation c.args.text.now c.read_whole-whole.result c.read_whole-whole.ensures
    (sym c.has_point.ensures ∙ c.if-has_point.false)
