use Rattle.std.proofs.Common.{sym, ◌∙◌}
use Rattle.at_fixed.proofs.Points.{plain_by}
use Rattle.at_fixed.proofs.plain_scanning.near_front.Goals as goal

pub returns-then-not-has_point : goal.returns-then-not-has_point
returns-then-not-has_point c =
    (plain_by c.args.notation c.args.text.now c.in_ok-whole.whole c.in_ok-whole.ensures.reads.0 (sym c.has_point.ensures ∙ c.if-not-has_point.true), c.in_ok-whole.ensures.reads.1)
