use Rattle.std.proofs.Common.{◌+◌, arith}
use Rattle.at_hull.proofs.Insides.{within_by}
use Rattle.at_hull.proofs.inside.is_within.Goals as goal

pub returns : goal.returns
returns c = λ h.
    let n = c.if-hull-lt3.false in
    let l = c.wedge-at.ensures in
    within_by c.args.hull.now c.args.p _ _ _ _ 0 c.wedge-at.result (c.wedge-at.result + 1) n (omega (arith, n)) (omega (arith, l)) (omega (arith, l))
    (c.is_at_most.ensures c.if-not-is_at_most.false) (c.is_in_triangle.ensures h)
