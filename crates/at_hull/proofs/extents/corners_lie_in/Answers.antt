use Rattle.std.proofs.Common.{◌≡◌, rules}
use Rattle.at_hull.proofs.Corners.{adds_nothing_within, four_within, one_within}
use Rattle.at_hull.proofs.extents.corners_lie_in.Goals as goal

pub returns-then-eq : goal.returns-then-eq
returns-then-eq c = λ _.
    let s : c.args.extent.low ≡ c.args.extent.high = search rules in
    adds_nothing_within c.args.hull.now c.args.extent c.requires.own (one_within c.args.hull.now c.args.extent s (c.is_within.ensures c.if-not-is_within.false))

pub returns : goal.returns
returns c = λ h.
    adds_nothing_within c.args.hull.now c.args.extent c.requires.own
    (four_within c.args.hull.now c.args.extent c.corner.result c.corner-2.result c.corner.ensures.is c.corner-2.ensures.is
    (c.is_within.ensures c.if-not-is_within.false) (c.is_within-2.ensures c.if-not-is_within-2.false) (c.is_within-3.ensures c.if-not-is_within-3.false) (c.is_within-4.ensures h))
