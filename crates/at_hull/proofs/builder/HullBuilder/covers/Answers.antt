use Rattle.std.proofs.Common.{List, subst}
use Rattle.at_geom.specs.declared.positions.Pos.{Pos}
use Rattle.at_hull.specs.Growth.{Growth, AddsNothing, held}
use Rattle.at_hull.proofs.Corners.{adds_nothing_more}
use Rattle.at_hull.proofs.builder.HullBuilder.covers.Goals as goal

pub returns-then-lies_in-clause-covered : goal.returns-then-lies_in-clause-covered
returns-then-lies_in-clause-covered c = λ _.
    subst (λ (g : Growth). AddsNothing (held g) c.args.extent) c.self.view_is
    (adds_nothing_more c.self.inside.hull.items c.self.inside.waiting.items c.args.extent (c.lies_in.ensures c.if-lies_in.true c.self.inside.hull.items c.self.invariant.covered))

pub returns-clause-covered : goal.returns-clause-covered
returns-clause-covered c = λ _.
    let h = subst (λ (l : List Pos). AddsNothing l c.args.extent) c.as_slice.ensures.value (c.corners_lie_in.ensures c.if-not-corners_lie_in.false) in
    subst (λ (g : Growth). AddsNothing (held g) c.args.extent) c.self.view_is
    (adds_nothing_more c.self.inside.hull.items c.self.inside.waiting.items c.args.extent h)
