use Rattle.std.proofs.Common.{◌++◌, sym, subst, ◌∙◌}
use Rattle.at_geom.specs.Shapes.{positions}
use Rattle.at_hull.specs.Growth.{HaveOneHull, Growth, held}
use Rattle.at_hull.proofs.Corners.{adds_nothing_round}
use Rattle.at_query.proofs.Hulls.{extent_in_range, no_position}
use Rattle.at_query.proofs.answer.adding.add_shape.Goals as goal

pub covers-requires : goal.covers-requires
covers-requires c = extent_in_range c.args.shape.now c.in-Some.around c.requires (sym c.in-Some.is ∙ c.extent.ensures)

pub returns-in_default : goal.returns-in_default
returns-in_default c = no_position c.args.shape.now (held c.args.hull.now) (sym c.in_default.is ∙ c.extent.ensures)

pub returns-then-covers : goal.returns-then-covers
returns-then-covers c =
    let P : Growth → Type 0 = λ z. HaveOneHull (held c.args.hull.now ++ positions c.args.shape.now) (held z) in
    subst P (sym c.covers.ensures.same)
    (adds_nothing_round (held c.args.hull.now) (positions c.args.shape.now) c.in-Some.around (sym c.extent.ensures ∙ c.in-Some.is) (c.covers.ensures.covered c.if-covers.true))
