use Rattle.std.proofs.Common.{◌++◌, subst}
use Rattle.at_geom.specs.Shapes.{positions}
use Rattle.at_hull.specs.Growth.{HaveOneHull, Growth, held}
use Rattle.at_query.proofs.Hulls.{hull_if_ok}
use Rattle.at_query.proofs.answer.shape_hulls.hull_of_many.Goals as goal

pub returns : goal.returns
returns c =
    let P : Growth → Type 0 = λ g. HaveOneHull (held g ++ positions c.args.shape) (held c.take_shape.new.hull) in
    hull_if_ok (positions c.args.shape) (held c.take_shape.new.hull) c.into_hull.result (subst P c.new-builder.ensures c.in_ok-take_shape.ensures) c.into_hull.ensures.hull c.into_hull.ensures.in_range
