use Rattle.std.proofs.lemmas.Result.{IfOk-weaker}
use Rattle.at_hull.specs.Growth.{held}
use Rattle.at_query.proofs.Hulls.{shape_grown}
use Rattle.at_query.proofs.answer.shape_hulls.take_shape.Goals as goal

pub returns : goal.returns
returns c = IfOk-weaker c.take_polygons.result _ _
    (λ u grown. shape_grown c.args.shape (held c.args.hull.now) (held c.take_path.new.hull) (held c.take_paths.new.hull) (held c.take_polygons.new.hull) c.in_ok-take_path.ensures c.in_ok-take_paths.ensures grown)
    c.take_polygons.ensures
