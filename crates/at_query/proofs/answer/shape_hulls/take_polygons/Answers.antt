use Rattle.at_geom.specs.declared.shapes.Polygon.{Polygon}
use Rattle.at_geom.specs.Shapes.{joined}
use Rattle.at_hull.specs.Growth.{held}
use Rattle.at_query.proofs.Hulls.{more_taken}
use Rattle.at_query.proofs.answer.shape_hulls.take_polygons.Goals as goal

pub loop-polygon-preserved : goal.loop-polygon-preserved
loop-polygon-preserved c =
    more_taken (λ (polygon : Polygon). joined polygon.rings) (held c.args.hull.now) (held c.loop-polygon.hull) (held c.take_paths.new.hull) c.loop-polygon.yielded c.in-Some.polygon c.loop-polygon.invariant c.in_ok-take_paths.ensures
