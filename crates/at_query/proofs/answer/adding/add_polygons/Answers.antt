use Rattle.std.proofs.Common.{List, ◌++◌, ap, subst, ◌∙◌, arith}
use Rattle.at_geom.specs.declared.positions.Pos.{Pos}
use Rattle.at_geom.specs.declared.shapes.Polygon.{Polygon}
use Rattle.at_geom.specs.Shapes.{joined}
use Rattle.at_hull.specs.Growth.{HaveOneHull, held}
use Rattle.at_query.proofs.Hulls.{more_grown}
use Rattle.at_query.proofs.answer.adding.add_polygons.Goals as goal

pub loop-polygon-preserved : goal.loop-polygon-preserved
loop-polygon-preserved c =
    let P : List (List Pos) → Type 0 = λ z. HaveOneHull (held c.loop-polygon.hull ++ joined z) (held c.add_paths.new.hull) in
    more_grown (λ (polygon : Polygon). joined polygon.rings) (held c.args.hull.now) (held c.loop-polygon.hull) (held c.add_paths.new.hull) c.args.polygons.now c.loop-polygon.polygon-index c.polygon-item.result (omega arith)
    c.loop-polygon.invariant (subst P (c.as_slice.ensures ∙ ap (λ (polygon : Polygon). polygon.rings) c.polygon-item.is) c.in_ok-add_paths.ensures)
