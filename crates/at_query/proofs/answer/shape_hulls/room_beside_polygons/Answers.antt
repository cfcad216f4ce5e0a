use Rattle.std.proofs.Common.{◌<◌, List, length, ap, subst, ◌∙◌, arith}
use Rattle.at_geom.specs.declared.positions.Pos.{Pos}
use Rattle.at_geom.specs.declared.shapes.Polygon.{Polygon}
use Rattle.at_geom.specs.Shapes.{joined}
use Rattle.at_query.proofs.Hulls.{no_room}
use Rattle.at_query.proofs.answer.shape_hulls.room_beside_polygons.Goals as goal

pub returns-in_err-left-clause-none : goal.returns-in_err-left-clause-none
returns-in_err-left-clause-none c =
    let P : List (List Pos) → Type 0 = λ z. c.loop-polygon.left < length (joined z) in
    no_room (λ (polygon : Polygon). joined polygon.rings) c.args.polygons.now c.loop-polygon.polygon-index c.args.room c.loop-polygon.left c.polygon-item.result c.from_residual.result (omega arith) c.loop-polygon.invariant
    (subst P (c.as_slice.ensures ∙ ap (λ (polygon : Polygon). polygon.rings) c.polygon-item.is) c.in_err-left.ensures.none)
