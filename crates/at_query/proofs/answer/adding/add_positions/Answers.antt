use Rattle.std.proofs.Common.{List, ◌++◌, subst}
use Rattle.std.proofs.lemmas.Result.{IfOk-weaker}
use Rattle.at_geom.specs.declared.positions.Pos.{Pos}
use Rattle.at_geom.specs.declared.shapes.Polygon.{Polygon}
use Rattle.at_geom.specs.Shapes.{joined, positions_of_polygons}
use Rattle.at_hull.specs.Growth.{HaveOneHull, held}
use Rattle.at_query.proofs.Hulls.{shape_grown}
use Rattle.at_query.proofs.answer.adding.add_positions.Goals as goal

pub returns : goal.returns
returns c =
    let A : List Pos → Type 0 = λ z. HaveOneHull (held c.args.hull.now ++ z) (held c.add.new.self) in
    let B : List (List Pos) → Type 0 = λ z. HaveOneHull (held c.add.new.self ++ joined z) (held c.add_paths.new.hull) in
    let C : List Polygon → Type 0 = λ z. HaveOneHull (held c.add_paths.new.hull ++ positions_of_polygons z) (held c.add_polygons.new.hull) in
    IfOk-weaker c.add_polygons.result _ _
    (λ u grown. shape_grown c.args.shape.now (held c.args.hull.now) (held c.add.new.self) (held c.add_paths.new.hull) (held c.add_polygons.new.hull)
    (subst A c.as_slice.ensures c.in_ok-add.ensures.held) (subst B c.as_slice-2.ensures c.in_ok-add_paths.ensures) (subst C c.as_slice-3.ensures grown)) c.add_polygons.ensures
