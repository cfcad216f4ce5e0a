use Rattle.std.proofs.Common.{Some, Ok, refl, sym, ◌∙◌, ap, subst}
use Rattle.at_geom.specs.Shapes.{empty_shape}
use Rattle.at_geojson.specs.Objects.{feature_shape, JoinsFeature}
use Rattle.at_geojson.specs.Features.{IsGeometryOf}
use Rattle.at_geojson.proofs.SeenParts.{held_joins, fault_joins}
use Rattle.at_geojson.proofs.at_once.features.part_in.Goals as goal

pub returns-in_ok-held_part-in-None : goal.returns-in_ok-held_part-in-None
returns-in_ok-held_part-in-None c o texts none same =
    let absent = subst (λ z. IsGeometryOf c.args.algebra.now.query z o) c.in-None.is none in
    subst (λ z. JoinsFeature c.args.algebra.now.query c.args.at (feature_shape z) (Ok texts) (Ok c.in_ok-held_part-in-None.field-0)) (sym absent) (c.in_ok-held_part-in-None.field-0, refl, c.in_ok-held_part-in-None.ensures empty_shape texts c.empty_shape.ensures same)

pub returns-in_ok-held_part-in-Ok : goal.returns-in_ok-held_part-in-Ok
returns-in_ok-held_part-in-Ok c o texts seen same = held_joins c.args.algebra.now c.args.at (feature_shape o) _ texts c.args.hold _
    (subst (λ z. IsGeometryOf c.args.algebra.now.query z o) (c.in-Some.is ∙ ap Some c.in-Ok.is) seen) same c.in_ok-held_part-in-Ok.ensures

pub returns-in-Err : goal.returns-in-Err
returns-in-Err c o texts seen same = fault_joins c.args.algebra.now c.args.at (feature_shape o) _ texts
    (subst (λ z. IsGeometryOf c.args.algebra.now.query z o) (c.in-Some.is ∙ ap Some c.in-Err.is) seen)
