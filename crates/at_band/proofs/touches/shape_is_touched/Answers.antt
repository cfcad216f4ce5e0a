use Rattle.std.proofs.Common.{refl}
use Rattle.at_geom.proofs.Elements.{untrue}
use Rattle.at_band.proofs.TouchedShapes.{on_by_points, on_by_lines, on_by_polygons, by_parts}
use Rattle.at_band.proofs.touches.shape_is_touched.Goals as goal

pub returns-then-points_are_touched : goal.returns-then-points_are_touched
returns-then-points_are_touched c =
    let said = rw c.as_slice.ensures at c.points_are_touched.ensures in
    (λ _. on_by_points c.args.p c.args.shape.now (said.0 c.if-points_are_touched.true), λ _. refl)

pub returns-then-paths_are_touched : goal.returns-then-paths_are_touched
returns-then-paths_are_touched c =
    let said = rw c.as_slice-2.ensures at c.paths_are_touched.ensures in
    (λ _. on_by_lines c.args.p c.args.shape.now (said.0 c.if-paths_are_touched.true), λ _. refl)

pub returns : goal.returns
returns c =
    let first = rw c.as_slice.ensures at c.points_are_touched.ensures in
    let second = rw c.as_slice-2.ensures at c.paths_are_touched.ensures in
    let third = rw c.as_slice-3.ensures at c.polygons_are_touched.ensures in (
      λ t. on_by_polygons c.args.p c.args.shape.now (third.0 t),
      λ h. third.1 (by_parts c.args.p c.args.shape.now (untrue c.points_are_touched.result c.if-points_are_touched.false first.1) (untrue c.paths_are_touched.result c.if-paths_are_touched.false second.1) h),
    )
